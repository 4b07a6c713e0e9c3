use Rattle.cache_shards.proofs.CallLaws.{may_call, called}
use Rattle.cache_shards.proofs.cache.Cache.ask.Goals as goal

pub call-requires-clause-allowed : goal.call-requires-clause-allowed
call-requires-clause-allowed g c = may_call g.J.Judge.just c.args.self.now.capacities c.args.self.now.judge
    c.requires.own.0 c.args.seat.now c.args.call c.requires.own.2 c.requires.just

pub returns-clause-own : goal.returns-clause-own
returns-clause-own g c =
    let e = c.call.ensures in (
      c.requires.own.0,
      c.requires.own.1,
      (called g.J.Judge.just c.args.self.now.capacities c.args.self.now.judge
          c.requires.own.0 c.args.seat.now c.call.new.seat c.args.call c.call.result c.requires.room c.requires.own.2
          e.own.0 e.history e.calls.0 e.calls.1).0,
    )

pub returns-clause-adds : goal.returns-clause-adds
returns-clause-adds g c =
    let e = c.call.ensures in
    (called g.J.Judge.just c.args.self.now.capacities c.args.self.now.judge c.requires.own.0 c.args.seat.now
    c.call.new.seat c.args.call c.call.result c.requires.room c.requires.own.2
    e.own.0 e.history e.calls.0 e.calls.1).1
