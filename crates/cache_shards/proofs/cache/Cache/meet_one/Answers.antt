use Rattle.std.proofs.Common.{ap}
use Rattle.cache_shards.proofs.CallLaws.{seat_stays, meets}
use Rattle.cache_shards.proofs.cache.Cache.meet_one.Goals as goal

pub returns-clause-own : goal.returns-clause-own
returns-clause-own g c =
    let e = c.meet.ensures in
    let h = c.requires.own in (
      h.0,
      h.1,
      seat_stays g.J.Judge.just c.args.self.now.capacities c.args.self.now.judge h.0 c.args.seat.now
          c.meet.new.seat e.own.0 (ap (λ v. v.start) e.met.0) h.2,
    )

pub returns-clause-meets : goal.returns-clause-meets
returns-clause-meets g c =
    let e = c.meet.ensures in
    meets c.args.seat.now.seat.me.0 c.args.other.seat.me.0 c.meet.new.seat.seat.me.0 e.apart e.met e.calls.0 e.calls.1
