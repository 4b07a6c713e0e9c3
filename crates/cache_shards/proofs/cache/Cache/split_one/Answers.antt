use Rattle.std.proofs.Common.{ap}
use Rattle.cache_shards.proofs.CallLaws.{seat_stays}
use Rattle.cache_shards.proofs.cache.Cache.split_one.Goals as goal

pub returns-clause-own : goal.returns-clause-own
returns-clause-own g c =
    let e = c.split.ensures in
    let h = c.requires.own in (
      h.0,
      h.1,
      seat_stays g.J.Judge.just c.args.self.now.capacities c.args.self.now.judge h.0 c.args.seat.now c.split.new.seat
          e.own.0 (ap (λ v. v.start) e.left) h.2,
      seat_stays g.J.Judge.just c.args.self.now.capacities c.args.self.now.judge h.0 c.args.seat.now c.split.result
          e.at (ap (λ v. v.start) e.right) h.2,
    )
