use Rattle.std.proofs.Common.{ap}
use Rattle.cache_shards.specs.Seats.{view_of}
use Rattle.cache_shards.proofs.CallLaws.{seat_stays, seen_legal}
use Rattle.cache_shards.proofs.Merging.{whole_merges}
use Rattle.cache_shards.proofs.cache.Cache.whole_one.Goals as goal

pub returns-clause-own : goal.returns-clause-own
returns-clause-own g c =
    let e = c.whole.ensures in
    let h = c.requires.own in (
      h.0,
      h.1,
      seat_stays g.J.Judge.just c.args.self.now.capacities c.args.self.now.judge h.0 c.args.seat.now
          c.whole.new.seat e.own.0 (ap (λ v. v.start) e.same) h.2,
    )

pub returns-clause-whole : goal.returns-clause-whole
returns-clause-whole g c =
    let e = c.whole.ensures in
    let h = c.requires.own in
    let good = seen_legal g.J.Judge.just c.args.self.now.capacities c.args.self.now.judge h.0 c.args.seat.now
    c.requires.room h.2 e.legal in
    record { legal = good.0; puts = good.1; merges = whole_merges (view_of c.args.seat.now) e.once e.ordered }
