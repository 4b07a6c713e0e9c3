use Rattle.std.proofs.Common.{◌≡◌, ℕ, ◌<◌}
use Rattle.cache_shards.specs.Seats.{IsSeatOf, WholeAt, views_of}
use Rattle.cache_shards.proofs.cache.Cache.whole.Given as goal

abbrev pub invariant-loop-at : goal.invariant-loop-at
invariant-loop-at g l = IsSeatOf l.self l.seat.seats.items × (views_of l.seat.seats.items ≡ views_of
    l.fn.seat.seats.items)
    × ((k : ℕ) → k < l.at → WholeAt k l.self.capacities (g.J.Judge.just l.self.judge)
    (views_of l.fn.seat.seats.items))
