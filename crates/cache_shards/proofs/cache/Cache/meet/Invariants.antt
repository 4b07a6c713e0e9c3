use Rattle.std.proofs.Common.{◌≤◌, take, length}
use Rattle.cache_shards.specs.Seats.{IsSeatOf, AreSeats, views_of}
use Rattle.cache_shards.proofs.SeatLists.{MetBehind}
use Rattle.cache_shards.proofs.cache.Cache.meet.Given as goal

abbrev pub invariant-loop-one : goal.invariant-loop-one
invariant-loop-one g l = IsSeatOf l.self l.seat.seats.items × AreSeats l.self.capacities l.self.judge (take
    (length l.others.items) l.self.ids) l.others.items
    × (length l.others.items ≤ 8) × MetBehind (length l.others.items) (views_of l.fn.seat.seats.items)
    (views_of l.fn.other.seats.items) (views_of l.others.items) (views_of l.seat.seats.items)

abbrev pub decreases-loop-one : goal.decreases-loop-one
decreases-loop-one g l = length l.others.items
