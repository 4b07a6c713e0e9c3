use Rattle.std.proofs.Common.{◌≡◌, ◌≤◌, map, take}
use Rattle.std.specs.Vec.{vec_len, vec_capacity}
use Rattle.ruled_lock.specs.Steps.{left_view, right_view}
use Rattle.cache_shards.specs.Seats.{IsSeatOf, AreSeats, views_of}
use Rattle.cache_shards.proofs.SeatLists.{stepped}
use Rattle.cache_shards.proofs.cache.Cache.split.Given as goal

abbrev pub invariant-loop-at : goal.invariant-loop-at
invariant-loop-at g l = IsSeatOf l.self l.seat.seats.items × (views_of l.seat.seats.items ≡ stepped left_view l.at
    (views_of l.fn.seat.seats.items))
    × (views_of l.seats.items ≡ map right_view (take l.at (views_of l.fn.seat.seats.items)))
    × AreSeats l.self.capacities l.self.judge (take l.at l.self.ids) l.seats.items
    × (vec_len l.seats ≡ l.at) × (8 ≤ vec_capacity l.seats)
