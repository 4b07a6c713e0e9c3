use Rattle.std.proofs.Common.{◌≡◌, ◌≤◌, map}
use Rattle.std.specs.Vec.{vec_len, vec_capacity}
use Rattle.std.specs.NonZero.{non_zero_usize_get}
use Rattle.cache_shards.specs.Answers.{capacities_of}
use Rattle.cache_shards.specs.Seats.{AreSeats, AreNew, views_of}
use Rattle.cache_shards.proofs.cache.Cache.with_room.Given as goal

abbrev pub invariant-loop-at : goal.invariant-loop-at
invariant-loop-at g l = AreSeats (capacities_of (non_zero_usize_get l.fn.success)
    (non_zero_usize_get l.fn.denial)) l.fn.judge (map (λ k. k.table.shared.table_id) l.locks.items) l.seats.items
    × AreNew l.fn.parts (views_of l.seats.items) × (vec_len l.locks ≡ l.at) × (vec_len l.seats ≡ l.at)
    × (8 ≤ vec_capacity l.locks) × (8 ≤ vec_capacity l.seats)
