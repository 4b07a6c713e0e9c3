use Rattle.std.specs.Prelude.{◌≡◌, length}
use Rattle.std.specs.List.{All}
use Rattle.cache_shards.specs.Seats.{IsSeatOf, views_of}
use Rattle.cache_soak.specs.Shares.{PartsBeside}
use Rattle.cache_soak.specs.Workers.{IsWorking}
use Rattle.cache_soak.proofs.crowd.enlist.Given as goal

abbrev pub invariant-loop-number : goal.invariant-loop-number
invariant-loop-number l = IsSeatOf l.cache l.seat.seats.items × All (IsWorking l.cache) l.workers.items
    × (length l.workers.items ≡ l.number)
    × PartsBeside 5 l.number (views_of l.seat.seats.items)
