use Rattle.std.specs.Prelude.{length}
use Rattle.std.specs.List.{All}
use Rattle.std.specs.Vec.{vec_len}
use Rattle.cache_shards.specs.Seats.{IsSeatOf, views_of}
use Rattle.cache_soak.specs.Shares.{PartsBeside}
use Rattle.cache_soak.specs.Workers.{IsWorking}
use Rattle.cache_soak.proofs.crowd.gather.Given as goal

abbrev pub invariant-loop-worker : goal.invariant-loop-worker
invariant-loop-worker l = IsSeatOf l.cache l.seat.seats.items × All (IsWorking l.cache) l.workers.items
    × PartsBeside 5 (length l.workers.items) (views_of l.seat.seats.items)

abbrev pub decreases-loop-worker : goal.decreases-loop-worker
decreases-loop-worker l = vec_len l.workers
