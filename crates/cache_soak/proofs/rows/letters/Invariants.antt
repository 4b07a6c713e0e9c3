use Rattle.cache_shards.specs.Seats.{IsSeatOf}
use Rattle.cache_soak.proofs.rows.letters.Given as goal

abbrev pub invariant-loop-one : goal.invariant-loop-one
invariant-loop-one g l = IsSeatOf l.cache l.seat.seats.items
