use Rattle.cache_shards.specs.Seats.{IsSeatOf}
use Rattle.cache_soak.proofs.running.turns.Given as goal

abbrev pub invariant-loop : goal.invariant-loop
invariant-loop g l = IsSeatOf l.cache l.seat.seats.items
