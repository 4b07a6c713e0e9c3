use Rattle.cache_soak.specs.Workers.{IsWorking}
use Rattle.cache_soak.proofs.crowd.work.Given as goal

abbrev pub invariant-loop-at : goal.invariant-loop-at
invariant-loop-at g l = IsWorking l.cache l.worker
