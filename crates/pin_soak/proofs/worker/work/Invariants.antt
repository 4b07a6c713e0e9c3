use Rattle.pin_soak.specs.Workers.{IsIdle}
use Rattle.pin_soak.proofs.worker.work.Given as goal

abbrev pub invariant-loop : goal.invariant-loop
invariant-loop l = IsIdle l.table l.worker
