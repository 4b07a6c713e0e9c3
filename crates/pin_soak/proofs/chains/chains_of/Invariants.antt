use Rattle.std.proofs.Common.{◌≡◌, length}
use Rattle.pin_table.specs.{AreNew}
use Rattle.pin_soak.specs.Chains.{identity_of, log_of}
use Rattle.pin_soak.proofs.chains.chains_of.Given as goal

abbrev pub invariant-loop-worker : goal.invariant-loop-worker
invariant-loop-worker l =
    (length l.chains.items ≡ l.worker) × AreNew identity_of log_of l.serial 0 l.chains.items
