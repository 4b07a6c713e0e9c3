use Rattle.std.proofs.Common.{◌≡◌, [], length}
use Rattle.dns_names.proofs.ReadNames.{Filled, labels_with}
use Rattle.dns_names.proofs.name.Name.set_read.Given as goal

abbrev pub invariant-loop-rest : goal.invariant-loop-rest
invariant-loop-rest l = (l.self ≡ l.fn.self) × Filled l.wire l.at l.rest (labels_with [] [] l.text)

abbrev pub decreases-loop-rest : goal.decreases-loop-rest
decreases-loop-rest l = length l.rest
