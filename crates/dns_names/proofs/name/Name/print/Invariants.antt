use Rattle.std.proofs.Common.{◌≡◌, true, length}
use Rattle.dns_names.specs.Name.{lowered}
use Rattle.dns_names.proofs.PrintedNames.{Dotted}
use Rattle.dns_names.proofs.name.Name.print.Given as goal

abbrev pub invariant-loop-label : goal.invariant-loop-label
invariant-loop-label l = Dotted l.fn.text.items l.text.items l.at l.labels l.self × (l.is_small ≡ true → lowered l.labels ≡ l.labels → lowered l.self ≡ l.self)

abbrev pub decreases-loop-label : goal.decreases-loop-label
decreases-loop-label l = length l.labels
