use Rattle.std.proofs.Common.{length}
use Rattle.run_conformance.proofs.plain.count_differences.Given as goal

abbrev pub decreases-loop-mark : goal.decreases-loop-mark
decreases-loop-mark l = length l.rest
