use Rattle.std.proofs.Common.{length}
use Rattle.conformance.proofs.fields.read_name.Given as goal

abbrev pub decreases-loop-size : goal.decreases-loop-size
decreases-loop-size l = length l.rest
