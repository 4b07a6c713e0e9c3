use Rattle.std.proofs.Common.{length}
use Rattle.dns_write.proofs.FirstName.{Walk}
use Rattle.dns_write.proofs.offsets.find_in_first.Given as goal

abbrev pub invariant-loop-rest : goal.invariant-loop-rest
invariant-loop-rest l = Walk l.first l.suffix l.kept l.rest l.left

abbrev pub decreases-loop-rest : goal.decreases-loop-rest
decreases-loop-rest l = length l.rest
