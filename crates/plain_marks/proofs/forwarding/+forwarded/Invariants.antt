use Rattle.std.proofs.Common.{length}
use Rattle.plain_marks.proofs.forwarding.+forwarded.Given as goal

abbrev pub decreases-forwarded : goal.decreases-forwarded
decreases-forwarded l = length l.plans.now
