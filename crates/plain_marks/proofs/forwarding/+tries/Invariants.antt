use Rattle.std.proofs.Common.{length}
use Rattle.plain_marks.proofs.forwarding.+tries.Given as goal

abbrev pub decreases-tries : goal.decreases-tries
decreases-tries l = length l.order.now
