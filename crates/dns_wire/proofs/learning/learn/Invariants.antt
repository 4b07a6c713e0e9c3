use Rattle.std.proofs.Common.{◌≤◌, length}
use Rattle.dns_wire.proofs.learning.learn.Given as goal

abbrev pub invariant-loop-end : goal.invariant-loop-end
invariant-loop-end l = l.start ≤ length l.bytes

abbrev pub decreases-loop-end : goal.decreases-loop-end
decreases-loop-end l = l.start
