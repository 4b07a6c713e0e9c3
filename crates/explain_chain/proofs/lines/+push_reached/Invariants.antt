use Rattle.std.proofs.Common.{length}
use Rattle.explain_chain.proofs.lines.+push_reached.Given as goal

abbrev pub decreases-push_reached : goal.decreases-push_reached
decreases-push_reached l = length l.trail.now
