use Rattle.std.proofs.Common.{length}
use Rattle.chain_trail.proofs.names.+push_first.Given as goal

abbrev pub decreases-push_first : goal.decreases-push_first
decreases-push_first l = length l.directives.now
