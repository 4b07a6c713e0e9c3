use Rattle.std.proofs.Common.{length}
use Rattle.chain_trail.proofs.names.+push_extras.Given as goal

abbrev pub decreases-push_extras : goal.decreases-push_extras
decreases-push_extras l = length l.directives.now
