use Rattle.std.proofs.Common.{length}
use Rattle.chain_build.proofs.compiling.+push_hosts.Given as goal

abbrev pub decreases-push_hosts : goal.decreases-push_hosts
decreases-push_hosts l = length l.hosts
