use Rattle.std.proofs.Common.{length}
use Rattle.chain_build.proofs.compiling.+push_logs.Given as goal

abbrev pub decreases-push_logs : goal.decreases-push_logs
decreases-push_logs l = length l.logs
