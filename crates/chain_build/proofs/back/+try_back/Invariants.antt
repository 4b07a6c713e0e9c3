use Rattle.std.proofs.Common.{length}
use Rattle.chain_build.proofs.back.+try_back.Given as goal

abbrev pub decreases-try_back : goal.decreases-try_back
decreases-try_back l = length l.steps.now
