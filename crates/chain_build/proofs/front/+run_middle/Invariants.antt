use Rattle.std.proofs.Common.{length}
use Rattle.chain_build.proofs.front.+run_middle.Given as goal

abbrev pub decreases-run_middle : goal.decreases-run_middle
decreases-run_middle g l = length l.steps.middle.now
