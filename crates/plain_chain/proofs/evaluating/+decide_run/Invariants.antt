use Rattle.std.proofs.Common.{length, ◌-◌}
use Rattle.plain_chain.proofs.evaluating.+decide_run.Given as goal

abbrev pub decreases-decide_run : goal.decreases-decide_run
decreases-decide_run g l = length l.middle.now
