use Rattle.std.proofs.Common.{length, ◌-◌}
use Rattle.plain_chain.proofs.evaluating.+decide_others.Given as goal

abbrev pub decreases-decide_others : goal.decreases-decide_others
decreases-decide_others g l = length l.asking.chain.now.extras - l.at
