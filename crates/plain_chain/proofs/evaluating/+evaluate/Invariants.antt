use Rattle.std.proofs.Common.{length, ◌-◌}
use Rattle.plain_chain.proofs.evaluating.+evaluate.Given as goal

abbrev pub decreases-evaluate : goal.decreases-evaluate
decreases-evaluate g l = length l.front.now
