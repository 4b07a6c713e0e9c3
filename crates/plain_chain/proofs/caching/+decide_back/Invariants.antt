use Rattle.std.proofs.Common.{length, ◌-◌}
use Rattle.plain_chain.proofs.caching.+decide_back.Given as goal

abbrev pub decreases-decide_back : goal.decreases-decide_back
decreases-decide_back l = length l.back.now
