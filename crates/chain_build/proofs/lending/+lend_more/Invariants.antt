use Rattle.std.proofs.Common.{length}
use Rattle.chain_build.proofs.lending.+lend_more.Given as goal

abbrev pub decreases-lend_more : goal.decreases-lend_more
decreases-lend_more l = length l.chains.now
