use Rattle.std.proofs.Common.{length}
use Rattle.chain_build.proofs.lending.+share_more.Given as goal

abbrev pub decreases-share_more : goal.decreases-share_more
decreases-share_more l = length l.chains.now
