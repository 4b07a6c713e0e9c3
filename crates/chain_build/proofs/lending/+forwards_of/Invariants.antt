use Rattle.std.proofs.Common.{length}
use Rattle.chain_build.proofs.lending.+forwards_of.Given as goal

abbrev pub decreases-forwards_of : goal.decreases-forwards_of
decreases-forwards_of l = length l.back.now
