use Rattle.std.proofs.Common.{length}
use Rattle.chain_build.proofs.checking.+are_keyed.Given as goal

abbrev pub decreases-are_keyed : goal.decreases-are_keyed
decreases-are_keyed l = length l.blocks.now
