use Rattle.std.proofs.Common.{length}
use Rattle.chain_build.proofs.naming.+name_chains.Given as goal

abbrev pub decreases-name_chains : goal.decreases-name_chains
decreases-name_chains l = length l.chains.now
