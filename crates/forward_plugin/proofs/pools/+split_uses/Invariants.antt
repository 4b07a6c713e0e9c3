use Rattle.std.proofs.Common.{length}
use Rattle.forward_plugin.proofs.pools.+split_uses.Given as goal

abbrev pub decreases-split_uses : goal.decreases-split_uses
decreases-split_uses l = length l.uses.now
