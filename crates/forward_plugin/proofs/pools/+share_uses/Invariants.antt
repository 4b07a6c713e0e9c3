use Rattle.std.proofs.Common.{length}
use Rattle.forward_plugin.proofs.pools.+share_uses.Given as goal

abbrev pub decreases-share_uses : goal.decreases-share_uses
decreases-share_uses l = length l.plans.now
