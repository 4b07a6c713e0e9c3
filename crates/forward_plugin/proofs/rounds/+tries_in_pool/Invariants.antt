use Rattle.std.proofs.Common.{length}
use Rattle.forward_plugin.proofs.rounds.+tries_in_pool.Given as goal

abbrev pub decreases-tries_in_pool : goal.decreases-tries_in_pool
decreases-tries_in_pool g l = length l.round.now.order.now
