use Rattle.std.proofs.Common.{length}
use Rattle.forward_plugin.proofs.rounds.+tries.Given as goal

abbrev pub decreases-tries : goal.decreases-tries
decreases-tries g l = length l.round.now.order.now
