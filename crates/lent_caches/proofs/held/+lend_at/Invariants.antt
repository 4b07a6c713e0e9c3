use Rattle.std.proofs.Common.{length}
use Rattle.lent_caches.proofs.held.+lend_at.Given as goal

abbrev pub decreases-lend_at : goal.decreases-lend_at
decreases-lend_at l = length l.held.now
