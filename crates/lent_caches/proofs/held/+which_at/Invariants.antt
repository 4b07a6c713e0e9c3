use Rattle.std.proofs.Common.{length}
use Rattle.lent_caches.proofs.held.+which_at.Given as goal

abbrev pub decreases-which_at : goal.decreases-which_at
decreases-which_at l = length l.held.now
