use Rattle.std.proofs.Common.{length}
use Rattle.lent_caches.proofs.held.+give_back.Given as goal

abbrev pub decreases-give_back : goal.decreases-give_back
decreases-give_back l = length l.held.now
