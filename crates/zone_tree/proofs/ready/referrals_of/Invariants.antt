use Rattle.zone_tree.specs.Ready.{AreReferrals}
use Rattle.zone_tree.proofs.ready.referrals_of.Given as goal

abbrev pub invariant-loop-i : goal.invariant-loop-i
invariant-loop-i l = AreReferrals l.tree l.made.items l.i
