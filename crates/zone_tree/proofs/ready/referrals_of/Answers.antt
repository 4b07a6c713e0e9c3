use Rattle.zone_tree.proofs.Glue.{referrals_more}
use Rattle.zone_tree.proofs.ready.referrals_of.Goals as goal

pub loop-i-preserved : goal.loop-i-preserved
loop-i-preserved c =
    rw c.in_ok-push.ensures.items (referrals_more c.args.tree.now c.loop-i.made.items c.in_ok-tail.tail c.loop-i.i c.loop-i.invariant c.in_ok-tail.ensures)
