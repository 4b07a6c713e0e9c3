use Rattle.std.proofs.Common.{subst, false}
use Rattle.std.proofs.lemmas.List.{take_all}
use Rattle.std.specs.List.{AllByRecursion}
use Rattle.dns_write.specs.Tails.{IsInside}
use Rattle.dns_write.proofs.Listings.{all_more}
use Rattle.dns_write.proofs.plan.are_inside.Goals as goal

pub loop-spot-init : goal.loop-spot-init
loop-spot-init c = tt

pub loop-spot-preserved : goal.loop-spot-preserved
loop-spot-preserved c =
    all_more (IsInside c.args.size) c.args.spots.now c.loop-spot.spot-index (record { at = 0; behind = 0; in_anchor = false }) c.loop-spot.invariant c.loop-spot-test.true (c.is_inside.ensures c.if-not-is_inside.false)

pub returns : goal.returns
returns c = λ done. subst (AllByRecursion (IsInside c.args.size)) (take_all c.loop-spot.spot-index c.args.spots.now c.loop-spot-test.false) c.loop-spot.invariant
