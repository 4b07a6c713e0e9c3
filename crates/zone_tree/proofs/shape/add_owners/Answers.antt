use Rattle.std.proofs.Common.{ap, subst}
use Rattle.zone_tree.specs.Tree.{Grows, HasAll}
use Rattle.zone_tree.proofs.Shapes.{no_names, names_more}
use Rattle.zone_tree.proofs.shape.add_owners.Goals as goal

pub loop-record-init : goal.loop-record-init
loop-record-init c = (c.requires.shape, no_names c.args.records.now c.args.table.now c.requires.empty)

pub loop-record-preserved : goal.loop-record-preserved
loop-record-preserved c =
    let owner = ap (λ r. r.owner) c.record.view_is in
    let grows = subst (λ o. Grows c.loop-record.table c.add_owner.new.table o) owner c.in_ok-add_owner.ensures.grows in
    let all = subst (λ o. HasAll c.add_owner.new.table o) owner c.in_ok-add_owner.ensures.all in (
      c.in_ok-add_owner.ensures.shape,
      names_more c.loop-record.table c.add_owner.new.table c.args.records.now c.loop-record.record-index c.record-item.result grows all c.loop-record.invariant.1 c.loop-record-test.true c.record-item.is,
    )
