use Rattle.std.proofs.Common.{◌≡◌, ◌++◌, ◌∷◌, [], sym, ◌∙◌, rules}
use Rattle.zone_tree.proofs.Picking.{picked_none, copies_one, copies_none}
use Rattle.zone_tree.proofs.sets.copies.Goals as goal
use Rattle.zone_tree.proofs.sets.copies.Goals.{in-Some+in_ok-copy+in_ok-push, in_default}

pub loop-number-init : goal.loop-number-init
loop-number-init c = c.new-all.ensures.items ∙ sym (picked_none c.args.records.now)

pub loop-number-preserved : goal.loop-number-preserved
loop-number-preserved c =
    elim c.match-record_at.branch [
      | in-Some+in_ok-copy+in_ok-push w ↦
          let is : c.match-record_at.all.items ≡ c.loop-number.all.items ++ w.in-Some.record.now ∷ [] = search rules in
          copies_one c.args.records.now c.loop-number.all.items c.match-record_at.all.items c.args.set.now c.loop-number.number-index w.in-Some.record.now c.loop-number.invariant c.loop-number-test.true w.in-Some.ensures.some is
      | in_default w ↦
          let is : c.match-record_at.all.items ≡ c.loop-number.all.items = search rules in
          is ∙ copies_none c.args.records.now c.loop-number.all.items c.args.set.now c.loop-number.number-index c.loop-number.invariant c.loop-number-test.true w.in_default.ensures.none
    ]
