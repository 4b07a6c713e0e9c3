use Rattle.std.proofs.Common.{◌≡◌, ◌++◌, ◌∷◌, [], ◌∙◌, rules}
use Rattle.zone_tree.proofs.Picking.{copied_first, copied_one, copied_none}
use Rattle.zone_tree.proofs.hosts.copy_numbers.Goals as goal
use Rattle.zone_tree.proofs.hosts.copy_numbers.Goals.{in-Some+in_ok-push, in_default}

pub loop-number-init : goal.loop-number-init
loop-number-init c = copied_first c.args.records.now c.args.out.now

pub loop-number-preserved : goal.loop-number-preserved
loop-number-preserved c =
    elim c.match-record_at.branch [
      | in-Some+in_ok-push w ↦
          let is : c.match-record_at.out ≡ c.loop-number.out ++ w.in-Some.record.now ∷ [] = search rules in
          copied_one c.args.records.now c.args.out.now c.loop-number.out c.match-record_at.out c.args.set.now c.loop-number.number-index w.in-Some.record.now c.loop-number.invariant c.loop-number-test.true w.in-Some.ensures.some is
      | in_default w ↦
          let is : c.match-record_at.out ≡ c.loop-number.out = search rules in
          is ∙ copied_none c.args.records.now c.args.out.now c.loop-number.out c.args.set.now c.loop-number.number-index c.loop-number.invariant c.loop-number-test.true w.in_default.ensures.none
    ]
