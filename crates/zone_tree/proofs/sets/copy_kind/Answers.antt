use Rattle.std.proofs.Common.{◌≡◌, ◌++◌, ◌∷◌, [], sym, ◌∙◌, rules}
use Rattle.zone_tree.specs.Sets.{is_kind}
use Rattle.zone_tree.proofs.Picking.{takes, leaves, leaves_none, takes_none}
use Rattle.zone_tree.proofs.sets.copy_kind.Goals as goal
use Rattle.zone_tree.proofs.sets.copy_kind.Goals.{in-Some+then-is_kind+in_ok-push, in-Some+else-is_kind, in_default}

pub loop-number-init : goal.loop-number-init
loop-number-init c = takes_none (is_kind c.args.kind) c.args.records.now c.args.out.now

pub loop-number-preserved : goal.loop-number-preserved
loop-number-preserved c =
    elim c.match-record_at.branch [
      | in-Some+then-is_kind+in_ok-push w ↦
          let is : c.match-record_at.out ≡ c.loop-number.out ++ w.in-Some.record.now ∷ [] = search rules in
          takes (is_kind c.args.kind) c.args.records.now c.args.out.now c.loop-number.out c.match-record_at.out c.args.set.now c.loop-number.number-index w.in-Some.record.now c.loop-number.invariant c.loop-number-test.true
          w.in-Some.ensures.some (sym w.is_kind.ensures ∙ w.if-is_kind.true) is
      | in-Some+else-is_kind w ↦
          let is : c.match-record_at.out ≡ c.loop-number.out = search rules in
          is ∙ leaves (is_kind c.args.kind) c.args.records.now c.args.out.now c.loop-number.out c.args.set.now c.loop-number.number-index w.in-Some.record.now c.loop-number.invariant c.loop-number-test.true
          w.in-Some.ensures.some (sym w.is_kind.ensures ∙ w.if-is_kind.false)
      | in_default w ↦
          let is : c.match-record_at.out ≡ c.loop-number.out = search rules in
          is ∙ leaves_none (is_kind c.args.kind) c.args.records.now c.args.out.now c.loop-number.out c.args.set.now c.loop-number.number-index c.loop-number.invariant c.loop-number-test.true w.in_default.ensures.none
    ]
