use Rattle.std.proofs.Common.{◌≡◌, ◌++◌, ◌∷◌, [], cond, ◌∙◌, rules}
use Rattle.std.specs.Prelude.{◌||◌}
use Rattle.zone_tree.specs.Sets.{is_kind}
use Rattle.zone_tree.proofs.Picking.{takes_or_leaves, leaves_none, takes_none, any_more, any_same, any_first}
use Rattle.zone_tree.proofs.sets.copy_and_tell.Goals as goal
use Rattle.zone_tree.proofs.sets.copy_and_tell.Goals.{in-Some+in_ok-copy_one, in_default}

pub loop-number-init : goal.loop-number-init
loop-number-init c = (takes_none (is_kind c.args.kind) c.args.records.now c.args.out.now, any_first (is_kind 5) c.args.records.now)

pub loop-number-preserved : goal.loop-number-preserved
loop-number-preserved c =
    elim c.match-record_at.branch [
      | in-Some+in_ok-copy_one w ↦
          let is : c.match-record_at.out ≡ cond (is_kind c.args.kind w.in-Some.record.now) (c.loop-number.out ++ w.in-Some.record.now ∷ []) c.loop-number.out = search rules in
          let has : c.match-record_at.has_alias ≡ (c.loop-number.has_alias || is_kind 5 w.in-Some.record.now) = search rules in (
            takes_or_leaves (is_kind c.args.kind) c.args.records.now c.args.out.now c.loop-number.out c.match-record_at.out c.args.set.now c.loop-number.number-index w.in-Some.record.now c.loop-number.invariant.0 c.loop-number-test.true
                w.in-Some.ensures.some is,
            has ∙ any_more (is_kind 5) c.args.records.now c.args.set.now c.loop-number.number-index w.in-Some.record.now c.loop-number.has_alias c.loop-number.invariant.1 c.loop-number-test.true w.in-Some.ensures.some,
          )
      | in_default w ↦
          let is : c.match-record_at.out ≡ c.loop-number.out = search rules in
          let has : c.match-record_at.has_alias ≡ c.loop-number.has_alias = search rules in (
            is ∙ leaves_none (is_kind c.args.kind) c.args.records.now c.args.out.now c.loop-number.out c.args.set.now c.loop-number.number-index c.loop-number.invariant.0 c.loop-number-test.true w.in_default.ensures.none,
            has ∙ any_same (is_kind 5) c.args.records.now c.args.set.now c.loop-number.number-index c.loop-number.has_alias c.loop-number.invariant.1 c.loop-number-test.true w.in_default.ensures.none,
          )
    ]
