use Rattle.std.proofs.Common.{sym, ◌∙◌}
use Rattle.zone_tree.specs.Sets.{is_asked}
use Rattle.zone_tree.proofs.Picking.{any_here, any_later, any_none, any_end}
use Rattle.zone_tree.proofs.sets.has_asked.Goals as goal
use Rattle.zone_tree.proofs.sets.has_asked.Goals.{in-Some+else-is_asked, in_default}

pub returns-then-is_asked : goal.returns-then-is_asked
returns-then-is_asked c =
    any_here (is_asked c.args.kind) c.args.records.now c.args.set.now c.loop-number.number-index c.in-Some.record.now c.loop-number.invariant c.loop-number-test.true c.in-Some.ensures.some
    (sym c.is_asked.ensures ∙ c.if-is_asked.true)

pub loop-number-preserved : goal.loop-number-preserved
loop-number-preserved c =
    elim c.match-record_at.branch [
      | in-Some+else-is_asked w ↦
          any_later (is_asked c.args.kind) c.args.records.now c.args.set.now c.loop-number.number-index w.in-Some.record.now c.loop-number.invariant c.loop-number-test.true w.in-Some.ensures.some
          (sym w.is_asked.ensures ∙ w.if-is_asked.false)
      | in_default w ↦ any_none (is_asked c.args.kind) c.args.records.now c.args.set.now c.loop-number.number-index c.loop-number.invariant c.loop-number-test.true w.in_default.ensures.none
    ]

pub returns : goal.returns
returns c = any_end (is_asked c.args.kind) c.args.records.now c.args.set.now c.loop-number.number-index c.loop-number.invariant c.loop-number-test.false
