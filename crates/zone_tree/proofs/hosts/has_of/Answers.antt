use Rattle.std.proofs.Common.{sym, ◌∙◌}
use Rattle.zone_lookup.specs.Zone.{is_of}
use Rattle.zone_tree.proofs.Picking.{any_here, any_later, any_none, any_end}
use Rattle.zone_tree.proofs.hosts.has_of.Goals as goal
use Rattle.zone_tree.proofs.hosts.has_of.Goals.{in-Some+else-is_of, in_default}

pub returns-then-is_of : goal.returns-then-is_of
returns-then-is_of c =
    any_here (is_of c.args.name.now c.args.kind) c.args.records.now c.args.set.now c.loop-number.number-index c.in-Some.record.now c.loop-number.invariant c.loop-number-test.true c.in-Some.ensures.some
    (sym c.is_of.ensures ∙ c.if-is_of.true)

pub loop-number-preserved : goal.loop-number-preserved
loop-number-preserved c =
    elim c.match-record_at.branch [
      | in-Some+else-is_of w ↦
          any_later (is_of c.args.name.now c.args.kind) c.args.records.now c.args.set.now c.loop-number.number-index w.in-Some.record.now c.loop-number.invariant c.loop-number-test.true w.in-Some.ensures.some
          (sym w.is_of.ensures ∙ w.if-is_of.false)
      | in_default w ↦ any_none (is_of c.args.name.now c.args.kind) c.args.records.now c.args.set.now c.loop-number.number-index c.loop-number.invariant c.loop-number-test.true w.in_default.ensures.none
    ]

pub returns : goal.returns
returns c = any_end (is_of c.args.name.now c.args.kind) c.args.records.now c.args.set.now c.loop-number.number-index c.loop-number.invariant c.loop-number-test.false
