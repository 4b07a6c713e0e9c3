use Rattle.std.proofs.Common.{sym, ◌∙◌}
use Rattle.zone_tree.specs.Sets.{picked}
use Rattle.zone_tree.proofs.Picking.{any_here, any_later, any_none, any_end}
use Rattle.zone_tree.proofs.Glue.{meets, meet_is}
use Rattle.zone_tree.proofs.hosts.meet_some.Goals as goal
use Rattle.zone_tree.proofs.hosts.meet_some.Goals.{in-Some+else-has_like, in_default}

pub returns-then-has_like : goal.returns-then-has_like
returns-then-has_like c =
    any_here (meets c.args.others.now) c.args.records.now c.args.set.now c.loop-number.number-index c.in-Some.record.now c.loop-number.invariant c.loop-number-test.true c.in-Some.ensures.some
    (sym c.has_like.ensures ∙ c.if-has_like.true) ∙ meet_is c.args.others.now (picked c.args.records.now c.args.set.now)

pub loop-number-preserved : goal.loop-number-preserved
loop-number-preserved c =
    elim c.match-record_at.branch [
      | in-Some+else-has_like w ↦
          any_later (meets c.args.others.now) c.args.records.now c.args.set.now c.loop-number.number-index w.in-Some.record.now c.loop-number.invariant c.loop-number-test.true w.in-Some.ensures.some
          (sym w.has_like.ensures ∙ w.if-has_like.false)
      | in_default w ↦ any_none (meets c.args.others.now) c.args.records.now c.args.set.now c.loop-number.number-index c.loop-number.invariant c.loop-number-test.true w.in_default.ensures.none
    ]

pub returns : goal.returns
returns c =
    any_end (meets c.args.others.now) c.args.records.now c.args.set.now c.loop-number.number-index c.loop-number.invariant c.loop-number-test.false ∙ meet_is c.args.others.now (picked c.args.records.now c.args.set.now)
