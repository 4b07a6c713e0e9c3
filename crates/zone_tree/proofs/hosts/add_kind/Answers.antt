use Rattle.std.proofs.Common.{◌≡◌, get_or, sym, ap, ◌∙◌, rules}
use Rattle.zone_tree.specs.Sets.{is_kind, picked}
use Rattle.zone_tree.proofs.Picking.{takes, leaves, leaves_none, takes_none, picked_pushed}
use Rattle.zone_tree.proofs.hosts.add_kind.Goals as goal
use Rattle.zone_tree.proofs.hosts.add_kind.Goals.{in-Some+then-is_kind+in_ok-push, in-Some+else-is_kind, in_default}

pub loop-number-init : goal.loop-number-init
loop-number-init c = takes_none (is_kind c.args.kind) c.args.records.now (picked c.args.records.now c.args.out.now)

pub loop-number-preserved : goal.loop-number-preserved
loop-number-preserved c =
    elim c.match-record_at.branch [
      | in-Some+then-is_kind+in_ok-push w ↦
          let old = picked c.args.records.now c.args.out.now in
          let out = picked c.args.records.now c.loop-number.out in
          let at = w.in-Some.ensures.some in
          let pushed = ap (picked c.args.records.now) (w.out-is ∙ w.in_ok-push.ensures.ok) ∙ picked_pushed c.args.records.now c.loop-number.out (get_or c.args.set.now c.loop-number.number-index 0) w.in-Some.record.now at in
          takes (is_kind c.args.kind) c.args.records.now old out (picked c.args.records.now c.match-record_at.out) c.args.set.now c.loop-number.number-index w.in-Some.record.now c.loop-number.invariant c.loop-number-test.true at
          (sym w.is_kind.ensures ∙ w.if-is_kind.true) pushed
      | in-Some+else-is_kind w ↦
          let is : c.match-record_at.out ≡ c.loop-number.out = search rules in
          ap (picked c.args.records.now) is ∙ leaves (is_kind c.args.kind) c.args.records.now (picked c.args.records.now c.args.out.now) (picked c.args.records.now c.loop-number.out) c.args.set.now c.loop-number.number-index w.in-Some.record.now c.loop-number.invariant c.loop-number-test.true
          w.in-Some.ensures.some (sym w.is_kind.ensures ∙ w.if-is_kind.false)
      | in_default w ↦
          let is : c.match-record_at.out ≡ c.loop-number.out = search rules in
          ap (picked c.args.records.now) is ∙ leaves_none (is_kind c.args.kind) c.args.records.now (picked c.args.records.now c.args.out.now) (picked c.args.records.now c.loop-number.out) c.args.set.now c.loop-number.number-index c.loop-number.invariant c.loop-number-test.true w.in_default.ensures.none
    ]
