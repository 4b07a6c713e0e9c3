use Rattle.std.proofs.Common.{sym, ap, ◌∙◌, refl, arith, drop, ◌+◌}
use Rattle.std.proofs.lemmas.List.{drop_all}
use Rattle.zone_lookup.specs.ZoneAnswer.{with_hosts}
use Rattle.zone_lookup.proofs.Chaining.{hosts_step, no_hosts}
use Rattle.zone_tree.proofs.marks.push_many.Goals as goal

pub loop-record-init : goal.loop-record-init
loop-record-init c = let marks = c.in_ok-marks.ensures c.args.tree.now.zone in (rw c.as_slice.ensures at marks, refl)

pub loop-record-preserved : goal.loop-record-preserved
loop-record-preserved c =
    let zone = c.args.tree.now.zone in
    let out = rw c.host_of.ensures at c.in_ok-push_unmarked.ensures.out in
    let step = hosts_step zone c.args.answer.now c.loop-record.out c.record-item.result c.args.records.now c.loop-record.record-index c.record-item.is (omega arith) in
    (c.in_ok-push_unmarked.ensures.marks, ap (λ rs. with_hosts zone c.args.answer.now rs (drop (c.loop-record.record-index + 1) c.args.records.now)) out ∙ sym step ∙ c.loop-record.invariant.1)

pub returns : goal.returns
returns c =
    let zone = c.args.tree.now.zone in
    sym (no_hosts _ _ _) ∙ ap (with_hosts zone c.args.answer.now c.loop-record.out) (sym (drop_all c.loop-record.record-index c.args.records.now (omega arith))) ∙ c.loop-record.invariant.1
