use Rattle.std.proofs.Common.{sym, ap, ◌∙◌, arith, drop, ◌+◌}
use Rattle.std.proofs.lemmas.List.{drop_all}
use Rattle.zone_lookup.specs.ZoneAnswer.{with_hosts}
use Rattle.zone_lookup.proofs.Chaining.{hosts_step, no_hosts}
use Rattle.zone_tree.proofs.store.TreeZoneZoneStore.push_hosts.Goals as goal

pub loop-record-preserved : goal.loop-record-preserved
loop-record-preserved c =
    let out = rw c.host_of.ensures at c.in_ok-push_addresses.ensures in
    let step = hosts_step c.args.self.now c.args.answer.now c.loop-record.out c.record-item.result c.args.records.now c.loop-record.record-index c.record-item.is (omega arith) in
    ap (λ rs. with_hosts c.args.self.now c.args.answer.now rs (drop (c.loop-record.record-index + 1) c.args.records.now)) out ∙ sym step ∙ c.loop-record.invariant

pub returns : goal.returns
returns c =
    sym (no_hosts _ _ _) ∙ ap (with_hosts c.args.self.now c.args.answer.now c.loop-record.out) (sym (drop_all c.loop-record.record-index c.args.records.now (omega arith))) ∙ c.loop-record.invariant
