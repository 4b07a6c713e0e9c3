use Rattle.std.proofs.Common.{sym, ap, ◌∙◌, arith, drop, ◌+◌, []}
use Rattle.std.proofs.lemmas.List.{drop_all}
use Rattle.zone_lookup.specs.ZoneAnswer.{with_hosts}
use Rattle.zone_lookup.proofs.Chaining.{hosts_step, no_hosts}
use Rattle.zone_tree.specs.Sets.{picked}
use Rattle.zone_tree.proofs.Picking.{picked_none}
use Rattle.zone_tree.proofs.hosts.numbers_of.Goals as goal

pub loop-record-init : goal.loop-record-init
loop-record-init c = ap (λ rs. with_hosts c.args.zone.now [] rs c.args.servers.now) (ap (picked c.args.zone.now.records) c.new-hosts.ensures ∙ picked_none c.args.zone.now.records)

pub loop-record-preserved : goal.loop-record-preserved
loop-record-preserved c =
    let out = rw c.host_of.ensures at c.in_ok-add_addresses.ensures in
    let step = hosts_step c.args.zone.now [] (picked c.args.zone.now.records c.loop-record.hosts) c.record-item.result c.args.servers.now c.loop-record.record-index c.record-item.is (omega arith) in
    ap (λ rs. with_hosts c.args.zone.now [] rs (drop (c.loop-record.record-index + 1) c.args.servers.now)) out ∙ sym step ∙ c.loop-record.invariant

pub returns : goal.returns
returns c = sym (no_hosts _ _ _) ∙ ap (with_hosts c.args.zone.now [] (picked c.args.zone.now.records c.loop-record.hosts)) (sym (drop_all c.loop-record.record-index c.args.servers.now (omega arith))) ∙ c.loop-record.invariant
