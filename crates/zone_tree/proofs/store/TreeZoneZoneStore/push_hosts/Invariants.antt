use Rattle.std.proofs.Common.{◌≡◌, drop}
use Rattle.zone_lookup.specs.ZoneAnswer.{with_hosts}
use Rattle.zone_tree.proofs.store.TreeZoneZoneStore.push_hosts.Given as goal

abbrev pub invariant-loop-record : goal.invariant-loop-record
invariant-loop-record l = with_hosts l.self l.answer l.out (drop l.record-index l.records) ≡ with_hosts l.self l.answer l.fn.out l.records
