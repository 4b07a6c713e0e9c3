use Rattle.std.proofs.Common.{◌≡◌, drop, []}
use Rattle.std.specs.List.{filter}
use Rattle.zone_lookup.specs.Zone.{is_at, by_type}
use Rattle.zone_lookup.proofs.plain.copy_all.Given as goal

abbrev pub invariant-loop-record : goal.invariant-loop-record
invariant-loop-record l = by_type l.sorted.items (filter (is_at l.name) (drop l.record-index l.records)) ≡ by_type [] (filter (is_at l.name) l.records)
