use Rattle.std.proofs.Common.{◌≡◌, drop}
use Rattle.std.specs.List.{list_any}
use Rattle.zone_lookup.specs.Zone.{is_at}
use Rattle.zone_lookup.proofs.plain.owns_any.Given as goal

abbrev pub invariant-loop-record : goal.invariant-loop-record
invariant-loop-record l = list_any (is_at l.name) (drop l.record-index l.records) ≡ list_any (is_at l.name) l.records
