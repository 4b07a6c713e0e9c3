use Rattle.std.proofs.Common.{◌≡◌, drop}
use Rattle.std.specs.List.{list_any}
use Rattle.dns_names.specs.Name.{is_within}
use Rattle.zone_lookup.proofs.plain.lies_above.Given as goal

abbrev pub invariant-loop-record : goal.invariant-loop-record
invariant-loop-record l = list_any (λ r. is_within r.owner l.name) (drop l.record-index l.records) ≡ list_any (λ r. is_within r.owner l.name) l.records
