use Rattle.std.proofs.Common.{◌≡◌, drop}
use Rattle.std.specs.List.{list_any}
use Rattle.dns_data.specs.{is_same}
use Rattle.file_plugin.proofs.plan.has_origin.Given as goal

abbrev pub invariant-loop-zone : goal.invariant-loop-zone
invariant-loop-zone l = list_any (λ served. is_same served.zone.origin l.origin) (drop l.zone-index l.zones) ≡ list_any (λ served. is_same served.zone.origin l.origin) l.zones
