use Rattle.std.proofs.Common.{◌≡◌, ◌++◌, take}
use Rattle.std.specs.List.{filter}
use Rattle.zone_lookup.specs.Zone.{is_of}
use Rattle.zone_lookup.proofs.plain.copy_kind.Given as goal

abbrev pub invariant-loop-record : goal.invariant-loop-record
invariant-loop-record l = l.out ≡ l.fn.out ++ filter (is_of l.name l.kind) (take l.record-index l.records)
