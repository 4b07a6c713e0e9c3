use Rattle.std.proofs.Common.{◌≡◌, drop}
use Rattle.std.specs.List.{list_any}
use Rattle.zone_tree.proofs.Glue.{meets}
use Rattle.zone_tree.proofs.ready.meets.Given as goal

abbrev pub invariant-loop-record : goal.invariant-loop-record
invariant-loop-record l = list_any (meets l.others) (drop l.record-index l.records) ≡ list_any (meets l.others) l.records
