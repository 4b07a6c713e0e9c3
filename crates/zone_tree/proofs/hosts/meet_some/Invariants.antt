use Rattle.std.proofs.Common.{◌≡◌, drop}
use Rattle.std.specs.List.{list_any}
use Rattle.zone_tree.specs.Sets.{picked}
use Rattle.zone_tree.proofs.Glue.{meets}
use Rattle.zone_tree.proofs.hosts.meet_some.Given as goal

abbrev pub invariant-loop-number : goal.invariant-loop-number
invariant-loop-number l = list_any (meets l.others) (picked l.records (drop l.number-index l.set)) ≡ list_any (meets l.others) (picked l.records l.set)
