use Rattle.std.proofs.Common.{◌≡◌, drop}
use Rattle.std.specs.List.{list_any}
use Rattle.zone_lookup.specs.Zone.{is_of}
use Rattle.zone_tree.specs.Sets.{picked}
use Rattle.zone_tree.proofs.hosts.has_of.Given as goal

abbrev pub invariant-loop-number : goal.invariant-loop-number
invariant-loop-number l = list_any (is_of l.name l.kind) (picked l.records (drop l.number-index l.set)) ≡ list_any (is_of l.name l.kind) (picked l.records l.set)
