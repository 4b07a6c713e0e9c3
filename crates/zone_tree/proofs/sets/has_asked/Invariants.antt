use Rattle.std.proofs.Common.{◌≡◌, drop}
use Rattle.std.specs.List.{list_any}
use Rattle.zone_tree.specs.Sets.{is_asked, picked}
use Rattle.zone_tree.proofs.sets.has_asked.Given as goal

abbrev pub invariant-loop-number : goal.invariant-loop-number
invariant-loop-number l = list_any (is_asked l.kind) (picked l.records (drop l.number-index l.set)) ≡ list_any (is_asked l.kind) (picked l.records l.set)
