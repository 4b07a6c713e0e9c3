use Rattle.std.proofs.Common.{◌≡◌, ◌++◌, map, take}
use Rattle.std.specs.List.{filter}
use Rattle.zone_lookup.specs.ZoneAnswer.{with_owner}
use Rattle.zone_tree.specs.Sets.{is_kind, picked}
use Rattle.zone_tree.proofs.sets.copy_kind_owned.Given as goal

abbrev pub invariant-loop-number : goal.invariant-loop-number
invariant-loop-number l = l.out ≡ l.fn.out ++ map (with_owner l.name) (filter (is_kind l.kind) (picked l.records (take l.number-index l.set)))
