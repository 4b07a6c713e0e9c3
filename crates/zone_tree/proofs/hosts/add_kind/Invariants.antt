use Rattle.std.proofs.Common.{◌≡◌, ◌++◌, take}
use Rattle.std.specs.List.{filter}
use Rattle.zone_tree.specs.Sets.{is_kind, picked}
use Rattle.zone_tree.proofs.hosts.add_kind.Given as goal

abbrev pub invariant-loop-number : goal.invariant-loop-number
invariant-loop-number l = picked l.records l.out ≡ picked l.records l.fn.out ++ filter (is_kind l.kind) (picked l.records (take l.number-index l.set))
