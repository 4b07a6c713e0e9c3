use Rattle.std.proofs.Common.{◌≡◌, ◌++◌, take}
use Rattle.zone_tree.specs.Sets.{picked}
use Rattle.zone_tree.proofs.hosts.copy_numbers.Given as goal

abbrev pub invariant-loop-number : goal.invariant-loop-number
invariant-loop-number l = l.out ≡ l.fn.out ++ picked l.records (take l.number-index l.set)
