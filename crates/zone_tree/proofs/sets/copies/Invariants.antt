use Rattle.std.proofs.Common.{◌≡◌, take}
use Rattle.zone_tree.specs.Sets.{picked}
use Rattle.zone_tree.proofs.sets.copies.Given as goal

abbrev pub invariant-loop-number : goal.invariant-loop-number
invariant-loop-number l = l.all.items ≡ picked l.records (take l.number-index l.set)
