use Rattle.zone_tree.specs.Tree.{AreSets}
use Rattle.zone_tree.proofs.sets.sets_of.Given as goal

abbrev pub invariant-loop-i : goal.invariant-loop-i
invariant-loop-i l = AreSets l.table l.records l.sets.items l.i
