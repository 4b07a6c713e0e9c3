use Rattle.zone_tree.specs.Tree.{AreEmpty}
use Rattle.zone_tree.proofs.sets.empty_sets.Given as goal

abbrev pub invariant-loop-made : goal.invariant-loop-made
invariant-loop-made l = AreEmpty l.sets.items l.made
