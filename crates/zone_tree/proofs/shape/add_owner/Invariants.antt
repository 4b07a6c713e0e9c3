use Rattle.zone_tree.specs.Tree.{Adding, Grows, IsShape}
use Rattle.zone_tree.proofs.shape.add_owner.Given as goal

abbrev pub invariant-loop-above : goal.invariant-loop-above
invariant-loop-above l = IsShape l.table l.nodes.items × Grows l.fn.table l.table l.owner × Adding l.table l.owner l.above l.number

abbrev pub decreases-loop-above : goal.decreases-loop-above
decreases-loop-above l = l.above
