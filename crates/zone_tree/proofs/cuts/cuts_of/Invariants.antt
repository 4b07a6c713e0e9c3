use Rattle.zone_tree.specs.Tree.{AreCuts}
use Rattle.zone_tree.proofs.cuts.cuts_of.Given as goal

abbrev pub invariant-loop-i : goal.invariant-loop-i
invariant-loop-i l = AreCuts l.table l.zone l.cuts.items l.i
