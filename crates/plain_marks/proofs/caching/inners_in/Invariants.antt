use Rattle.std.proofs.Common.{◌≡◌, ◌++◌, length}
use Rattle.chain_meaning.specs.Caching.{inners_in}
use Rattle.plain_marks.proofs.caching.inners_in.Given as goal

abbrev pub invariant-loop-mark : goal.invariant-loop-mark
invariant-loop-mark l = l.inners ++ inners_in l.rest ≡ inners_in l.marks

abbrev pub decreases-loop-mark : goal.decreases-loop-mark
decreases-loop-mark l = length l.rest
