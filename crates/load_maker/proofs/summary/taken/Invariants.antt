use Rattle.std.proofs.Common.{◌≡◌, take}
use Rattle.load_maker.specs.Summary.{taken_in}
use Rattle.load_maker.proofs.summary.taken.Given as goal

abbrev pub invariant-loop-mark : goal.invariant-loop-mark
invariant-loop-mark l = l.count ≡ taken_in (take l.mark-index l.journal)
