use Rattle.std.proofs.Common.{◌≡◌, take}
use Rattle.load_maker.specs.Summary.{answers_in}
use Rattle.load_maker.proofs.summary.answers.Given as goal

abbrev pub invariant-loop-mark : goal.invariant-loop-mark
invariant-loop-mark l = l.count ≡ answers_in l.code (take l.mark-index l.journal)
