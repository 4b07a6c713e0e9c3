use Rattle.std.proofs.Common.{length}
use Rattle.numbers.proofs.Spans.{Going}
use Rattle.numbers.proofs.duration.read_spans.Given as goal

abbrev pub invariant-loop-rest : goal.invariant-loop-rest
invariant-loop-rest l = Going l.text l.rest l.sum

abbrev pub decreases-loop-rest : goal.decreases-loop-rest
decreases-loop-rest l = length l.rest
