use Rattle.numbers.proofs.Numbers.{NumberSoFar}
use Rattle.numbers.proofs.digits.read_digits.Given as goal

abbrev pub invariant-loop-byte : goal.invariant-loop-byte
invariant-loop-byte l = NumberSoFar l.text l.byte-index l.number
