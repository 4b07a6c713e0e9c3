use Rattle.std.proofs.Common.{◌≡◌, ◌+◌, drop}
use Rattle.numbers.specs.Duration.{digits_in_front}
use Rattle.numbers.proofs.duration.digits_in_front.Given as goal

abbrev pub invariant-loop-at : goal.invariant-loop-at
invariant-loop-at l = digits_in_front l.text ≡ l.at + digits_in_front (drop l.at l.text)
