use Rattle.std.proofs.Common.{◌≡◌, ◌+◌, drop}
use Rattle.record_text.specs.Words.{plain_size}
use Rattle.record_text.proofs.word.plain_size.Given as goal

abbrev pub invariant-loop-at : goal.invariant-loop-at
invariant-loop-at l = plain_size l.fn.form l.fn.taken l.bytes ≡ l.at + plain_size l.form l.taken (drop l.at l.bytes)
