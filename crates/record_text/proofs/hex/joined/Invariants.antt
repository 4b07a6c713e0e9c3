use Rattle.std.proofs.Common.{◌≡◌, ◌++◌, drop}
use Rattle.record_text.specs.Rows.{digits_in}
use Rattle.record_text.proofs.hex.joined.Given as goal

abbrev pub invariant-loop-word : goal.invariant-loop-word
invariant-loop-word l = digits_in l.words ≡ l.digits ++ digits_in (drop l.word-index l.words)
