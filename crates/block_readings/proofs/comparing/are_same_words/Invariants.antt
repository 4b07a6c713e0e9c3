use Rattle.std.proofs.Common.{◌≡◌, drop}
use Rattle.std.specs.Cmp.Lexicographic.{pointwise}
use Rattle.block_readings.specs.Same.{same_word}
use Rattle.block_readings.proofs.comparing.are_same_words.Given as goal

-- what is left decides
abbrev pub invariant-loop-word : goal.invariant-loop-word
invariant-loop-word l = pointwise same_word (drop l.word-index l.words) l.rest ≡ pointwise same_word l.fn.words l.fn.others
