use Rattle.std.proofs.Common.{◌≡◌, ◌++◌, length, option_map}
use Rattle.record_text.specs.Words.{words_from}
use Rattle.record_text.proofs.word.read_words.Given as goal

abbrev pub invariant-loop-byte : goal.invariant-loop-byte
invariant-loop-byte l = option_map (λ others. l.words ++ others) (words_from 0 l.rest) ≡ words_from 0 l.text

abbrev pub decreases-loop-byte : goal.decreases-loop-byte
decreases-loop-byte l = length l.rest
