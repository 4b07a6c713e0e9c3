use Rattle.std.proofs.Common.{◌≡◌, ◌+◌, drop, option_map}
use Rattle.corefile_words.specs.Words.{closing_quote}
use Rattle.corefile_words.proofs.quoted.quoted_size.Given as goal

abbrev pub invariant-loop-at : goal.invariant-loop-at
invariant-loop-at l = closing_quote 34 l.bytes ≡ option_map (λ size. l.at + size) (closing_quote l.before (drop l.at l.bytes))
