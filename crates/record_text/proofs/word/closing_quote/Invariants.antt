use Rattle.std.proofs.Common.{◌≡◌, ◌+◌, drop, option_map}
use Rattle.record_text.specs.Words.{closing_quote}
use Rattle.record_text.proofs.word.closing_quote.Given as goal

abbrev pub invariant-loop-at : goal.invariant-loop-at
invariant-loop-at l = closing_quote 34 l.bytes ≡ option_map (λ size. size + l.at) (closing_quote l.before (drop l.at l.bytes))
