use Rattle.std.proofs.Common.{◌≡◌, ◌++◌, length, option_map}
use Rattle.template_plugin.specs.Parts.{compiled_texts, numbers_of}
use Rattle.template_plugin.proofs.compile.add_texts.Given as goal

abbrev pub invariant-loop-word : goal.invariant-loop-word
invariant-loop-word l =
    l.texts ++ compiled_texts (numbers_of (option_map (λ p. p.now) l.pattern)) l.rest
    ≡ l.fn.texts ++ compiled_texts (numbers_of (option_map (λ p. p.now) l.pattern)) l.words

abbrev pub decreases-loop-word : goal.decreases-loop-word
decreases-loop-word l = length l.rest
