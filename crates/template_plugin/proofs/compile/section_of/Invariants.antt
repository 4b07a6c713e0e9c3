use Rattle.std.proofs.Common.{◌≡◌, ◌++◌, length, option_map}
use Rattle.template_plugin.specs.Parts.{compiled_texts, numbers_of}
use Rattle.template_plugin.specs.Words.{all_words}
use Rattle.template_plugin.proofs.compile.section_of.Given as goal

abbrev pub invariant-loop-line : goal.invariant-loop-line
invariant-loop-line l =
    l.texts ++ compiled_texts (numbers_of (option_map (λ p. p.now) l.pattern)) (all_words l.section l.rest)
    ≡ compiled_texts (numbers_of (option_map (λ p. p.now) l.pattern)) (all_words l.section l.lines)

abbrev pub decreases-loop-line : goal.decreases-loop-line
decreases-loop-line l = length l.rest
