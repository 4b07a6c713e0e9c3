-- The first fault of a directive `rewrite`. Whether a pattern is one, or is too large to compile,
-- is judged by the maker of patterns. This server's own rule, in the manner of CoreDNS.
use Rattle.std.specs.Prelude.{ℕ, ◌+◌, List, [], ◌∷◌, map, Option, Some, None, Result, Ok, Err}
use Rattle.std.specs.Option.{option_or}
use Rattle.dns_data.specs.declared.directive.Directive.{Directive}
use Rattle.pattern_judging.specs.{Judgement, pattern_fault}
use Rattle.plugin_api.specs.declared.fault.DirectiveFault.{DirectiveFault}
use Rattle.rewrite_plugin.specs.declared.words.PatternAt.{PatternAt}
use Rattle.rewrite_plugin.specs.Words.{Reading, reading_of}

-- the fault of the first of patterns that is refused, behind so many of the configuration
abbrev pub patterns_fault : Judgement → ℕ → List PatternAt → Option DirectiveFault
patterns_fault judged number [] = None
patterns_fault judged number (pattern ∷ patterns) =
    option_or (pattern_fault judged pattern.line number)
    (patterns_fault judged (number + 1) patterns)

-- the fault of words, where they have one
abbrev pub fault_of : {A : Type 0} → Result A DirectiveFault → Option DirectiveFault
fault_of (Ok value) = None
fault_of (Err fault) = Some fault

abbrev pub reading_fault : {A : Type 0} → Judgement → ℕ → Reading A → Option DirectiveFault
reading_fault judged number reading =
    option_or (patterns_fault judged number reading.patterns) (fault_of reading.end)

-- the first fault of a directive, behind so many patterns of the configuration: a pattern is judged
-- before what stands behind it
abbrev pub rewrite_fault : Judgement → ℕ → Directive → Option DirectiveFault
rewrite_fault judged number d = reading_fault judged number (reading_of d)

abbrev pub texts_of : List PatternAt → List (List ℕ)
texts_of patterns = map (λ pattern. pattern.text) patterns

-- the patterns of a directive
abbrev pub patterns_of : Directive → List (List ℕ)
patterns_of d = texts_of (reading_of d).patterns
