-- What becomes of the patterns of a directive, which are made one after another up to the first
-- fault. Whether a text is a pattern, or is too large to compile, is judged by the maker of
-- patterns.
use Rattle.std.specs.Prelude.{◌≡◌, ◌⊎◌, ℕ, List, Option, Result, Ok, Err}
use Rattle.dns_data.specs.declared.directive.Directive.{Directive}
use Rattle.outside.specs.{IsPatternText}
use Rattle.pattern_judging.specs.{IsFault, IsRefused, IsWell, Refuses, Task, at_line}
use Rattle.plugin_api.specs.declared.fault.DirectiveFault.{DirectiveFault}
use Rattle.plugin_api.specs.declared.fault.DirectiveFault.TheVariants as fault
use Rattle.rewrite_plugin.specs.declared.words.PatternAt.{PatternAt}
use Rattle.rewrite_plugin.specs.Reading.{patterns_fault, patterns_of, rewrite_fault, texts_of}

-- patterns alone
abbrev pub patterns_task : ℕ → List PatternAt → Task DirectiveFault
patterns_task number patterns = record {
  number = number;
  patterns = texts_of patterns;
  fault = λ judgement. patterns_fault judgement number patterns;
}

-- those of a directive, with its words
abbrev pub rewrite_task : ℕ → Directive → Task DirectiveFault
rewrite_task number d = record {
  number = number;
  patterns = patterns_of d;
  fault = λ judgement. rewrite_fault judgement number d;
}

-- what became of patterns, where the maker refused this text last: all are made, or this is the
-- first fault
abbrev pub MakesAll : ℕ → List PatternAt → Option (List ℕ)
    → Result (List (List ℕ)) DirectiveFault → Type 0
MakesAll number patterns last (Ok made) =
    (made ≡ texts_of patterns) × IsWell (patterns_task number patterns)
MakesAll number patterns last (Err refused) =
    Refuses (patterns_task number patterns) last refused

-- what became of a pattern, where the maker refused this text last
abbrev pub IsMadeOf : PatternAt → Option (List ℕ) → Result (List ℕ) DirectiveFault → Type 0
IsMadeOf pattern last (Ok made) = (made ≡ pattern.text) × IsPatternText pattern.text
IsMadeOf pattern last (Err refused) =
    (refused ≡ fault.NoMemory) ⊎ IsRefused pattern.line pattern.text last refused

-- reading a directive gives its plan, or its first fault, where the maker refused this text last.
-- Want of memory is always allowed.
abbrev pub ReadsRewrite : ℕ → Directive → Option (List ℕ) → Result Directive DirectiveFault → Type 0
ReadsRewrite number d last (Ok plan) = IsWell (rewrite_task number d) × (plan ≡ d)
ReadsRewrite number d last (Err fault.NoMemory) = Unit {0}
ReadsRewrite number d last (Err refused) = IsFault at_line (rewrite_task number d) last refused
