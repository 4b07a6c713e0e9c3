-- What becomes of the patterns of a directive, which are made one after another up to the first
-- fault. Whether a text is a pattern, or is too large to compile, is judged by the maker of
-- patterns.
use Rattle.std.specs.Prelude.{◌≡◌, ◌⊎◌, ℕ, List, [], ◌∷◌, ◌++◌, Option, Result, Ok, Err}
use Rattle.dns_data.specs.declared.directive.Line.{Line}
use Rattle.outside.specs.{IsPatternOf}
use Rattle.pattern_judging.specs.{IsFault, IsFree, IsRefused, IsWell, Refuses, Task, at_line}
use Rattle.plugin_api.specs.{PlanData}
use Rattle.plugin_api.specs.declared.fault.DirectiveFault.{DirectiveFault}
use Rattle.plugin_api.specs.declared.fault.DirectiveFault.TheVariants as fault
use Rattle.regex.specs.declared.string.regex.Regex.{Regex}
use Rattle.template_plugin.specs.declared.options.Earlier.{Earlier}
use Rattle.template_plugin.specs.Reading.{line_fault, lines_fault, match_fault, patterns_fault}
use Rattle.template_plugin.specs.Reading.{template_fault}
use Rattle.template_plugin.specs.Words.{line_patterns, patterns_of}

-- the patterns are those of texts
abbrev pub AreOf : List (List ℕ) → List Regex → Type 0
AreOf [] [] = Unit {0}
AreOf [] (pattern ∷ patterns) = ⊥
AreOf (text ∷ texts) [] = ⊥
AreOf (text ∷ texts) (pattern ∷ patterns) = IsPatternOf text pattern × AreOf texts patterns

-- what became of the pattern of a word of a line, where the maker refused this text last
abbrev pub IsMadeOf : ℕ → List ℕ → Option (List ℕ) → Result Regex DirectiveFault → Type 0
IsMadeOf line text last (Ok pattern) = IsPatternOf text pattern
IsMadeOf line text last (Err refused) =
    (refused ≡ fault.NoMemory) ⊎ IsRefused line text last refused

-- all are made, and stand behind those that were made before
pub record Passes (task : Task DirectiveFault) (before after : List Regex) : Type 0 where
  pub made : List Regex
  pub stand : after ≡ before ++ made
  pub are : AreOf task.patterns made
  pub free : IsFree task

-- the patterns are made, or the first fault is told, where the maker refused this text last
abbrev pub Makes : {X : Type 0} → Task DirectiveFault → List Regex → List Regex
    → Option (List ℕ) → Result X DirectiveFault → Type 0
Makes task before after last (Ok x) = Passes task before after
Makes task before after last (Err refused) = Refuses task last refused

-- the patterns of words of a line
abbrev pub words_task : ℕ → ℕ → List (List ℕ) → Task DirectiveFault
words_task line number words = record {
  number = number;
  patterns = words;
  fault = λ judgement. patterns_fault judgement line number words;
}

-- those behind `match`
abbrev pub match_task : ℕ → ℕ → List (List ℕ) → Task DirectiveFault
match_task line number words = record {
  number = number;
  patterns = words;
  fault = λ judgement. match_fault judgement line number words;
}

-- those of a line
abbrev pub line_task : Earlier → ℕ → List (List ℕ) → Task DirectiveFault
line_task before line words = record {
  number = before.patterns;
  patterns = line_patterns words;
  fault = λ judgement. line_fault judgement before line words;
}

-- those of lines
abbrev pub lines_task : Earlier → List Line → Task DirectiveFault
lines_task before lines = record {
  number = before.patterns;
  patterns = patterns_of lines;
  fault = λ judgement. lines_fault judgement before lines;
}

-- those of a directive
abbrev pub template_task : ℕ → PlanData → Task DirectiveFault
template_task patterns plan = record {
  number = patterns;
  patterns = patterns_of plan.directive.body;
  fault = λ judgement. template_fault judgement patterns plan;
}

-- reading a directive gives its plan, or its first fault, where the maker refused this text last.
-- Want of memory is always allowed.
abbrev pub ReadsTemplate : ℕ → PlanData → Option (List ℕ) → Result PlanData DirectiveFault → Type 0
ReadsTemplate patterns read last (Ok plan) = IsWell (template_task patterns read) × (plan ≡ read)
ReadsTemplate patterns read last (Err fault.NoMemory) = Unit {0}
ReadsTemplate patterns read last (Err refused) =
    IsFault at_line (template_task patterns read) last refused
