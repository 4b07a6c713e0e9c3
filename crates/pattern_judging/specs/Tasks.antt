-- What becomes of patterns that are made one after another, up to the first fault of the words
-- round them. Whether a text is a pattern, or is too large to compile, is judged by the maker of
-- patterns; so the first fault is a function of a judgement. This server's own rule.
use Rattle.std.specs.Prelude.{◌≡◌, ◌≤◌, ◌⊎◌, ℕ, ◌+◌, nat_le, nat_lt, List, [], ◌∷◌, ◌++◌, length}
use Rattle.std.specs.Prelude.{take, slice_get, Option, Some, None, Result, Ok, Err}
use Rattle.std.specs.Prelude.{if◌then◌else◌}
use Rattle.std.specs.List.{AllByRecursion}
use Rattle.std.specs.Option.{option_or}
use Rattle.dns_data.specs.declared.limit.Limit.TheVariants as limit
use Rattle.dns_data.specs.declared.limit.TheConstants as limits
use Rattle.outside.specs.{IsPatternText, WatchState, raised, with_refusals}
use Rattle.plugin_api.specs.declared.fault.DirectiveFault.{DirectiveFault}
use Rattle.plugin_api.specs.declared.fault.DirectiveFault.TheVariants as fault
use Rattle.plugin_api.specs.declared.fault.DirectiveWhy.{DirectiveWhy}
use Rattle.plugin_api.specs.declared.fault.DirectiveWhy.TheVariants as why

-- what became of the patterns of a configuration: so many are made, and the next one, if there is
-- any, is refused so
pub record Judgement : Type 0 where
  pub made : ℕ
  pub why : DirectiveWhy

-- patterns that are to be made, behind so many of the configuration, and the first fault that is
-- met, by what becomes of them
pub record Task (Fault : Type 0) : Type 0 where
  pub number : ℕ
  pub patterns : List (List ℕ)
  pub fault : Judgement → Option Fault

-- so many patterns of a task are made, and the next one is refused so
abbrev pub judged : {Fault : Type 0} → Task Fault → ℕ → DirectiveWhy → Judgement
judged task count why = record { made = task.number + count; why = why }

-- a fault that is none of a pattern comes behind so many patterns, and these are made
pub record Comes {Fault : Type 0} (task : Task Fault) (refused : Fault) : Type 0 where
  pub count : ℕ
  pub inside : count ≤ length task.patterns
  pub good : AllByRecursion IsPatternText (take count task.patterns)
  pub is : (judgement : Judgement) → task.number + count ≤ judgement.made
      → task.fault judgement ≡ Some refused

-- whether a text is refused so: as none of the grammar, or as too large
abbrev pub IsJudged : DirectiveWhy → List ℕ → Type 0
IsJudged why.Pattern text = IsPatternText text → ⊥
IsJudged why.PatternSize text = IsPatternText text
IsJudged other text = ⊥

-- a pattern is refused, and told at its line so, and those that stand before it are made. It is the
-- text that the maker refused last.
pub record Stops {Fault : Type 0} (told : ℕ → DirectiveWhy → Fault) (task : Task Fault)
    (last : Option (List ℕ)) (refused : Fault) : Type 0 where
  pub count : ℕ
  pub good : AllByRecursion IsPatternText (take count task.patterns)
  pub text : List ℕ
  pub stands : slice_get task.patterns count ≡ Some text
  pub own : last ≡ Some text
  pub line : ℕ
  pub why : DirectiveWhy
  pub so : refused ≡ told line why
  pub judgement : IsJudged why text
  pub is : task.fault (judged task count why) ≡ Some refused

-- this is the first fault, where the maker refused this text last
abbrev pub IsFault : {Fault : Type 0} → (ℕ → DirectiveWhy → Fault) → Task Fault
    → Option (List ℕ) → Fault → Type 0
IsFault told task last refused = Comes task refused ⊎ Stops told task last refused

-- there is no fault where all are made
abbrev pub IsFree : {Fault : Type 0} → Task Fault → Type 0
IsFree task = (judgement : Judgement) → task.number + length task.patterns ≤ judgement.made
    → task.fault judgement ≡ None

-- all patterns are good, and there is no fault where all are made
pub record IsWell {Fault : Type 0} (task : Task Fault) : Type 0 where
  pub good : AllByRecursion IsPatternText task.patterns
  pub free : IsFree task

-- a task, and then another one, whose patterns stand behind those of the first
abbrev pub sequel : {Fault : Type 0} → Task Fault → Task Fault → Task Fault
sequel front back = record {
  number = front.number;
  patterns = front.patterns ++ back.patterns;
  fault = λ judgement. option_or (front.fault judgement) (back.fault judgement);
}

-- a task whose faults are told by others
abbrev pub retold : {Fault Other : Type 0} → (Option Fault → Option Other) → Task Fault → Task Other
retold tells task = record {
  number = task.number;
  patterns = task.patterns;
  fault = λ judgement. tells (task.fault judgement);
}

-- the rest of a task is as good as the whole: what becomes of it becomes of the whole, whatever the
-- maker refused last
pub record Carries {Fault : Type 0} (told : ℕ → DirectiveWhy → Fault) (rest whole : Task Fault)
    : Type 0 where
  pub well : IsWell rest → IsWell whole
  pub refused : (last : Option (List ℕ)) (refused : Fault) → IsFault told rest last refused
      → IsFault told whole last refused

-- how a directive tells of a pattern: at its line
abbrev pub at_line : ℕ → DirectiveWhy → DirectiveFault
at_line line why = fault.Why line why

-- the fault of a pattern at a line, behind so many of the configuration
abbrev pub pattern_fault : Judgement → ℕ → ℕ → Option DirectiveFault
pattern_fault judged line number =
    if nat_le limits.PATTERNS number then Some (fault.TooMany limit.Patterns (limits.PATTERNS + 1))
    else if nat_lt number judged.made then None
    else Some (fault.Why line judged.why)

-- one pattern of a line
abbrev pub pattern_task : ℕ → ℕ → List ℕ → Task DirectiveFault
pattern_task line number text = record {
  number = number;
  patterns = text ∷ [];
  fault = λ judgement. pattern_fault judgement line number;
}

-- a pattern is refused so at its line, and is the text that the maker refused last
pub record IsRefused (line : ℕ) (text : List ℕ) (last : Option (List ℕ))
    (refused : DirectiveFault) : Type 0 where
  pub why : DirectiveWhy
  pub so : refused ≡ fault.Why line why
  pub own : last ≡ Some text
  pub judgement : IsJudged why text

-- memory is wanting, or this is the first fault of a directive
abbrev pub Refuses : Task DirectiveFault → Option (List ℕ) → DirectiveFault → Type 0
Refuses task last refused = (refused ≡ fault.NoMemory) ⊎ IsFault at_line task last refused

-- the refusals of a maker behind a fault: they rise by one where it refused a pattern
abbrev pub refusals_behind : DirectiveFault → ℕ → ℕ
refusals_behind (fault.Why line why.Pattern) before = raised before
refusals_behind (fault.Why line why.PatternSize) before = raised before
refusals_behind other before = before

-- a maker behind reading: nothing but its refusals is another
abbrev pub maker_behind : {X : Type 0} → Result X DirectiveFault → WatchState → WatchState
maker_behind (Ok x) state = state
maker_behind (Err refused) state =
    with_refusals state (refusals_behind refused state.refusals)
