-- What a search with a scratch finds.
use Rattle.std.specs.Prelude.{◌≡◌, ℕ, zero, suc, ◌-◌, ◌*◌, ◌<◌, ◌≤◌, Bool, true, false, List, length, Option, Some, None, IfSome, IsTrue, if◌then◌else◌, slice_index, slice_index_or}
use Rattle.regex_hir.specs.Re.{Re}
use Rattle.regex_hir.specs.Find.{Match}
use Rattle.regex_hir.specs.Meaning.{meaning}
use Rattle.regex_hir.specs.declared.hir.Hir.{Hir}
use Rattle.regex_compile.specs.Implements.{Implements}
use Rattle.regex_vm.specs.Found.{span}
use Rattle.regex.specs.Utf8.{CutsCleanly}
use Rattle.regex_extract.specs.Bounds.{IsAnchored, IsMaxLen}
use Rattle.regex_extract.specs.Needles.{EndsWithNeedle, needles_of}
use Rattle.regex_syntax.specs.Grammar.{Names}
use Rattle.regex_syntax.specs.Verdict.{Reads, default_config}
use Rattle.regex.specs.Strings.{group_count}
use Rattle.regex.specs.Writes.{group_of, both}
use Rattle.regex_syntax.specs.Captures.{SameCaptures}
use Rattle.regex.specs.declared.string.regex.Regex.{Regex}
use Rattle.pattern.specs.declared.automaton.Automaton.{Automaton}
use Rattle.pattern.specs.declared.scratch.Scratch.{Scratch}

-- the span of a group in the last match whose groups were kept
abbrev pub scratch_group : Scratch → ℕ → Option (ℕ × ℕ)
scratch_group s n = slice_index_or s.spans.items n None

-- the position that a cell holds, which is one less than the cell
abbrev pub position : ℕ → Option ℕ
position zero = None
position (suc i) = Some i

-- the span of group n by its two cells
abbrev pub span_of_cells : List ℕ → ℕ → Option (ℕ × ℕ)
span_of_cells cells n =
    both (position (slice_index cells (2 * n - 2))) (position (slice_index cells (2 * n - 1)))

-- where a match may start last: past 0 none starts, where the flag is set
abbrev pub last_start : Bool → List ℕ → ℕ
last_start at_start hay = if at_start then 0 else length hay

-- each group below this number stands in the cells
abbrev pub CellsAreOf : Match → List ℕ → Type 0
CellsAreOf m cells = (n : ℕ) → 1 ≤ n → 2 * n ≤ length cells → span_of_cells cells n ≡ group_of m n

-- every match ends with the text, and with one of these
pub record IsEndOf (re : Re) (endings : List (List ℕ)) : Type 0 where
  pub anchored : IsAnchored false re
  pub ends : EndsWithNeedle re endings

-- every match ends with the text, and none is longer than this
pub record IsTailOf (re : Re) (longest : ℕ) : Type 0 where
  pub anchored : IsAnchored false re
  pub most : IsMaxLen re longest

-- the automaton searches for a pattern that gives a caller the same matches and captures as this
pub record Runs (it : Automaton) (re : Re) : Type 0 where
  pub own : Re
  pub implements : Implements it.nfa own
  pub same : SameCaptures own re
  pub counted : 0 < it.groups
  pub starts : it.at_start ≡ true → IsAnchored true own
  pub ends : IfSome it.endings (λ v. IsEndOf own (needles_of v))
  pub tails : IfSome it.longest (IsTailOf own)

-- the automaton is what the grammar reads in the text
pub record IsReadIn (source : List ℕ) (it : Automaton) : Type 0 where
  pub hir : Hir
  pub names : Names
  pub reads : Reads default_config source hir names
  pub count : it.groups ≡ length names
  pub runs : Runs it (meaning hir)

-- the scratch has the groups of the match, the whole match as group 0, and no group from this
-- number on
pub record HasGroups (count : ℕ) (m : Match) (s : Scratch) : Type 0 where
  pub whole : scratch_group s 0 ≡ Some (span m)
  pub each : (n : ℕ) → 1 ≤ n → n < count → scratch_group s n ≡ group_of m n
  pub none : (n : ℕ) → count ≤ n → scratch_group s n ≡ None

-- the span stands in the text, and both its ends fall between characters
abbrev pub IsPartOf : List ℕ → ℕ × ℕ → Type 0
IsPartOf text s = (s.0 ≤ s.1) × CutsCleanly text s

-- the scratch has the groups of a match of this pattern, each of which is a part of the text
pub record KeepsGroups (r : Regex) (text : List ℕ) (m : Match) (s : Scratch) : Type 0 where
  pub groups : HasGroups (group_count r) m s
  pub parts : (n : ℕ) → IfSome (scratch_group s n) (IsPartOf text)

-- what a search answers where there is a match: its span, a part of the text, and with `keep` the
-- scratch has its groups
pub record IsFoundIn (r : Regex) (text : List ℕ) (keep : Bool) (s : Scratch) (m : Match)
    (found : ℕ × ℕ) : Type 0 where
  pub spans : found ≡ span m
  pub part : IsPartOf text found
  pub keeps : IsTrue keep → KeepsGroups r text m s
