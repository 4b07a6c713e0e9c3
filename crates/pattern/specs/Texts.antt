-- What the text of a pattern finds in another text, by the grammar of the crate `regex` under its
-- default options: the parts that the groups of its leftmost match span, and the groups' names.
use Rattle.std.specs.Prelude.{ℕ, zero, suc, nat_eq, nat_lt, Bool, true, false, List, [], ◌∷◌}
use Rattle.std.specs.Prelude.{length, chars, Option, Some, None, option_map, option_and_then}
use Rattle.std.specs.Prelude.{if◌then◌else◌}
use Rattle.std.specs.Cmp.Lexicographic.{pointwise}
use Rattle.regex_hir.specs.Re.{Re}
use Rattle.regex_hir.specs.Find.{Match, find_str}
use Rattle.regex_vm.specs.Found.{span}
use Rattle.regex_syntax.specs.Grammar.{Names, read}
use Rattle.regex_syntax.specs.Brackets.{Nested}
use Rattle.regex_syntax.specs.Verdict.{default_config}
use Rattle.regex.specs.Writes.{group_of}

-- the parts that the groups of a match span, group 0 the whole match, and the number of a group's
-- name
pub record Finding : Type 0 where
  pub span : ℕ → Option (ℕ × ℕ)
  pub number : List ℕ → Option ℕ

-- what group n of a match spans, of the groups that have these names
abbrev pub group_span : Names → Match → ℕ → Option (ℕ × ℕ)
group_span names m zero = Some (span m)
group_span names m (suc n) =
    if nat_lt (suc n) (length names) then group_of m (suc n) else None

-- whether this is the name
abbrev pub is_named : List ℕ → Option (List ℕ) → Bool
is_named name None = false
is_named name (Some other) = pointwise nat_eq other name

-- the number of the first group of a name
abbrev pub number_in : Names → List ℕ → Option ℕ
number_in [] name = None
number_in (other ∷ names) name =
    if is_named name other then Some 0 else option_map suc (number_in names name)

abbrev pub finding_in : Names → Match → Finding
finding_in names m = record { span = group_span names m; number = number_in names }

-- what is read of a pattern's text finds
abbrev pub found_in : List ℕ → Nested Re × Names → Option Finding
found_in text pattern = option_map (finding_in pattern.1) (find_str pattern.0.value text 0)

-- what a pattern finds in a text; none, where it doesn't match, or is no pattern
unfoldable pub finding_of : List ℕ → List ℕ → Option Finding
finding_of pattern text = option_and_then (found_in text) (read default_config (chars pattern))

-- the span of the whole of a text
abbrev pub whole_span : List ℕ → ℕ → Option (ℕ × ℕ)
whole_span text zero = Some (0, length text)
whole_span text (suc n) = None

-- the whole of a text is found, and no group has a name
abbrev pub whole_text : List ℕ → Finding
whole_text text = record { span = whole_span text; number = λ name. None }
