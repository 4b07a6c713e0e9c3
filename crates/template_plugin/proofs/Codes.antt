-- RCODEs that have a name are small.
use Rattle.std.proofs.Common.{◌<◌, ℕ, Bool, true, false, List, [], ◌∷◌, Option, Some, None, IfSome, cond, find, option_map, unwrap_or, arith}
use Rattle.std.specs.Cmp.Lexicographic.{pointwise}
use Rattle.std.specs.Prelude.{nat_eq}
use Rattle.std.specs.List.{AllByRecursion}
use Rattle.type_names.specs.Rcodes.{names, rcode_of_text}
use Rattle.template_plugin.specs.Words.{named_rcode}

abbrev Row : Type 0
Row = List ℕ × ℕ

abbrev IsSmall : Row → Type 0
IsSmall row = row.1 < 16

found_by : (b : Bool) (row : Row) (o : Option Row) → IsSmall row → IfSome o IsSmall → IfSome (cond b (Some row) o) IsSmall
found_by true row o h k = h
found_by false row o h k = k

found_small : (p : Row → Bool) (rows : List Row) → AllByRecursion IsSmall rows → IfSome (find p rows) IsSmall
found_small p [] h = tt
found_small p (row ∷ rows) h = found_by (p row) row (find p rows) h.0 (found_small p rows h.1)

all_small : AllByRecursion IsSmall names
all_small = (omega arith, (omega arith, (omega arith, (omega arith, (omega arith, (omega arith, tt))))))

of_row : (o : Option Row) → IfSome o IsSmall → unwrap_or (option_map (λ (row : Row). row.1) o) 0 < 16
of_row None h = omega arith
of_row (Some row) h = h

pub small_rcode : (word : List ℕ) → named_rcode word < 16
unfolding rcode_of_text
small_rcode word = of_row (find (λ (row : Row). pointwise nat_eq word row.0) names) (found_small (λ (row : Row). pointwise nat_eq word row.0) names all_small)
