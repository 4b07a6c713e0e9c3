-- A type that was printed is read again.
use Rattle.std.proofs.Common.{◌≡◌, ◌<◌, ◌^◌, ◌==◌, ◌++◌, ℕ, List, [], ◌∷◌, length, codes, Option, Some, None, option_map, IfSome, Bool, true, false, cond, refl, sym, ap, arith, ◌∙◌}
use Rattle.std.specs.List.{find, AllByRecursion}
use Rattle.std.specs.Fmt.{decimal}
use Rattle.std.specs.Str.{all_ascii_digits}
use Rattle.std.specs.Str.Parse.{digits_value}
use Rattle.std.proofs.lemmas.Fmt.{decimal_nonempty, digits_decimal, digits_value-decimal}
use Rattle.std.proofs.lemmas.Str.Parse.{IsNumeralModel, numerals_by_value, tells_all_ascii_digits}
use Rattle.std.proofs.Math.Dec.{ltb}
use Rattle.std.proofs.lemmas.Bool.{le-ltb, lt-ltb, eqb-true}
use Rattle.numbers.specs.Below.{number_below}
use Rattle.type_names.specs.Kinds.{kind_of_text, kind_text, named, names, printed}

abbrev ReadsRow : List ℕ × ℕ → Type 0
ReadsRow row = named row.0 ≡ Some row.1

-- each name is read as its type
each_row : AllByRecursion ReadsRow names
each_row = (refl, (refl, (refl, (refl, (refl, (refl, (refl, (refl, (refl, (refl, (refl, (refl, tt))))))))))))

row_then : (kind : ℕ) (row : List ℕ × ℕ) (found : Option (List ℕ × ℕ)) → named row.0 ≡ Some row.1 → IfSome found (λ row. named row.0 ≡ Some kind)
    → (b : Bool) → (kind == row.1) ≡ b → IfSome (cond b (Some row) found) (λ row. named row.0 ≡ Some kind)
row_then kind row found is others true test = is ∙ ap Some (sym (eqb-true kind row.1 test))
row_then kind row found is others false test = others

found_row : (kind : ℕ) (rows : List (List ℕ × ℕ)) → AllByRecursion ReadsRow rows → IfSome (find (λ row. kind == row.1) rows) (λ row. named row.0 ≡ Some kind)
found_row kind [] all = tt
found_row kind (row ∷ rows) all = row_then kind row (find (λ row. kind == row.1) rows) all.0 (found_row kind rows all.1) (kind == row.1) refl

own : IsNumeralModel (λ ds. all_ascii_digits ds ≡ true) (digits_value 10)
own = numerals_by_value (λ ds. all_ascii_digits ds ≡ true) tells_all_ascii_digits

decimal_read : (kind : ℕ) → kind < 2 ^ 16 → number_below (2 ^ 16) (decimal kind) ≡ Some kind
unfolding number_below
decimal_read kind h =
    let wide : kind < 2 ^ 64 = omega arith in
    let digits : all_ascii_digits (decimal kind) ≡ true = digits_decimal own kind wide in
    let value : digits_value 10 (decimal kind) ≡ kind = digits_value-decimal own kind wide in
    let some : ltb 0 (length (decimal kind)) ≡ true = lt-ltb 0 (length (decimal kind)) (decimal_nonempty kind wide) in
    let small : ltb kind (2 ^ 16) ≡ true = lt-ltb kind (2 ^ 16) h in
    rw (digits, value, some, small) refl

by_number : (kind : ℕ) → kind < 2 ^ 16 → kind_of_text (codes "TYPE" ++ decimal kind) ≡ Some kind
unfolding kind_of_text
by_number kind h =
    let long : ltb (length (codes "TYPE" ++ decimal kind)) 4 ≡ false = le-ltb (length (codes "TYPE" ++ decimal kind)) 4 (omega arith) in
    rw long (decimal_read kind h)

by_row : (kind : ℕ) → kind < 2 ^ 16 → (found : Option (List ℕ × ℕ)) → IfSome found (λ row. named row.0 ≡ Some kind)
    → kind_of_text (printed kind (option_map (λ row. row.0) found)) ≡ Some kind
unfolding kind_of_text
by_row kind h None is = by_number kind h
by_row kind h (Some row) is = rw is refl

pub reads_back : (kind : ℕ) → kind < 2 ^ 16 → kind_of_text (kind_text kind) ≡ Some kind
unfolding kind_text
reads_back kind h = by_row kind h (find (λ row. kind == row.1) names) (found_row kind names each_row)
