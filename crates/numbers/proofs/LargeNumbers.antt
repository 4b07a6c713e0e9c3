-- A number that is too large stays so with more digits.
use Rattle.std.proofs.Common.{◌≡◌, ◌≤◌, ◌+◌, ◌*◌, ℕ, List, [], ◌∷◌, Option, Some, None, Bool, true, false, ◌&&◌, cond, refl, arith}
use Rattle.std.proofs.Math.Dec.{ltb}
use Rattle.std.proofs.lemmas.Bool.{le-ltb}
use Rattle.std.specs.Char.{digit_value}
use Rattle.std.specs.Str.Parse.{digits_value, digits_value_after}
use Rattle.numbers.specs.Below.{is_number, number_below}

pub grows : (number : ℕ) (text : List ℕ) → number ≤ digits_value_after 10 number text
grows number [] = omega arith
grows number (byte ∷ text) =
    let more : number * 10 + digit_value byte ≤ digits_value_after 10 (number * 10 + digit_value byte) text = grows (number * 10 + digit_value byte) text in omega (arith, more)

never : (b : Bool) (x : Option ℕ) → cond (b && false) x None ≡ None
never true x = refl
never false x = refl

pub too_large : (end number : ℕ) (text rest : List ℕ) → end ≤ number → digits_value 10 text ≡ digits_value_after 10 number rest → number_below end text ≡ None
unfolding number_below
too_large end number text rest h says =
    let all : end ≤ digits_value 10 text = rw says (let g = grows number rest in omega arith) in
    let test : ltb (digits_value 10 text) end ≡ false = le-ltb (digits_value 10 text) end all in
    rw test (never (is_number text) (Some (digits_value 10 text)))
