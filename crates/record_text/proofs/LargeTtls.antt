-- A TTL that is too large stays so with more of its text.
use Rattle.std.proofs.Common.{◌≡◌, ◌≤◌, ◌<◌, ◌+◌, ◌*◌, ◌==◌, ℕ, List, [], ◌∷◌, length, Option, Some, None, option_map, option_and_then, IfSome, Bool, true, false, cond, refl, sym, ap, arith, ◌∙◌}
use Rattle.std.proofs.Math.Dec.{ltb}
use Rattle.std.proofs.Math.Nat.{le-mul_of_pos_right}
use Rattle.std.proofs.lemmas.Bool.{le-ltb, lt-ltb}
use Rattle.std.specs.Char.{is_ascii_digit}
use Rattle.std.specs.Option.{unwrap_or}
use Rattle.dns_data.specs.declared.limit.TheConstants as limits
use Rattle.record_text.specs.Ttls.{if_ttl, in_seconds, sum_of, unit_of, units_of, with_digit}

-- a sum with more behind it, where it is a TTL
abbrev behind : ℕ → Option ℕ → Option ℕ
behind total others = option_and_then if_ttl (option_map (λ o. total + o) others)

either : (b : Bool) (unit : ℕ) (others : Option ℕ) → 1 ≤ unit → IfSome others (λ u. 1 ≤ u) → IfSome (cond b (Some unit) others) (λ u. 1 ≤ u)
either true unit others h more = h
either false unit others h more = more

-- a unit has at least a second
some_seconds : (byte : ℕ) → IfSome (unit_of byte) (λ u. 1 ≤ u)
some_seconds byte =
    either (byte == 115) 1 _ (omega arith) (either (byte == 109) 60 _ (omega arith) (either (byte == 104) 3600 _ (omega arith)
    (either (byte == 100) 86400 _ (omega arith) (either (byte == 119) 604800 None (omega arith) tt))))

too_large : (seconds : ℕ) → limits.TTL_END ≤ seconds → if_ttl seconds ≡ None
too_large seconds h = let test : ltb seconds limits.TTL_END ≡ false = le-ltb seconds limits.TTL_END h in rw test refl

large_total : (total : ℕ) (others : Option ℕ) → limits.TTL_END ≤ total → behind total others ≡ None
large_total total None h = refl
large_total total (Some n) h = too_large (total + n) (omega arith)

unit_behind : (total number : ℕ) (unit others : Option ℕ) → IfSome unit (λ u. 1 ≤ u) → limits.TTL_END ≤ total + number
    → behind total (option_and_then (λ s. option_map (λ o. s + o) others) (option_map (λ u. number * u) unit)) ≡ None
unit_behind total number None others some h = refl
unit_behind total number (Some unit) None some h = refl
unit_behind total number (Some unit) (Some n) some h =
    let more : number ≤ number * unit = le-mul_of_pos_right number some in too_large (total + (number * unit + n)) (omega (arith, more))

unit_part : (total : ℕ) (number : Option ℕ) (byte : ℕ) (text : List ℕ) → limits.TTL_END ≤ total + unwrap_or number 0
    → behind total (option_and_then (λ s. option_map (λ o. s + o) (sum_of None text)) (in_seconds number byte)) ≡ None
unit_part total None byte text h = refl
unit_part total (Some number) byte text h = unit_behind total number (unit_of byte) (sum_of None text) (some_seconds byte) h

large : (total : ℕ) (number : Option ℕ) (text : List ℕ) → limits.TTL_END ≤ total + unwrap_or number 0 → behind total (sum_of number text) ≡ None
large total None [] h = too_large (total + 0) (omega arith)
large total (Some number) [] h = refl
large total number (byte ∷ text) h =
    elim (is_ascii_digit byte) as (λ b. behind total (cond b (sum_of (Some (with_digit number byte)) text) (option_and_then (λ s. option_map (λ o. s + o) (sum_of None text)) (in_seconds number byte))) ≡ None)
    [ true ↦ large total (Some (with_digit number byte)) text (omega arith) | false ↦ unit_part total number byte text h ]

no_units : (text : List ℕ) → option_and_then if_ttl (sum_of None text) ≡ None → units_of text ≡ None
no_units [] h = refl
no_units (byte ∷ text) h = h

-- digits that are too many
pub large_digits : (total : ℕ) (number : Option ℕ) (text rest others : List ℕ) (byte : ℕ) → option_map (λ o. total + o) (sum_of number rest) ≡ sum_of None text
    → rest ≡ byte ∷ others → is_ascii_digit byte ≡ true → limits.TTL_END ≤ with_digit number byte → units_of text ≡ None
large_digits total number text rest others byte says is digit h =
    let step : sum_of number rest ≡ sum_of (Some (with_digit number byte)) others = ap (sum_of number) is ∙ rw digit refl in
    no_units text (ap (option_and_then if_ttl) (sym says) ∙ ap (behind total) step ∙ large total (Some (with_digit number byte)) others (omega arith))

step_unit : (number : Option ℕ) (rest others : List ℕ) (byte seconds : ℕ) → rest ≡ byte ∷ others → is_ascii_digit byte ≡ false → in_seconds number byte ≡ Some seconds
    → sum_of number rest ≡ option_map (λ o. seconds + o) (sum_of None others)
step_unit number rest others byte seconds is digit value = ap (sum_of number) is ∙ rw digit (ap (option_and_then (λ s. option_map (λ o. s + o) (sum_of None others))) value)

map_sum : (total seconds : ℕ) (others : Option ℕ) → option_map (λ o. total + o) (option_map (λ o. seconds + o) others) ≡ option_map (λ o. (total + seconds) + o) others
map_sum total seconds None = refl
map_sum total seconds (Some n) = ap Some (omega arith)

-- one more number with its unit
pub units_step : (total seconds : ℕ) (number : Option ℕ) (text rest others : List ℕ) (byte : ℕ) → option_map (λ o. total + o) (sum_of number rest) ≡ sum_of None text
    → rest ≡ byte ∷ others → is_ascii_digit byte ≡ false → in_seconds number byte ≡ Some seconds → option_map (λ o. (total + seconds) + o) (sum_of None others) ≡ sum_of None text
units_step total seconds number text rest others byte says is digit value =
    sym (map_sum total seconds (sum_of None others)) ∙ ap (option_map (λ o. total + o)) (sym (step_unit number rest others byte seconds is digit value)) ∙ says

-- a sum that is too large
pub large_sum : (total seconds : ℕ) (number : Option ℕ) (text rest others : List ℕ) (byte : ℕ) → option_map (λ o. total + o) (sum_of number rest) ≡ sum_of None text
    → rest ≡ byte ∷ others → is_ascii_digit byte ≡ false → in_seconds number byte ≡ Some seconds → limits.TTL_END ≤ total + seconds → units_of text ≡ None
large_sum total seconds number text rest others byte says is digit value h =
    no_units text (ap (option_and_then if_ttl) (sym (units_step total seconds number text rest others byte says is digit value)) ∙ large_total (total + seconds) (sum_of None others) h)

-- one more digit
pub digits_step : (total : ℕ) (number : Option ℕ) (text rest others : List ℕ) (byte : ℕ) → option_map (λ o. total + o) (sum_of number rest) ≡ sum_of None text
    → rest ≡ byte ∷ others → is_ascii_digit byte ≡ true → option_map (λ o. total + o) (sum_of (Some (with_digit number byte)) others) ≡ sum_of None text
digits_step total number text rest others byte says is digit =
    let step : sum_of number rest ≡ sum_of (Some (with_digit number byte)) others = ap (sum_of number) is ∙ rw digit refl in
    ap (option_map (λ o. total + o)) (sym step) ∙ says

-- a byte that is no unit, or has no number in front
pub no_unit : (total : ℕ) (number : Option ℕ) (text rest others : List ℕ) (byte : ℕ) → option_map (λ o. total + o) (sum_of number rest) ≡ sum_of None text
    → rest ≡ byte ∷ others → is_ascii_digit byte ≡ false → in_seconds number byte ≡ None → units_of text ≡ None
no_unit total number text rest others byte says is digit value =
    let step : sum_of number rest ≡ None = ap (sum_of number) is ∙ rw digit (ap (option_and_then (λ s. option_map (λ o. s + o) (sum_of None others))) value) in
    no_units text (ap (option_and_then if_ttl) (sym says) ∙ ap (behind total) step)

-- the text ends behind a unit
pub units_end : (total : ℕ) (text : List ℕ) → option_map (λ o. total + o) (sum_of None []) ≡ sum_of None text → 0 < length text → total < limits.TTL_END → units_of text ≡ Some total
units_end total [] says some h = absurd (omega (arith, some))
units_end total (byte ∷ text) says some h =
    let test : ltb total limits.TTL_END ≡ true = lt-ltb total limits.TTL_END h in
    let sum : sum_of None (byte ∷ text) ≡ Some total = sym says ∙ ap Some (omega arith) in
    ap (option_and_then if_ttl) sum ∙ rw test refl

pub units_open : (total number : ℕ) (text : List ℕ) → option_map (λ o. total + o) (sum_of (Some number) []) ≡ sum_of None text → units_of text ≡ None
units_open total number text says = no_units text (ap (option_and_then if_ttl) (sym says))
