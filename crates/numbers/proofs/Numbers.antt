-- Reading a number digit by digit.
use Rattle.std.proofs.Common.{Some, None, ◌≡◌, ◌≤◌, ◌<◌, ℕ, ◌+◌, ◌*◌, ◌-◌, ◌^◌, true, false, ◌&&◌, leb, refl, List, [], ◌∷◌, ◌++◌, length, take, get_or, All, sym, ap, ◌∙◌, add-one, arith}
use Rattle.std.proofs.lemmas.List.{take_more}
use Rattle.std.proofs.lemmas.List.Elements.{All-push}
use Rattle.std.proofs.lemmas.Bool.{and_parts, and_from, le-leb, leb-true, false_from_ne_true}
use Rattle.std.proofs.lemmas.List.Sums.{fold-append, AllPass-from_list_all, list_all-from_AllPass}
use Rattle.std.proofs.Math.Nat.{pow-succ', pow-le-pow_right}
use Rattle.std.specs.List.{list_all}
use Rattle.std.specs.Char.{IsAsciiDigit, is_ascii_digit}
use Rattle.numbers.specs.Number.{decimal, is_number, number_of}

decimal-push : (digits : List ℕ) (digit : ℕ) → decimal (digits ++ digit ∷ []) ≡ 10 * decimal digits + (digit - 48)
decimal-push digits digit = fold-append (λ number d. 10 * number + (d - 48)) 0 digits (digit ∷ [])

-- what the first digits of a text spell
pub record NumberSoFar (text : List ℕ) (count number : ℕ) : Type 0 where
  pub value : number ≡ decimal (take count text)
  pub digits : All IsAsciiDigit (take count text)
  pub small : number < 10 ^ count

-- a further digit
pub one_digit : (text : List ℕ) (count number more : ℕ) → NumberSoFar text count number → count < length text → IsAsciiDigit (get_or text count 0)
    → more ≡ 10 * number + (get_or text count 0 - 48) → NumberSoFar text (count + 1) more
one_digit text count number more so_far inside digit is =
    let taken = take_more text count 0 inside in
    let power : 10 ^ (count + 1) ≡ 10 * 10 ^ count = rw add-one (pow-succ' 10 count) in
    record {
      value = is ∙ ap (λ (n : ℕ). 10 * n + (get_or text count 0 - 48)) so_far.value ∙ sym (decimal-push (take count text) (get_or text count 0)) ∙ ap decimal (sym taken);
      digits = rw taken (All-push IsAsciiDigit (take count text) (get_or text count 0) so_far.digits digit);
      small = let small = so_far.small in let low = digit.0 in let high = digit.1 in omega (arith, power);
    }

-- a number of so few digits fits
pub fits : (count number : ℕ) → number < 10 ^ count → count < 18 → 10 * number + 10 ≤ 10 ^ 18
fits count number small few =
    let power : 10 ^ (count + 1) ≡ 10 * 10 ^ count = rw add-one (pow-succ' 10 count) in
    let up : 10 ^ (count + 1) ≤ 10 ^ 18 = pow-le-pow_right {n = 10} (omega arith) {i = count + 1} {j = 18} (omega arith) in
    omega (arith, power, up)

digit_yes : (byte : ℕ) → IsAsciiDigit byte → is_ascii_digit byte ≡ true
digit_yes byte is = and_from (leb 48 byte) (leb byte 57) (le-leb 48 byte is.0) (le-leb byte 57 is.1)

digit_from : (byte : ℕ) → is_ascii_digit byte ≡ true → IsAsciiDigit byte
digit_from byte e = let both = and_parts (leb 48 byte) (leb byte 57) e in (leb-true 48 byte both.0, leb-true byte 57 both.1)

-- a text of one to so many digits is a number
pub number_yes : (most : ℕ) (text : List ℕ) → 1 ≤ length text → length text ≤ most → All IsAsciiDigit text → number_of most text ≡ Some (decimal text)
unfolding number_of
number_yes most text some few digits =
    let is : is_number most text ≡ true =
    and_from _ _ (and_from _ _ (le-leb 1 (length text) some) (le-leb (length text) most few))
    (list_all-from_AllPass is_ascii_digit text (λ k d h. digit_yes _ (digits k d h))) in
    rw is refl

-- any other text is none
pub number_no : (most : ℕ) (text : List ℕ) → (1 ≤ length text → length text ≤ most → All IsAsciiDigit text → ⊥) → number_of most text ≡ None
unfolding number_of
number_no most text none =
    let isnt : is_number most text ≡ false = false_from_ne_true (is_number most text) (λ e.
    let all = and_parts (leb 1 (length text) && leb (length text) most) (list_all is_ascii_digit text) e in
    let sized = and_parts (leb 1 (length text)) (leb (length text) most) all.0 in
    none (leb-true 1 (length text) sized.0) (leb-true (length text) most sized.1) (λ k d h. digit_from _ (AllPass-from_list_all is_ascii_digit text all.1 k d h))) in
    rw isnt refl
