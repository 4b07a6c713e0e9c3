-- Numbers below 256 as text: what is read is what would be printed, and the other way round.
use Rattle.std.proofs.Common.{◌≡◌, ℕ, ◌+◌, ◌*◌, ◌/◌, ◌%◌, ◌-◌, ◌<◌, ◌≤◌, Bool, true, false, not, ◌&&◌, cond, eqb, ltb, List, [], ◌∷◌, ◌++◌, map, Some, None, inl, inr, refl, sym, ap, ◌∙◌, arith}
use Rattle.std.proofs.lemmas.Fmt.{decimal_digit, decimal_step}
use Rattle.std.proofs.lemmas.Bool.{cases_lt, and_parts, ltb-true, lt-ltb, eqb-false, ne_eqb, not-true, agree_below_at}
use Rattle.std.proofs.lemmas.Grind.{common_steps}
use Rattle.std.specs.List.{AllByRecursion}
use Rattle.std.specs.Fmt.{decimal}
use Rattle.std.specs.Char.{to_ascii_lowercase, is_ascii_digit}
use Rattle.dns_addr.specs.AddrText.{octet_of}

-- a number below 10, one below 100, and one below 1000, in decimal
pub one_digit : (n : ℕ) → n < 10 → decimal n ≡ (48 + n % 10) ∷ []
one_digit n h = let same : n ≡ n % 10 = omega arith in decimal_digit n h ∙ ap (λ (d : ℕ). (48 + d) ∷ []) same

pub two_digits : (n : ℕ) → 10 ≤ n → n < 100 → decimal n ≡ (48 + n / 10 % 10) ∷ (48 + n % 10) ∷ []
two_digits n low high = ten ∙ ap (λ (d : ℕ). (48 + d) ∷ (48 + n % 10) ∷ []) same
  where
    same : n / 10 ≡ n / 10 % 10
    same = omega arith

    ten : decimal n ≡ (48 + n / 10) ∷ (48 + n % 10) ∷ []
    ten = decimal_step n low (omega arith) ∙ ap (λ (t : List ℕ). t ++ (48 + n % 10) ∷ []) (decimal_digit (n / 10) (omega arith))

pub three_digits : (n : ℕ) → 100 ≤ n → n < 1000 → decimal n ≡ (48 + n / 100) ∷ (48 + n / 10 % 10) ∷ (48 + n % 10) ∷ []
three_digits n low high =
    let tens : n / 10 / 10 % 10 ≡ n / 100 = omega arith in
    decimal_step n (omega arith) (omega arith)
    ∙ ap (λ (t : List ℕ). t ++ (48 + n % 10) ∷ []) (two_digits (n / 10) (omega arith) (omega arith) ∙ ap (λ (d : ℕ). (48 + d) ∷ (48 + n / 10 % 10) ∷ []) tens)

-- a digit is its own small letter
pub low_digit : (b : ℕ) → is_ascii_digit b ≡ true → to_ascii_lowercase b ≡ b
low_digit b e = grind (arith, common_steps)

digit_low : (b : ℕ) → is_ascii_digit b ≡ true → 48 ≤ b
digit_low b e = grind (arith, common_steps)

digit_high : (b : ℕ) → is_ascii_digit b ≡ true → b ≤ 57
digit_high b e = grind (arith, common_steps)

-- a byte whose small letter is a digit is that digit
digit_back : (b d : ℕ) → to_ascii_lowercase b ≡ 48 + d → d < 10 → b ≡ 48 + d
digit_back b d e h = grind (arith, common_steps)

pub is_digit : (d : ℕ) → d < 10 → is_ascii_digit (48 + d) ≡ true
is_digit d h = agree_below_at (λ d. is_ascii_digit (48 + d)) (λ _. true) 10 d refl h

-- the value of a test's answer
pub given : {A : Type 0} (b : Bool) (x y : A) → cond b (Some x) None ≡ Some y → (b ≡ true) × (x ≡ y)
given true x y e = (refl, cc)
given false x y e = absurd cc

at_least : (a : ℕ) → (a ≡ 48 → ⊥) → 48 ≤ a → 49 ≤ a
at_least a some low = elim (cases_lt 48 a) [ inl more ↦ more | inr less ↦ absurd (some (omega arith)) ]

-- a label that is read is the number's text
pub record IsOctet (label : List ℕ) (n : ℕ) : Type 0 where
  pub low : n < 256
  pub text : map to_ascii_lowercase label ≡ decimal n

pub octet_sound : (label : List ℕ) (n : ℕ) → octet_of label ≡ Some n → IsOctet label n
octet_sound [] n e = absurd cc
octet_sound (a ∷ []) n e =
    let g = given (is_ascii_digit a) (a - 48) n e in
    let low = digit_low a g.0 in
    let high = digit_high a g.0 in
    let same : a ≡ 48 + n % 10 = omega (arith, g.1) in
    record { low = omega (arith, g.1); text = ap (λ (b : ℕ). b ∷ []) (low_digit a g.0 ∙ same) ∙ sym (one_digit n (omega (arith, g.1))) }
octet_sound (a ∷ b ∷ []) n e =
    let g = given (is_ascii_digit a && not (eqb a 48) && is_ascii_digit b) (10 * (a - 48) + (b - 48)) n e in
    let p = and_parts (is_ascii_digit a && not (eqb a 48)) (is_ascii_digit b) g.0 in
    let q = and_parts (is_ascii_digit a) (not (eqb a 48)) p.0 in
    let some = eqb-false a 48 (not-true (eqb a 48) q.1) in
    let a_low = digit_low a q.0 in
    let a_high = digit_high a q.0 in
    let b_low = digit_low b p.1 in
    let b_high = digit_high b p.1 in
    let first : a ≡ 48 + n / 10 % 10 = omega (arith, g.1) in
    let second : b ≡ 48 + n % 10 = omega (arith, g.1) in
    let more : 49 ≤ a = at_least a some a_low in
    record {
      low = omega (arith, g.1);
      text = (λ i. (low_digit a q.0 ∙ first) i ∷ (low_digit b p.1 ∙ second) i ∷ []) ∙ sym (two_digits n (omega (arith, g.1, more)) (omega (arith, g.1)));
    }
octet_sound (a ∷ b ∷ c ∷ []) n e =
    let g = given (is_ascii_digit a && not (eqb a 48) && is_ascii_digit b && is_ascii_digit c && ltb (100 * (a - 48) + 10 * (b - 48) + (c - 48)) 256) (100 * (a - 48) + 10 * (b - 48) + (c - 48)) n e in
    let p = and_parts (is_ascii_digit a && not (eqb a 48) && is_ascii_digit b && is_ascii_digit c) (ltb (100 * (a - 48) + 10 * (b - 48) + (c - 48)) 256) g.0 in
    let q = and_parts (is_ascii_digit a && not (eqb a 48) && is_ascii_digit b) (is_ascii_digit c) p.0 in
    let r = and_parts (is_ascii_digit a && not (eqb a 48)) (is_ascii_digit b) q.0 in
    let s = and_parts (is_ascii_digit a) (not (eqb a 48)) r.0 in
    let some = eqb-false a 48 (not-true (eqb a 48) s.1) in
    let short = ltb-true (100 * (a - 48) + 10 * (b - 48) + (c - 48)) 256 p.1 in
    let a_low = digit_low a s.0 in
    let a_high = digit_high a s.0 in
    let b_low = digit_low b r.1 in
    let b_high = digit_high b r.1 in
    let c_low = digit_low c q.1 in
    let c_high = digit_high c q.1 in
    let more : 49 ≤ a = at_least a some a_low in
    let first : a ≡ 48 + n / 100 = omega (arith, g.1) in
    let second : b ≡ 48 + n / 10 % 10 = omega (arith, g.1) in
    let third : c ≡ 48 + n % 10 = omega (arith, g.1) in
    record {
      low = omega (arith, g.1);
      text = (λ i. (low_digit a s.0 ∙ first) i ∷ (low_digit b r.1 ∙ second) i ∷ (low_digit c q.1 ∙ third) i ∷ [])
          ∙ sym (three_digits n (omega (arith, g.1, more)) (omega (arith, g.1)));
    }
octet_sound (a ∷ b ∷ c ∷ d ∷ label) n e = absurd cc

-- digits whose letters were made small
digits_back : (label ds : List ℕ) → AllByRecursion (λ d. d < 10) ds → map to_ascii_lowercase label ≡ map (λ d. 48 + d) ds → label ≡ map (λ d. 48 + d) ds
digits_back [] [] h e = refl
digits_back [] (d ∷ ds) h e = absurd cc
digits_back (b ∷ label) [] h e = absurd cc
digits_back (b ∷ label) (d ∷ ds) h e =
    let head : to_ascii_lowercase b ≡ 48 + d = cc in
    let rest : map to_ascii_lowercase label ≡ map (λ d. 48 + d) ds = cc in
    λ i. digit_back b d head h.0 i ∷ digits_back label ds h.1 rest i

pub octet_complete : (label : List ℕ) (n : ℕ) → n < 256 → map to_ascii_lowercase label ≡ decimal n → octet_of label ≡ Some n
octet_complete label n h e =
    elim (cases_lt n 10) [
      | inl low ↦ one_octet n low (digits_back label (n % 10 ∷ []) (omega arith, tt) (e ∙ one_digit n low))
      | inr high ↦
          elim (cases_lt n 100) [
            | inl low ↦ two_octet n high low (digits_back label (n / 10 % 10 ∷ n % 10 ∷ []) (omega arith, (omega arith, tt)) (e ∙ two_digits n high low))
            | inr more ↦ three_octet n more h (digits_back label (n / 100 ∷ n / 10 % 10 ∷ n % 10 ∷ []) (omega arith, (omega arith, (omega arith, tt))) (e ∙ three_digits n more (omega arith)))
          ]
    ]
  where
    one_octet : (n : ℕ) → n < 10 → label ≡ (48 + n % 10) ∷ [] → octet_of label ≡ Some n
    one_octet n low is =
        let test = is_digit (n % 10) (omega arith) in
        let value : 48 + n % 10 - 48 ≡ n = omega arith in
        ap octet_of is ∙ rw (test, value) refl

    two_octet : (n : ℕ) → 10 ≤ n → n < 100 → label ≡ (48 + n / 10 % 10) ∷ (48 + n % 10) ∷ [] → octet_of label ≡ Some n
    two_octet n high low is =
        let first = is_digit (n / 10 % 10) (omega arith) in
        let second = is_digit (n % 10) (omega arith) in
        let some : eqb (48 + n / 10 % 10) 48 ≡ false = ne_eqb (48 + n / 10 % 10) 48 (λ q. absurd (omega arith)) in
        let value : 10 * (48 + n / 10 % 10 - 48) + (48 + n % 10 - 48) ≡ n = omega arith in
        ap octet_of is ∙ rw (first, some, second, value) refl

    three_octet : (n : ℕ) → 100 ≤ n → n < 256 → label ≡ (48 + n / 100) ∷ (48 + n / 10 % 10) ∷ (48 + n % 10) ∷ [] → octet_of label ≡ Some n
    three_octet n high low is =
        let first = is_digit (n / 100) (omega arith) in
        let second = is_digit (n / 10 % 10) (omega arith) in
        let third = is_digit (n % 10) (omega arith) in
        let some : eqb (48 + n / 100) 48 ≡ false = ne_eqb (48 + n / 100) 48 (λ q. absurd (omega arith)) in
        let value : 100 * (48 + n / 100 - 48) + 10 * (48 + n / 10 % 10 - 48) + (48 + n % 10 - 48) ≡ n = omega arith in
        let short : ltb n 256 ≡ true = lt-ltb n 256 low in
        ap octet_of is ∙ rw (first, some, second, third, value, short) refl
