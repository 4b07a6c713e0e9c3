-- Names that stand for addresses, label by label.
use Rattle.std.proofs.Common.{◌≡◌, ◌↔◌, ℕ, suc, ◌+◌, ◌*◌, ◌/◌, ◌%◌, ◌^◌, ◌-◌, ◌<◌, ◌≤◌, Bool, true, false, IsTrue, nat_eq, List, [], ◌∷◌, ◌++◌, length, map, codes, inl, inr, refl, sym, ap, ◌∙◌, append_assoc, arith}
use Rattle.std.proofs.Math.Nat.{pow-succ', pow-le-pow_right}
use Rattle.std.proofs.lemmas.Bool.{cases_Bool}
use Rattle.std.proofs.lemmas.Bool.Decides.{Decides-eqb}
use Rattle.std.proofs.lemmas.Slice.Eq.{slice_eq-Decides}
use Rattle.std.specs.Cmp.Lexicographic.{pointwise}
use Rattle.std.specs.Fmt.{digit_glyph}
use Rattle.std.specs.Char.{to_ascii_lowercase}
use Rattle.dns_names.specs.Name.{IsName, spelled, lowered, wire_length}
use Rattle.dns_names.specs.NameLaws.{spelled-lowered, wire_length-push}
use Rattle.dns_names.specs.ReverseNames.{nibbles, ip6_arpa, v6_reverse}

-- a test of two texts that is right is the test of the texts
same_test : (a b : Bool) → IsTrue a ↔ IsTrue b → a ≡ b
same_test true b h = sym (h.0 refl)
same_test false b h =
    elim (cases_Bool b) [ inl right ↦ h.1 right ∙ sym right | inr wrong ↦ sym wrong ]

pub zone_test : (result : Bool) (wire zone : List ℕ) (labels : List (List ℕ)) → IsName labels → wire ≡ spelled labels → map to_ascii_lowercase zone ≡ zone
    → IsTrue result ↔ (map to_ascii_lowercase wire ≡ map to_ascii_lowercase zone) → result ≡ pointwise nat_eq (spelled (lowered labels)) zone
zone_test result wire zone labels name is small h =
    let low : map to_ascii_lowercase wire ≡ spelled (lowered labels) = ap (map to_ascii_lowercase) is ∙ spelled-lowered labels name.each in
    let both = slice_eq-Decides Decides-eqb (spelled (lowered labels)) zone (pointwise nat_eq (spelled (lowered labels)) zone) refl in
    same_test result (pointwise nat_eq (spelled (lowered labels)) zone) (
      λ t. both.1 (sym low ∙ h.0 t ∙ small),
      λ t. h.1 (low ∙ both.0 t ∙ sym small),
    )

-- one more digit
pub next_nibble : (name new : List (List ℕ)) (left number : ℕ) (glyph : ℕ) (others : List (List ℕ)) → new ≡ name ++ (glyph ∷ []) ∷ [] → glyph ≡ digit_glyph false (number % 16)
    → new ++ nibbles left (number / 16) others ≡ name ++ nibbles (suc left) number others
next_nibble name new left number glyph others is g =
    (λ i. is i ++ nibbles left (number / 16) others) ∙ append_assoc name ((glyph ∷ []) ∷ []) (nibbles left (number / 16) others)
    ∙ ap (λ (d : ℕ). name ++ ((d ∷ []) ∷ nibbles left (number / 16) others)) g

pub no_nibble : (name : List (List ℕ)) (addr : ℕ) → name ≡ [] → name ++ nibbles 32 addr ip6_arpa ≡ v6_reverse addr
unfolding v6_reverse
no_nibble name addr e = ap (λ (t : List (List ℕ)). t ++ nibbles 32 addr ip6_arpa) e

pub all_nibbles : (name half new : List (List ℕ)) (count rest addr : ℕ) → name ++ nibbles (32 - count) rest ip6_arpa ≡ v6_reverse addr → 32 ≤ count
    → half ≡ name ++ codes "ip6" ∷ [] → new ≡ half ++ codes "arpa" ∷ [] → new ≡ v6_reverse addr
all_nibbles name half new count rest addr says end h n =
    let none : 32 - count ≡ 0 = omega arith in
    n ∙ ap (λ (t : List (List ℕ)). t ++ codes "arpa" ∷ []) h ∙ append_assoc name (codes "ip6" ∷ []) (codes "arpa" ∷ [])
    ∙ ap (λ (k : ℕ). name ++ nibbles k rest ip6_arpa) (sym none) ∙ says

-- so many digits fit in a number of 128 bits
pub power_step : (count : ℕ) → 0 < count → 16 ^ count ≡ 16 * 16 ^ (count - 1)
power_step count h = ap (λ (n : ℕ). 16 ^ n) one_more ∙ pow-succ' 16 (count - 1)
  where
    one_more : count ≡ suc (count - 1)
    one_more = omega arith

pub low_power : (count : ℕ) → count ≤ 31 → 16 ^ count ≤ 16 ^ 31
low_power count h = pow-le-pow_right (omega arith) h

-- a name with one more label
pub longer : (name new : List (List ℕ)) (label : List ℕ) → new ≡ name ++ label ∷ [] → wire_length new ≡ wire_length name + length label + 1
longer name new label e = ap wire_length e ∙ wire_length-push name label
