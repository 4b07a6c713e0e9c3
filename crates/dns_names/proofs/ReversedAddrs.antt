-- The address that is read from a name is the one whose name it is.
use Rattle.std.proofs.Common.{◌≡◌, ℕ, zero, suc, ◌+◌, ◌*◌, ◌/◌, ◌%◌, ◌^◌, ◌<◌, Bool, true, false, cond, List, [], ◌∷◌, map, Option, Some, None, option_map, option_and_then, refl, ap, ◌∙◌, arith}
use Rattle.std.proofs.Math.Nat.{pow-succ'}
use Rattle.std.proofs.lemmas.Bool.Decides.{Decides-eqb}
use Rattle.std.proofs.lemmas.Grind.{common_steps}
use Rattle.std.proofs.lemmas.Slice.Eq.{slice_eq-Decides}
use Rattle.std.specs.Fmt.{decimal, digit_glyph}
use Rattle.std.specs.Char.{to_ascii_lowercase}
use Rattle.dns_addr.specs.declared.addr.Addr.{Addr}
use Rattle.dns_addr.specs.declared.addr.Addr.TheVariants.{V4, V6}
use Rattle.dns_names.specs.Name.{spelled, lowered}
use Rattle.dns_names.specs.NameLaws.{same_spelling}
use Rattle.dns_addr.specs.AddrText.{IsAddr, octet_of, hex_digit}
use Rattle.dns_names.specs.ReverseNames.{in_addr_arpa, ip6_arpa, v4_reverse, nibbles, v6_reverse, reverse_of, is_zone, four_back, v4_reversed, nibble_of, nibbles_back}
use Rattle.dns_addr.specs.OctetLaws.{given, octet_sound, octet_complete}

-- the zone behind the labels of an address
zone_is : (zone labels : List (List ℕ)) → is_zone zone labels ≡ true → lowered labels ≡ zone
zone_is zone labels e = same_spelling (lowered labels) zone ((slice_eq-Decides Decides-eqb (spelled (lowered labels)) (spelled zone) (is_zone zone labels) refl).0 e)

zone_test : (zone labels : List (List ℕ)) → lowered labels ≡ zone → is_zone zone labels ≡ true
zone_test zone labels e = (slice_eq-Decides Decides-eqb (spelled (lowered labels)) (spelled zone) (is_zone zone labels) refl).1 (ap spelled e)

-- the four bytes of a number
record AreFour (od oc ob oa : Option ℕ) (n : ℕ) : Type 0 where
  d : ℕ
  c : ℕ
  b : ℕ
  a : ℕ
  d_is : od ≡ Some d
  c_is : oc ≡ Some c
  b_is : ob ≡ Some b
  a_is : oa ≡ Some a
  number : a * 2 ^ 24 + b * 2 ^ 16 + c * 2 ^ 8 + d ≡ n

four : (od oc ob oa : Option ℕ) (n : ℕ) → four_back od oc ob oa ≡ Some n → AreFour od oc ob oa n
four None oc ob oa n e = absurd cc
four (Some d) None ob oa n e = absurd cc
four (Some d) (Some c) None oa n e = absurd cc
four (Some d) (Some c) (Some b) None n e = absurd cc
four (Some d) (Some c) (Some b) (Some a) n e = record { d = d; c = c; b = b; a = a; d_is = refl; c_is = refl; b_is = refl; a_is = refl; number = cc }

v4_parts : (z : Bool) (o : Option ℕ) (n : ℕ) → cond z o None ≡ Some n → (z ≡ true) × (o ≡ Some n)
v4_parts true o n e = (refl, e)
v4_parts false o n e = absurd cc

pub v4_sound : (name : List (List ℕ)) (n : ℕ) → v4_reversed name ≡ Some n → lowered name ≡ v4_reverse n
v4_sound [] n e = absurd cc
v4_sound (d ∷ []) n e = absurd cc
v4_sound (d ∷ c ∷ []) n e = absurd cc
v4_sound (d ∷ c ∷ b ∷ []) n e = absurd cc
v4_sound (d ∷ c ∷ b ∷ a ∷ zone) n e =
    let p = v4_parts (is_zone in_addr_arpa zone) (four_back (octet_of d) (octet_of c) (octet_of b) (octet_of a)) n e in
    let f = four (octet_of d) (octet_of c) (octet_of b) (octet_of a) n p.1 in
    let od = octet_sound d f.d f.d_is in
    let oc = octet_sound c f.c f.c_is in
    let ob = octet_sound b f.b f.b_is in
    let oa = octet_sound a f.a f.a_is in
    let d_is : f.d ≡ n % 256 = omega (arith, f.number, od.low, oc.low, ob.low, oa.low) in
    let c_is : f.c ≡ n / 2 ^ 8 % 256 = omega (arith, f.number, od.low, oc.low, ob.low, oa.low) in
    let b_is : f.b ≡ n / 2 ^ 16 % 256 = omega (arith, f.number, od.low, oc.low, ob.low, oa.low) in
    let a_is : f.a ≡ n / 2 ^ 24 = omega (arith, f.number, od.low, oc.low, ob.low, oa.low) in
    λ i. (od.text ∙ ap decimal d_is) i ∷ (oc.text ∙ ap decimal c_is) i ∷ (ob.text ∙ ap decimal b_is) i ∷ (oa.text ∙ ap decimal a_is) i ∷ zone_is in_addr_arpa zone p.0 i

v4_complete : (name : List (List ℕ)) (n : ℕ) → n < 2 ^ 32 → lowered name ≡ v4_reverse n → v4_reversed name ≡ Some n
v4_complete [] n h e = absurd cc
v4_complete (d ∷ []) n h e = absurd cc
v4_complete (d ∷ c ∷ []) n h e = absurd cc
v4_complete (d ∷ c ∷ b ∷ []) n h e = absurd cc
v4_complete (d ∷ c ∷ b ∷ a ∷ zone) n h e =
    let d_is : map to_ascii_lowercase d ≡ decimal (n % 256) = cc in
    let c_is : map to_ascii_lowercase c ≡ decimal (n / 2 ^ 8 % 256) = cc in
    let b_is : map to_ascii_lowercase b ≡ decimal (n / 2 ^ 16 % 256) = cc in
    let a_is : map to_ascii_lowercase a ≡ decimal (n / 2 ^ 24) = cc in
    let z_is : lowered zone ≡ in_addr_arpa = cc in
    let number : n / 2 ^ 24 * 2 ^ 24 + n / 2 ^ 16 % 256 * 2 ^ 16 + n / 2 ^ 8 % 256 * 2 ^ 8 + n % 256 ≡ n = omega arith in
    rw (
      zone_test in_addr_arpa zone z_is,
      octet_complete d (n % 256) (omega arith) d_is,
      octet_complete c (n / 2 ^ 8 % 256) (omega arith) c_is,
      octet_complete b (n / 2 ^ 16 % 256) (omega arith) b_is,
      octet_complete a (n / 2 ^ 24) (omega arith) a_is,
    ) (ap Some number)

-- a hexadecimal digit in small letters
low_glyph : (b d : ℕ) → hex_digit b ≡ Some d → (d < 16) × (to_ascii_lowercase b ≡ digit_glyph false d)
low_glyph b d e = grind (arith, common_steps)

glyph_back : (b d : ℕ) → d < 16 → to_ascii_lowercase b ≡ digit_glyph false d → hex_digit b ≡ Some d
glyph_back b d h e = grind (arith, common_steps)

-- a label of one digit
record IsNibble (label : List ℕ) (d : ℕ) : Type 0 where
  low : d < 16
  text : map to_ascii_lowercase label ≡ digit_glyph false d ∷ []

nibble_sound : (label : List ℕ) (d : ℕ) → nibble_of label ≡ Some d → IsNibble label d
nibble_sound [] d e = absurd cc
nibble_sound (b ∷ []) d e = let g = low_glyph b d e in record { low = g.0; text = ap (λ (x : ℕ). x ∷ []) g.1 }
nibble_sound (b ∷ c ∷ label) d e = absurd cc

nibble_complete : (label : List ℕ) (d : ℕ) → d < 16 → map to_ascii_lowercase label ≡ digit_glyph false d ∷ [] → nibble_of label ≡ Some d
nibble_complete [] d h e = absurd cc
nibble_complete (b ∷ []) d h e = let head : to_ascii_lowercase b ≡ digit_glyph false d = cc in glyph_back b d h head
nibble_complete (b ∷ c ∷ label) d h e = absurd cc

record ArePair (first rest : Option ℕ) (n : ℕ) : Type 0 where
  digit : ℕ
  others : ℕ
  first_is : first ≡ Some digit
  rest_is : rest ≡ Some others
  number : digit + 16 * others ≡ n

pair : (first rest : Option ℕ) (n : ℕ) → option_and_then (λ digit. option_map (λ others. digit + 16 * others) rest) first ≡ Some n → ArePair first rest n
pair None rest n e = absurd cc
pair (Some d) None n e = absurd cc
pair (Some d) (Some o) n e = record { digit = d; others = o; first_is = refl; rest_is = refl; number = cc }

v6_sound : (count : ℕ) (labels : List (List ℕ)) (n : ℕ) → nibbles_back count labels ≡ Some n → lowered labels ≡ nibbles count n ip6_arpa
v6_sound zero labels n e = zone_is ip6_arpa labels (given (is_zone ip6_arpa labels) 0 n e).0
v6_sound (suc count) [] n e = absurd cc
v6_sound (suc count) (label ∷ labels) n e =
    let p = pair (nibble_of label) (nibbles_back count labels) n e in
    let first = nibble_sound label p.digit p.first_is in
    let d_is : p.digit ≡ n % 16 = omega (arith, p.number, first.low) in
    let o_is : p.others ≡ n / 16 = omega (arith, p.number, first.low) in
    λ i. (first.text ∙ ap (λ (d : ℕ). digit_glyph false d ∷ []) d_is) i ∷ (v6_sound count labels p.others p.rest_is ∙ ap (λ (o : ℕ). nibbles count o ip6_arpa) o_is) i

v6_complete : (count : ℕ) (labels : List (List ℕ)) (n : ℕ) → n < 16 ^ count → lowered labels ≡ nibbles count n ip6_arpa → nibbles_back count labels ≡ Some n
v6_complete zero labels n h e = let none : 0 ≡ n = omega arith in rw (zone_test ip6_arpa labels e) (ap Some none)
v6_complete (suc count) [] n h e = absurd cc
v6_complete (suc count) (label ∷ labels) n h e =
    let head : map to_ascii_lowercase label ≡ digit_glyph false (n % 16) ∷ [] = cc in
    let rest : lowered labels ≡ nibbles count (n / 16) ip6_arpa = cc in
    let less : n / 16 < 16 ^ count = omega (arith, h, pow-succ' 16 count) in
    let number : n % 16 + 16 * (n / 16) ≡ n = omega arith in
    rw (nibble_complete label (n % 16) (omega arith) head, v6_complete count labels (n / 16) less rest) (ap Some number)

pub v6_addr_sound : (name : List (List ℕ)) (n : ℕ) → nibbles_back 32 name ≡ Some n → lowered name ≡ v6_reverse n
unfolding v6_reverse
v6_addr_sound name n e = v6_sound 32 name n e

-- a name of no address
v6_back : (name : List (List ℕ)) (n : ℕ) → n < 2 ^ 128 → lowered name ≡ v6_reverse n → nibbles_back 32 name ≡ Some n
unfolding v6_reverse
v6_back name n h e = v6_complete 32 name n h e

none_and_some : (o : Option ℕ) (n : ℕ) → o ≡ None → o ≡ Some n → ⊥
none_and_some None n e f = absurd cc
none_and_some (Some x) n e f = absurd cc

pub no_addr : (name : List (List ℕ)) → v4_reversed name ≡ None → nibbles_back 32 name ≡ None → (addr : Addr) → IsAddr addr → lowered name ≡ reverse_of addr → ⊥
no_addr name four six (V4 n) proper is = none_and_some (v4_reversed name) n four (v4_complete name n proper is)
no_addr name four six (V6 n) proper is = none_and_some (nibbles_back 32 name) n six (v6_back name n proper is)
