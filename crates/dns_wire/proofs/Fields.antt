-- What stands at an offset as a field of one kind is one field, and ends at one offset.
use Rattle.std.proofs.Common.{◌≡◌, ◌≤◌, ℕ, ◌+◌, List, [], ◌∷◌, map, slice_range, refl, sym, ap, subst, ◌∙◌, arith}
use Rattle.dns_data.specs.Record.{Field, Compressed, Uncompressed, U8, U16, U32, U128, CharString, NonEmpty, CharStrings, Remainder, Unknown}
use Rattle.dns_wire.specs.Wire.{WholeNameAt}
use Rattle.dns_wire.specs.Data.{CharacterStringAt, CharacterStringsAt, no_string, string, FieldAt, FieldsAt}
use Rattle.dns_wire.specs.Fields.{shape}
use Rattle.dns_wire.proofs.Names.{one_name, same_end, name_forward}
use Rattle.dns_wire.proofs.Strings.{one_string, strings_forward}

pub one_whole : {bytes : List ℕ} {at x y : ℕ} {a b : List (List ℕ)} → WholeNameAt bytes at a x → WholeNameAt bytes at b y → a ≡ b
one_whole {bytes} {at} {x} {y} {a} {b} p q = (one_name bytes at at x y a b p.spelt q.spelt).0

one_text : {bytes : List ℕ} {at x y : ℕ} {a b : List ℕ} → CharacterStringAt bytes at a x → CharacterStringAt bytes at b y → a ≡ b
one_text {bytes} {at} {x} {y} {a} {b} p q =
    sym p.text ∙ ap (slice_range bytes (at + 1)) (one_string bytes at x y a b p q) ∙ q.text

one_strings : {bytes : List ℕ} {at behind : ℕ} {a b : List (List ℕ)} → CharacterStringsAt bytes at a behind → CharacterStringsAt bytes at b behind → a ≡ b
one_strings (no_string is) (no_string was) = refl
one_strings (no_string is) (string here more) = absurd (omega (arith, here.behind_is, strings_forward more))
one_strings (string here more) (no_string is) = absurd (omega (arith, here.behind_is, strings_forward more))
one_strings {bytes} {at} {behind} (string {middle = m} {first = s} {others = ss} here more) (string {middle = n} {first = t} {others = ts} there rest) =
    let end : n ≡ m = one_string bytes at n m t s there here in
    let same : s ≡ t = one_text here there in
    let others : ss ≡ ts = one_strings more (subst (λ (k : ℕ). CharacterStringsAt bytes k ts behind) end rest) in
    λ i. same i ∷ others i

-- a field doesn't end before it begins
pub field_forward : (bytes : List ℕ) (limit at : ℕ) (f : Field) (behind : ℕ) → FieldAt bytes limit at f behind → at ≤ behind
field_forward bytes limit at (Compressed labels) behind h = omega (arith, name_forward h.spelt)
field_forward bytes limit at (Uncompressed labels) behind h = omega (arith, name_forward h.spelt)
field_forward bytes limit at (U8 number) behind h = omega (arith, h.0)
field_forward bytes limit at (U16 number) behind h = omega (arith, h.0)
field_forward bytes limit at (U32 number) behind h = omega (arith, h.0)
field_forward bytes limit at (U128 number) behind h = omega (arith, h.0)
field_forward bytes limit at (CharString text) behind h = omega (arith, h.behind_is)
field_forward bytes limit at (NonEmpty text) behind h = omega (arith, h.0.behind_is)
field_forward bytes limit at (CharStrings texts) behind h = omega (arith, strings_forward h.0, h.1)
field_forward bytes limit at (Remainder text) behind h = omega (arith, h.1, h.2)
field_forward bytes limit at (Unknown kind text) behind h = omega (arith, h.1, h.2)

pub one_field : (bytes : List ℕ) (limit at x y : ℕ) (f g : Field) → FieldAt bytes limit at f x → FieldAt bytes limit at g y → shape f ≡ shape g → (f ≡ g) × (x ≡ y)
one_field bytes limit at x y (Compressed a) (Compressed b) p q same = (ap Compressed (one_whole p q), same_end bytes at x y a b p q)
one_field bytes limit at x y (Uncompressed a) (Uncompressed b) p q same = (ap Uncompressed (one_whole p q), same_end bytes at x y a b p q)
one_field bytes limit at x y (U8 a) (U8 b) p q same = (ap U8 (p.1 ∙ sym q.1), p.0 ∙ sym q.0)
one_field bytes limit at x y (U16 a) (U16 b) p q same = (ap U16 (p.1 ∙ sym q.1), p.0 ∙ sym q.0)
one_field bytes limit at x y (U32 a) (U32 b) p q same = (ap U32 (p.1 ∙ sym q.1), p.0 ∙ sym q.0)
one_field bytes limit at x y (U128 a) (U128 b) p q same = (ap U128 (p.1 ∙ sym q.1), p.0 ∙ sym q.0)
one_field bytes limit at x y (CharString a) (CharString b) p q same = (ap CharString (one_text p q), one_string bytes at x y a b p q)
one_field bytes limit at x y (NonEmpty a) (NonEmpty b) p q same = (ap NonEmpty (one_text p.0 q.0), one_string bytes at x y a b p.0 q.0)
one_field bytes limit at x y (CharStrings a) (CharStrings b) p q same = (ap CharStrings (one_strings p.0 q.0), p.1 ∙ sym q.1)
one_field bytes limit at x y (Remainder a) (Remainder b) p q same = (ap Remainder (p.0 ∙ sym q.0), p.2 ∙ sym q.2)
one_field bytes limit at x y (Unknown k a) (Unknown j b) p q same =
    let kinds : k ≡ j = omega (arith, same) in
    let texts : a ≡ b = p.0 ∙ sym q.0 in
    ((λ i. Unknown (kinds i) (texts i)), p.2 ∙ sym q.2)
one_field bytes limit at x y f g p q same = absurd (omega (arith, same))

first : List ℕ → ℕ
first [] = 0
first (x ∷ xs) = x

others_of : List ℕ → List ℕ
others_of [] = []
others_of (x ∷ xs) = xs

pub same_first : (x y : ℕ) (xs ys : List ℕ) → x ∷ xs ≡ y ∷ ys → x ≡ y
unfolding first
same_first x y xs ys e = ap first e

pub same_others : (x y : ℕ) (xs ys : List ℕ) → x ∷ xs ≡ y ∷ ys → xs ≡ ys
unfolding others_of
same_others x y xs ys e = ap others_of e

-- fields of the same kinds that use the same data up are the same
pub one_fields : (bytes : List ℕ) (limit at : ℕ) (fs gs : List Field) → FieldsAt bytes limit at fs → FieldsAt bytes limit at gs → map shape fs ≡ map shape gs → fs ≡ gs
one_fields bytes limit at [] [] p q same = refl
one_fields bytes limit at [] (g ∷ gs) p q same = absurd cc
one_fields bytes limit at (f ∷ fs) [] p q same = absurd cc
one_fields bytes limit at (f ∷ fs) (g ∷ gs) p q same =
    let here = one_field bytes limit at p.0 q.0 f g p.1 q.1 (same_first (shape f) (shape g) (map shape fs) (map shape gs) same) in
    let there : FieldsAt bytes limit p.0 gs = subst (λ (m : ℕ). FieldsAt bytes limit m gs) (sym here.1) q.2 in
    let others = one_fields bytes limit p.0 fs gs p.2 there (same_others (shape f) (shape g) (map shape fs) (map shape gs) same) in
    λ i. here.0 i ∷ others i
