-- The data that was written of a record is spelt where it stands.
use Rattle.std.proofs.Common.{◌≡◌, ℕ, ◌+◌, Bool, true, false, List, [], ◌∷◌, ◌++◌, length, refl, sym, subst, ◌∙◌, append_assoc, arith, length-append}
use Rattle.std.specs.Prelude.{not, ◌&&◌}
use Rattle.std.specs.List.{AllByRecursion}
use Rattle.std.specs.Int.{w16, w32, w128, to_be_bytes}
use Rattle.dns_names.specs.Name.{IsLabel, IsName, spelled, wire_length}
use Rattle.dns_names.specs.NameLaws.{length-spelled}
use Rattle.dns_data.specs.Record.{IsData, HasForm, NumberFits, fields_of, names_among, Field, Compressed, Uncompressed, U8, U16, U32, U128, CharString, NonEmpty, CharStrings, Remainder, Unknown}
use Rattle.dns_data.specs.declared.record.Rdata.{Rdata}
use Rattle.dns_data.specs.declared.record.Rdata.TheVariants as rdata
use Rattle.dns_wire.specs.Wire.{NameAt, WholeNameAt}
use Rattle.dns_wire.specs.Wire.NameAt.{root, label}
use Rattle.dns_wire.specs.Data.{CharacterStringsAt, FieldAt, FieldsAt, DataAt}
use Rattle.dns_wire.specs.Data.CharacterStringsAt.{no_string, string}
use Rattle.dns_write.specs.Written.{Draft, size, put, put_whole, put_string, put_strings, put_field, put_fields, put_data}
use Rattle.dns_write.proofs.Standing.{Stands, left, right, index, range, byte_here, label_here, string_here, u16_here, u32_here, u128_here}
use Rattle.dns_write.proofs.Respelt.{OffsetsSpelt, whole_name, offsets_name, offsets_put}
use Rattle.dns_write.proofs.Drafts.{grown-data, grown-fields}

pub put_size : (d : Draft) (more : List ℕ) (n : ℕ) → length more ≡ n → size (put d more) ≡ size d + n
put_size d more n e = omega (arith, length-append d.bytes more)

-- what was put stands behind the draft
pub here : {bytes : List ℕ} (d : Draft) (more : List ℕ) → Stands bytes 12 (put d more).bytes → Stands bytes (size d) more
here d more s = right d.bytes more (size d) s refl

pub before : {bytes : List ℕ} (d : Draft) (more : List ℕ) → Stands bytes 12 (put d more).bytes → Stands bytes 12 d.bytes
before d more s = left d.bytes more s

-- a name that is written whole
whole_spelt : (bytes : List ℕ) (start at : ℕ) (name : List (List ℕ)) → AllByRecursion IsLabel name → Stands bytes at (spelled name ++ 0 ∷ []) → NameAt bytes start at name (at + wire_length name)
whole_spelt bytes start at [] each s = root (byte_here s) refl
whole_spelt bytes start at (l ∷ ls) each s =
    let first : Stands bytes at ((length l ∷ l) ++ (spelled ls ++ 0 ∷ [])) = rw (append_assoc (length l ∷ l) (spelled ls) (0 ∷ [])) at s in
    let rest = right (length l ∷ l) (spelled ls ++ 0 ∷ []) (at + 1 + length l) first (omega arith) in
    let end : at + 1 + length l + wire_length ls ≡ at + wire_length (l ∷ ls) = omega arith in
    subst (NameAt bytes start at (l ∷ ls)) end (label (label_here l each.0 (left (length l ∷ l) (spelled ls ++ 0 ∷ []) first)) (whole_spelt bytes start (at + 1 + length l) ls each.1 rest))

front_of_strings : {bytes : List ℕ} (d : Draft) (strings : List (List ℕ)) → Stands bytes 12 (put_strings d strings).bytes → Stands bytes 12 d.bytes
front_of_strings d [] s = s
front_of_strings d (first ∷ others) s = before d (length first ∷ first) (front_of_strings (put_string d first) others s)

strings_spelt : (bytes : List ℕ) (d : Draft) (strings : List (List ℕ)) → Stands bytes 12 (put_strings d strings).bytes → CharacterStringsAt bytes (size d) strings (size (put_strings d strings))
strings_spelt bytes d [] s = no_string refl
strings_spelt bytes d (first ∷ others) s =
    let after = put_string d first in
    let front : Stands bytes 12 after.bytes = front_of_strings after others s in
    let end : size after ≡ size d + 1 + length first = omega (arith, length-append d.bytes (length first ∷ first)) in
    string (string_here first (size after) (here d (length first ∷ first) front) end) (strings_spelt bytes after others s)

-- a field that takes all that is left
abbrev is_tail : Field → Bool
is_tail (CharStrings texts) = true
is_tail (Remainder text) = true
is_tail (Unknown kind text) = true
is_tail field = false

-- such a field is the last one
abbrev tail_last : List Field → Bool
tail_last [] = true
tail_last (f ∷ []) = true
tail_last (f ∷ g ∷ gs) = not (is_tail f) && tail_last (g ∷ gs)

data_tail_last : (d : Rdata) → tail_last (fields_of d) ≡ true
data_tail_last (rdata.Opaque kind bytes) = refl
data_tail_last d = refl

no_tail : (b c : Bool) → not b && c ≡ true → (b ≡ false) × (c ≡ true)
no_tail false c e = (refl, e)
no_tail true c e = absurd cc

-- a name of a field is one
abbrev HasName : Field → Type 0
HasName (Compressed labels) = IsName labels
HasName (Uncompressed labels) = IsName labels
HasName field = Unit {0}

names_split : (f : Field) (fs : List Field) → AllByRecursion IsName (names_among (f ∷ fs)) → HasName f × AllByRecursion IsName (names_among fs)
names_split (Compressed labels) fs all = (all.0, all.1)
names_split (Uncompressed labels) fs all = (all.0, all.1)
names_split f fs all = (tt, all)

-- what is known of a field of proper data
record Proper (f : Field) : Type 0 where
  form : HasForm f
  number : NumberFits f
  name : HasName f

whole_here : (bytes : List ℕ) (d : Draft) (labels : List (List ℕ)) → IsName labels → Stands bytes 12 (put_whole d labels).bytes → WholeNameAt bytes (size d) labels (size (put_whole d labels))
whole_here bytes d labels proper s =
    let whole : Stands bytes 12 (d.bytes ++ (spelled labels ++ 0 ∷ [])) = rw (append_assoc d.bytes (spelled labels) (0 ∷ [])) at s in
    let end : size d + wire_length labels ≡ size (put_whole d labels) = omega (arith, length-append (d.bytes ++ spelled labels) (0 ∷ []), length-append d.bytes (spelled labels), length-spelled labels) in
    record {
      proper = proper;
      spelt = subst (NameAt bytes (size d) (size d) labels) end (whole_spelt bytes (size d) (size d) labels proper.each (right d.bytes (spelled labels ++ 0 ∷ []) (size d) whole refl));
    }

field_spelt : (bytes : List ℕ) (limit : ℕ) (d : Draft) (f : Field) → Proper f → OffsetsSpelt bytes d → Stands bytes 12 (put_field d f).bytes → (is_tail f ≡ true → limit ≡ size (put_field d f))
    → FieldAt bytes limit (size d) f (size (put_field d f))
field_spelt bytes limit d (Compressed labels) p known s last = whole_name bytes d labels p.name known s
field_spelt bytes limit d (Uncompressed labels) p known s last = whole_here bytes d labels p.name s
field_spelt bytes limit d (U8 number) p known s last = (put_size d (number ∷ []) 1 refl, sym (index (here d (number ∷ []) s) 0 (size d) (omega arith) (omega arith)))
field_spelt bytes limit d (U16 number) p known s last = (put_size d (to_be_bytes w16 number) 2 refl, u16_here number p.number (here d (to_be_bytes w16 number) s))
field_spelt bytes limit d (U32 number) p known s last = (put_size d (to_be_bytes w32 number) 4 refl, u32_here number p.number (here d (to_be_bytes w32 number) s))
field_spelt bytes limit d (U128 number) p known s last = (put_size d (to_be_bytes w128 number) 16 refl, u128_here number p.number (here d (to_be_bytes w128 number) s))
field_spelt bytes limit d (CharString text) p known s last =
    string_here text (size (put_string d text)) (here d (length text ∷ text) s) (omega (arith, length-append d.bytes (length text ∷ text)))
field_spelt bytes limit d (NonEmpty text) p known s last =
    (string_here text (size (put_string d text)) (here d (length text ∷ text) s) (omega (arith, length-append d.bytes (length text ∷ text))), p.form.0)
field_spelt bytes limit d (CharStrings texts) p known s last =
    let end = last refl in
    (subst (CharacterStringsAt bytes (size d) texts) (sym end) (strings_spelt bytes d texts s), sym end)
field_spelt bytes limit d (Remainder text) p known s last =
    let end = last refl in
    let long = put_size d text (length text) refl in
    (sym (range (here d text s) limit (end ∙ long)), omega (arith, end, long), sym end)
field_spelt bytes limit d (Unknown kind text) p known s last =
    let end = last refl in
    let long = put_size d text (length text) refl in
    (sym (range (here d text s) limit (end ∙ long)), omega (arith, end, long), sym end, p.form)

offsets_strings : (bytes : List ℕ) (d : Draft) (strings : List (List ℕ)) → OffsetsSpelt bytes d → OffsetsSpelt bytes (put_strings d strings)
offsets_strings bytes d [] known = known
offsets_strings bytes d (first ∷ others) known = offsets_strings bytes (put_string d first) others (offsets_put bytes d (length first ∷ first) known)

offsets_field : (bytes : List ℕ) (d : Draft) (f : Field) → Proper f → OffsetsSpelt bytes d → Stands bytes 12 (put_field d f).bytes → OffsetsSpelt bytes (put_field d f)
offsets_field bytes d (Compressed labels) p known s = offsets_name bytes d labels p.name known s
offsets_field bytes d (Uncompressed labels) p known s = offsets_put bytes (put d (spelled labels)) (0 ∷ []) (offsets_put bytes d (spelled labels) known)
offsets_field bytes d (U8 number) p known s = offsets_put bytes d (number ∷ []) known
offsets_field bytes d (U16 number) p known s = offsets_put bytes d (to_be_bytes w16 number) known
offsets_field bytes d (U32 number) p known s = offsets_put bytes d (to_be_bytes w32 number) known
offsets_field bytes d (U128 number) p known s = offsets_put bytes d (to_be_bytes w128 number) known
offsets_field bytes d (CharString text) p known s = offsets_put bytes d (length text ∷ text) known
offsets_field bytes d (NonEmpty text) p known s = offsets_put bytes d (length text ∷ text) known
offsets_field bytes d (CharStrings texts) p known s = offsets_strings bytes d texts known
offsets_field bytes d (Remainder text) p known s = offsets_put bytes d text known
offsets_field bytes d (Unknown kind text) p known s = offsets_put bytes d text known

front_of_fields : {bytes : List ℕ} (d : Draft) (fs : List Field) → Stands bytes 12 (put_fields d fs).bytes → Stands bytes 12 d.bytes
front_of_fields d fs s = let g = grown-fields d fs in left d.bytes g.more (rw g.bytes at s)

-- what is known of several
record AreProper (fs : List Field) : Type 0 where
  forms : AllByRecursion HasForm fs
  numbers : AllByRecursion NumberFits fs
  names : AllByRecursion IsName (names_among fs)

first_proper : (f : Field) (fs : List Field) → AreProper (f ∷ fs) → Proper f
first_proper f fs p = record { form = p.forms.0; number = p.numbers.0; name = (names_split f fs p.names).0 }

others_proper : (f : Field) (fs : List Field) → AreProper (f ∷ fs) → AreProper fs
others_proper f fs p = record { forms = p.forms.1; numbers = p.numbers.1; names = (names_split f fs p.names).1 }

fields_spelt : (bytes : List ℕ) (limit : ℕ) (d : Draft) (fs : List Field) → AreProper fs → tail_last fs ≡ true → OffsetsSpelt bytes d → Stands bytes 12 (put_fields d fs).bytes → limit ≡ size (put_fields d fs)
    → FieldsAt bytes limit (size d) fs
fields_spelt bytes limit d [] p last known s end = sym end
fields_spelt bytes limit d (f ∷ []) p last known s end = (size (put_field d f), field_spelt bytes limit d f (first_proper f [] p) known s (λ t. end), sym end)
fields_spelt bytes limit d (f ∷ g ∷ gs) p last known s end =
    let parts = no_tail (is_tail f) (tail_last (g ∷ gs)) last in
    let first = first_proper f (g ∷ gs) p in
    let after = put_field d f in
    let sf : Stands bytes 12 after.bytes = front_of_fields after (g ∷ gs) s in (
      size after,
      field_spelt bytes limit d f first known sf (λ t. absurd (let clash = sym parts.0 ∙ t in cc)),
      fields_spelt bytes limit after (g ∷ gs) (others_proper f (g ∷ gs) p) parts.1 (offsets_field bytes d f first known sf) s end,
    )

offsets_fields : (bytes : List ℕ) (d : Draft) (fs : List Field) → AreProper fs → OffsetsSpelt bytes d → Stands bytes 12 (put_fields d fs).bytes → OffsetsSpelt bytes (put_fields d fs)
offsets_fields bytes d [] p known s = known
offsets_fields bytes d (f ∷ fs) p known s =
    let first = first_proper f fs p in
    offsets_fields bytes (put_field d f) fs (others_proper f fs p) (offsets_field bytes d f first known (front_of_fields (put_field d f) fs s)) s

data_proper : (r : Rdata) → IsData r → AreProper (fields_of r)
data_proper r p = record { forms = p.form.each; numbers = p.numbers; names = p.names }

pub data_spelt : (bytes : List ℕ) (d : Draft) (r : Rdata) → IsData r → OffsetsSpelt bytes d → Stands bytes 12 (put_data d r).bytes → DataAt bytes (size d) r (size (put_data d r))
unfolding put_data
data_spelt bytes d r p known s = fields_spelt bytes (size (put_fields d (fields_of r))) d (fields_of r) (data_proper r p) (data_tail_last r) known s refl

pub offsets_data : (bytes : List ℕ) (d : Draft) (r : Rdata) → IsData r → OffsetsSpelt bytes d → Stands bytes 12 (put_data d r).bytes → OffsetsSpelt bytes (put_data d r)
unfolding put_data
offsets_data bytes d r p known s = offsets_fields bytes d (fields_of r) (data_proper r p) known s

-- the front of what data was put behind
pub front_of_data : (bytes : List ℕ) (d : Draft) (r : Rdata) → Stands bytes 12 (put_data d r).bytes → Stands bytes 12 d.bytes
front_of_data bytes d r s = let g = grown-data d r in left d.bytes g.more (rw g.bytes at s)
