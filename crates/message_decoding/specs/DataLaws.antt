-- Data of records decode.
use Rattle.std.proofs.Common.{◌≡◌, ◌≤◌, ℕ, zero, suc, ◌+◌, Bool, true, false, not, List, [], ◌∷◌, length, slice_index, slice_range, Option, Some, refl, sym, ap, subst, ◌∙◌, arith}
use Rattle.std.specs.Prelude.{if◌then◌else◌, ◌==◌, nat_lt, nat_le}
use Rattle.std.proofs.lemmas.Bool.{ltb-true, leb-true, eqb-true, lt-ltb, le-leb, eq-eqb, ne_eqb, and_parts, and_from, not-true, not_from_false}
use Rattle.dns_data.specs.declared.record.Rdata.{Rdata}
use Rattle.dns_data.specs.declared.record.Rdata.TheVariants as rdata
use Rattle.dns_data.specs.declared.kind.TheConstants as kinds
use Rattle.dns_data.specs.Record.{is_known_type, kind_of, fields_of, Field, Compressed, Uncompressed, U8, U16, U32, U128, CharString, NonEmpty, CharStrings, Remainder, Unknown}
use Rattle.dns_wire.specs.Data.{CharacterStringAt, CharacterStringsAt, no_string, string, FieldAt, FieldsAt, DataAt, IsDataOf}
use Rattle.dns_wire.specs.Fields.{listed, field_at, text_of}
use Rattle.message_decoding.specs.Steps.{taking, took, takes, held, holds, same}
use Rattle.message_decoding.specs.Decoding.{label_in, string_in, strings_in, field_in, fields_in, data_of, data_in}
use Rattle.message_decoding.specs.NamesLaws.{label_size, whole_sound, whole_whole}

string_sound : (bytes : List ℕ) (at : ℕ) (x : List ℕ × ℕ) → string_in bytes at ≡ Some x → CharacterStringAt bytes at x.0 x.1
unfolding string_in label_in
string_sound bytes at x e =
    let n = slice_index bytes at in
    let h = held e in
    let p = and_parts (nat_lt at (length bytes)) (nat_le (at + 1 + n) (length bytes)) h.passed in
    let inside : at + 1 + n ≤ length bytes = leb-true (at + 1 + n) (length bytes) p.1 in
    let size : length (label_in bytes at) ≡ n = label_size bytes at inside in
    let here : CharacterStringAt bytes at (label_in bytes at) (at + 1 + n) = record {
      size = record { inside = ltb-true at (length bytes) p.0; is = sym size };
      behind_is = omega (arith, size);
      inside = inside;
      text = refl;
    } in
    subst (λ (y : List ℕ × ℕ). CharacterStringAt bytes at y.0 y.1) (same h.then) here

string_whole : (bytes : List ℕ) (at : ℕ) (s : List ℕ) (behind : ℕ) → CharacterStringAt bytes at s behind → string_in bytes at ≡ Some (s, behind)
unfolding string_in label_in
string_whole bytes at s behind h =
    let n = slice_index bytes at in
    let end : at + 1 + n ≡ behind = omega (arith, h.size.is, h.behind_is) in
    let text : slice_range bytes (at + 1) (at + 1 + n) ≡ s = ap (λ (m : ℕ). slice_range bytes (at + 1) m) end ∙ h.text in
    holds (and_from (nat_lt at (length bytes)) (nat_le (at + 1 + n) (length bytes)) (lt-ltb at (length bytes) h.size.inside) (le-leb (at + 1 + n) (length bytes) (omega (arith, end, h.inside))))
    (λ i. Some (text i, end i))

strings_forward : {bytes : List ℕ} {at behind : ℕ} {strings : List (List ℕ)} → CharacterStringsAt bytes at strings behind → at ≤ behind
strings_forward (no_string is) = omega arith
strings_forward (string here more) = omega (arith, here.behind_is, strings_forward more)

strings_step : (bytes : List ℕ) (limit at : ℕ) (r : Bool) → (at == limit) ≡ r → (more : ℕ → Option (List (List ℕ))) → ((middle : ℕ) (y : List (List ℕ)) → more middle ≡ Some y → CharacterStringsAt bytes middle y limit) → (x : List (List ℕ))
    → (if r then Some [] else taking (string_in bytes at) (λ first. taking (more first.1) (λ others. Some (first.0 ∷ others)))) ≡ Some x → CharacterStringsAt bytes at x limit
strings_step bytes limit at true is more f x e =
    subst (λ (y : List (List ℕ)). CharacterStringsAt bytes at y limit) (same e) (no_string (sym (eqb-true at limit is)))
strings_step bytes limit at false is more f x e =
    let t = took e in
    let u = took t.then in
    subst (λ (y : List (List ℕ)). CharacterStringsAt bytes at y limit) (same u.then) (string (string_sound bytes at t.x t.is) (f t.x.1 u.x u.is))

strings_sound : (most : ℕ) (bytes : List ℕ) (limit at : ℕ) (x : List (List ℕ)) → strings_in most bytes limit at ≡ Some x → CharacterStringsAt bytes at x limit
unfolding strings_in
strings_sound zero bytes limit at x e =
    let h = held e in
    subst (λ (y : List (List ℕ)). CharacterStringsAt bytes at y limit) (same h.then) (no_string (sym (eqb-true at limit h.passed)))
strings_sound (suc most) bytes limit at x e =
    strings_step bytes limit at (at == limit) refl (λ middle. strings_in most bytes limit middle) (λ middle y f. strings_sound most bytes limit middle y f) x e

at_end : (most : ℕ) (bytes : List ℕ) (limit at : ℕ) → (at == limit) ≡ true → strings_in (suc most) bytes limit at ≡ Some []
unfolding strings_in
at_end most bytes limit at is = rw is refl

at_string : (most : ℕ) (bytes : List ℕ) (limit at : ℕ) → (at == limit) ≡ false
    → strings_in (suc most) bytes limit at ≡ taking (string_in bytes at) (λ first. taking (strings_in most bytes limit first.1) (λ others. Some (first.0 ∷ others)))
unfolding strings_in
at_string most bytes limit at is = rw is refl

none_left : (bytes : List ℕ) (limit at : ℕ) → (at == limit) ≡ true → strings_in zero bytes limit at ≡ Some []
unfolding strings_in
none_left bytes limit at is = holds is refl

strings_whole : (most : ℕ) (bytes : List ℕ) (limit at : ℕ) (texts : List (List ℕ)) → CharacterStringsAt bytes at texts limit → limit ≤ at + most → strings_in most bytes limit at ≡ Some texts
strings_whole zero bytes limit at [] (no_string is) few = none_left bytes limit at (eq-eqb at limit (sym is))
strings_whole zero bytes limit at (first ∷ others) (string here more) few = absurd (omega (arith, here.behind_is, strings_forward more))
strings_whole (suc most) bytes limit at [] (no_string is) few = at_end most bytes limit at (eq-eqb at limit (sym is))
strings_whole (suc most) bytes limit at (first ∷ others) (string {middle = middle} here more) few =
    at_string most bytes limit at (ne_eqb at limit (λ same. omega (arith, same, here.behind_is, strings_forward more)))
    ∙ takes _ (string_whole bytes at first middle here) (takes _ (strings_whole most bytes limit middle others more (omega (arith, here.behind_is))) refl)

-- fields of one kind
pub data Like : Field → Field → Type 0 where
  compressed : {a b : List (List ℕ)} → Like (Compressed a) (Compressed b)
  uncompressed : {a b : List (List ℕ)} → Like (Uncompressed a) (Uncompressed b)
  number8 : {a b : ℕ} → Like (U8 a) (U8 b)
  number16 : {a b : ℕ} → Like (U16 a) (U16 b)
  number32 : {a b : ℕ} → Like (U32 a) (U32 b)
  number128 : {a b : ℕ} → Like (U128 a) (U128 b)
  one_string : {a b : List ℕ} → Like (CharString a) (CharString b)
  filled : {a b : List ℕ} → Like (NonEmpty a) (NonEmpty b)
  many_strings : {a b : List (List ℕ)} → Like (CharStrings a) (CharStrings b)
  remainder : {a b : List ℕ} → Like (Remainder a) (Remainder b)
  unknown : {kind : ℕ} {a b : List ℕ} → Like (Unknown kind a) (Unknown kind b)

abbrev There : Field → List ℕ → ℕ → ℕ → Field × ℕ → Type 0
There form bytes limit at y = Like form y.0 × FieldAt bytes limit at y.0 y.1

field_sound : (form : Field) (bytes : List ℕ) (limit at : ℕ) (x : Field × ℕ) → field_in form bytes limit at ≡ Some x → There form bytes limit at x
unfolding field_in
field_sound (Compressed a) bytes limit at x e = let t = took e in subst (There (Compressed a) bytes limit at) (same t.then) (compressed, whole_sound bytes at t.x t.is)
field_sound (Uncompressed a) bytes limit at x e = let t = took e in subst (There (Uncompressed a) bytes limit at) (same t.then) (uncompressed, whole_sound bytes at t.x t.is)
field_sound (U8 a) bytes limit at x e = subst (There (U8 a) bytes limit at) (same e) (number8, (refl, refl))
field_sound (U16 a) bytes limit at x e = subst (There (U16 a) bytes limit at) (same e) (number16, (refl, refl))
field_sound (U32 a) bytes limit at x e = subst (There (U32 a) bytes limit at) (same e) (number32, (refl, refl))
field_sound (U128 a) bytes limit at x e = subst (There (U128 a) bytes limit at) (same e) (number128, (refl, refl))
field_sound (CharString a) bytes limit at x e = let t = took e in subst (There (CharString a) bytes limit at) (same t.then) (one_string, string_sound bytes at t.x t.is)
field_sound (NonEmpty a) bytes limit at x e =
    let t = took e in
    let h = held t.then in
    subst (There (NonEmpty a) bytes limit at) (same h.then) (filled, (string_sound bytes at t.x t.is, leb-true 1 (length t.x.0) h.passed))
field_sound (CharStrings a) bytes limit at x e = let t = took e in subst (There (CharStrings a) bytes limit at) (same t.then) (many_strings, (strings_sound limit bytes limit at t.x t.is, refl))
field_sound (Remainder a) bytes limit at x e = let h = held e in subst (There (Remainder a) bytes limit at) (same h.then) (remainder, (refl, leb-true at limit h.passed, refl))
field_sound (Unknown kind a) bytes limit at x e =
    let h = held e in
    let p = and_parts (not (is_known_type kind)) (nat_le at limit) h.passed in
    subst (There (Unknown kind a) bytes limit at) (same h.then) (unknown, (refl, leb-true at limit p.1, refl, not-true (is_known_type kind) p.0))

field_whole : {form g : Field} → Like form g → (bytes : List ℕ) (limit at behind : ℕ) → FieldAt bytes limit at g behind → field_in form bytes limit at ≡ Some (g, behind)
unfolding field_in
field_whole (compressed {b = b}) bytes limit at behind h = takes _ (whole_whole bytes at b behind h) refl
field_whole (uncompressed {b = b}) bytes limit at behind h = takes _ (whole_whole bytes at b behind h) refl
field_whole (number8 {b = b}) bytes limit at behind h = λ i. Some (U8 (sym h.1 i), sym h.0 i)
field_whole (number16 {b = b}) bytes limit at behind h = λ i. Some (U16 (sym h.1 i), sym h.0 i)
field_whole (number32 {b = b}) bytes limit at behind h = λ i. Some (U32 (sym h.1 i), sym h.0 i)
field_whole (number128 {b = b}) bytes limit at behind h = λ i. Some (U128 (sym h.1 i), sym h.0 i)
field_whole (one_string {b = b}) bytes limit at behind h = takes _ (string_whole bytes at b behind h) refl
field_whole (filled {b = b}) bytes limit at behind h = takes _ (string_whole bytes at b behind h.0) (holds (le-leb 1 (length b) h.1) refl)
field_whole (many_strings {b = b}) bytes limit at behind h = takes _ (strings_whole limit bytes limit at b h.0 (omega arith)) (λ i. Some (CharStrings b, sym h.1 i))
field_whole (remainder {b = b}) bytes limit at behind h = holds (le-leb at limit h.1) (λ i. Some (Remainder (sym h.0 i), sym h.2 i))
field_whole (unknown {kind = kind} {b = b}) bytes limit at behind h =
    holds (and_from (not (is_known_type kind)) (nat_le at limit) (not_from_false (is_known_type kind) h.3) (le-leb at limit h.1)) (λ i. Some (Unknown kind (sym h.0 i), sym h.2 i))

-- fields of the same kinds
pub data AreLike : List Field → List Field → Type 0 where
  none : AreLike [] []
  more : {f g : Field} {fs gs : List Field} → Like f g → AreLike fs gs → AreLike (f ∷ fs) (g ∷ gs)

abbrev Stand : List Field → List ℕ → ℕ → ℕ → List Field → Type 0
Stand forms bytes limit at fields = AreLike forms fields × FieldsAt bytes limit at fields

fields_sound : (forms : List Field) (bytes : List ℕ) (limit at : ℕ) (x : List Field) → fields_in forms bytes limit at ≡ Some x → Stand forms bytes limit at x
unfolding fields_in
fields_sound [] bytes limit at x e = let h = held e in subst (Stand [] bytes limit at) (same h.then) (none, eqb-true at limit h.passed)
fields_sound (form ∷ forms) bytes limit at x e =
    let t = took e in
    let u = took t.then in
    let first = field_sound form bytes limit at t.x t.is in
    let others = fields_sound forms bytes limit t.x.1 u.x u.is in
    subst (Stand (form ∷ forms) bytes limit at) (same u.then) (more first.0 others.0, (t.x.1, first.1, others.1))

fields_whole : {forms fields : List Field} → AreLike forms fields → (bytes : List ℕ) (limit at : ℕ) → FieldsAt bytes limit at fields → fields_in forms bytes limit at ≡ Some fields
unfolding fields_in
fields_whole none bytes limit at h = holds (eq-eqb at limit h) refl
fields_whole (more like likes) bytes limit at h =
    takes _ (field_whole like bytes limit at h.0 h.1) (takes _ (fields_whole likes bytes limit h.0 h.2) refl)

-- data that is filled with fields of the kinds of its type has these fields, and is of this type
pub record Refilled (kind : ℕ) (fields : List Field) : Type 0 where
  pub kind_is : kind_of (data_of kind fields) ≡ kind
  pub fields_are : fields_of (data_of kind fields) ≡ fields

abbrev Refills : ℕ → Type 0
Refills kind = (fields : List Field) → AreLike (fields_of (data_of kind [])) fields → Refilled kind fields

row_a : Refills kinds.A
unfolding data_of is_known_type
row_a fields (more number32 none) = record { kind_is = refl; fields_are = refl }

row_ns : Refills kinds.NS
unfolding data_of is_known_type
row_ns fields (more compressed none) = record { kind_is = refl; fields_are = refl }

row_cname : Refills kinds.CNAME
unfolding data_of is_known_type
row_cname fields (more compressed none) = record { kind_is = refl; fields_are = refl }

row_soa : Refills kinds.SOA
unfolding data_of is_known_type
row_soa fields (more compressed (more compressed (more number32 (more number32 (more number32 (more number32 (more number32 none))))))) = record { kind_is = refl; fields_are = refl }

row_ptr : Refills kinds.PTR
unfolding data_of is_known_type
row_ptr fields (more compressed none) = record { kind_is = refl; fields_are = refl }

row_hinfo : Refills kinds.HINFO
unfolding data_of is_known_type
row_hinfo fields (more one_string (more one_string none)) = record { kind_is = refl; fields_are = refl }

row_mx : Refills kinds.MX
unfolding data_of is_known_type
row_mx fields (more number16 (more compressed none)) = record { kind_is = refl; fields_are = refl }

row_txt : Refills kinds.TXT
unfolding data_of is_known_type
row_txt fields (more many_strings none) = record { kind_is = refl; fields_are = refl }

row_aaaa : Refills kinds.AAAA
unfolding data_of is_known_type
row_aaaa fields (more number128 none) = record { kind_is = refl; fields_are = refl }

row_srv : Refills kinds.SRV
unfolding data_of is_known_type
row_srv fields (more number16 (more number16 (more number16 (more uncompressed none)))) = record { kind_is = refl; fields_are = refl }

row_opt : Refills kinds.OPT
unfolding data_of is_known_type
row_opt fields (more unknown none) = record { kind_is = refl; fields_are = refl }

row_caa : Refills kinds.CAA
unfolding data_of is_known_type
row_caa fields (more number8 (more filled (more remainder none))) = record { kind_is = refl; fields_are = refl }

opaque : (kind : ℕ) (fields : List Field) → is_known_type kind ≡ false → data_of kind fields ≡ rdata.Opaque kind (text_of (field_at 0 fields))
unfolding data_of
opaque kind fields other = ap (λ (b : Bool). if b then listed kind fields else rdata.Opaque kind (text_of (field_at 0 fields))) other

refill_opaque : (kind : ℕ) (fields : List Field) → is_known_type kind ≡ false → AreLike (Unknown kind [] ∷ []) fields → Refilled kind fields
refill_opaque kind fields other (more (unknown {b = b}) none) =
    let is = opaque kind (Unknown kind b ∷ []) other in record { kind_is = ap kind_of is; fields_are = ap fields_of is }

row_opaque : (kind : ℕ) → is_known_type kind ≡ false → Refills kind
row_opaque kind other fields likes = refill_opaque kind fields other (subst (λ (d : Rdata). AreLike (fields_of d) fields) (opaque kind [] other) likes)

-- a number is this one, or another
pick_by : (P : ℕ → Type 0) (kind known : ℕ) (b : Bool) → (kind == known) ≡ b → P known → ((kind == known) ≡ false → P kind) → P kind
pick_by P kind known true is here other = subst P (sym (eqb-true kind known is)) here
pick_by P kind known false is here other = other is

pick : (P : ℕ → Type 0) (kind known : ℕ) → P known → ((kind == known) ≡ false → P kind) → P kind
pick P kind known here other = pick_by P kind known (kind == known) refl here other

refills : (kind : ℕ) → Refills kind
unfolding is_known_type
refills kind =
    pick Refills kind kinds.A row_a λ a. pick Refills kind kinds.NS row_ns λ b. pick Refills kind kinds.CNAME row_cname λ c. pick Refills kind kinds.SOA row_soa λ d.
    pick Refills kind kinds.PTR row_ptr λ e. pick Refills kind kinds.HINFO row_hinfo λ f. pick Refills kind kinds.MX row_mx λ g. pick Refills kind kinds.TXT row_txt λ h.
    pick Refills kind kinds.AAAA row_aaaa λ j. pick Refills kind kinds.SRV row_srv λ k. pick Refills kind kinds.OPT row_opt λ l. pick Refills kind kinds.CAA row_caa λ m.
    row_opaque kind (rw (a, b, c, d, e, f, g, h, j, k, l, m) refl)

pub data_sound : (kind : ℕ) (bytes : List ℕ) (at behind : ℕ) (d : Rdata) → data_in kind bytes at behind ≡ Some d → IsDataOf bytes kind at behind d
unfolding data_in
data_sound kind bytes at behind d e =
    let t = took e in
    let s = fields_sound (fields_of (data_of kind [])) bytes behind at t.x t.is in
    let r = refills kind t.x s.0 in
    let there : FieldsAt bytes behind at (fields_of (data_of kind t.x)) = subst (λ (fs : List Field). FieldsAt bytes behind at fs) (sym r.fields_are) s.1 in
    subst (λ (y : Rdata). IsDataOf bytes kind at behind y) (same t.then) (r.kind_is, there)

-- data has the fields of its type, and is what they fill
pub record IsRow (d : Rdata) : Type 0 where
  pub likes : AreLike (fields_of (data_of (kind_of d) [])) (fields_of d)
  pub again : data_of (kind_of d) (fields_of d) ≡ d
  pub not_opt : kind_of d ≡ kinds.OPT → ⊥

known_opt : is_known_type kinds.OPT ≡ true
unfolding is_known_type
known_opt = refl

opaque_row : (kind : ℕ) (bytes : List ℕ) → is_known_type kind ≡ false → IsRow (rdata.Opaque kind bytes)
opaque_row kind bytes other = record {
  likes = subst (λ (d : Rdata). AreLike (fields_of d) (Unknown kind bytes ∷ [])) (sym (opaque kind [] other)) (more unknown none);
  again = opaque kind (Unknown kind bytes ∷ []) other;
  not_opt = λ e. absurd (let clash = sym known_opt ∙ ap is_known_type (sym e) ∙ other in cc);
}

pub row : (bytes : List ℕ) (at behind : ℕ) (d : Rdata) → DataAt bytes at d behind → IsRow d
unfolding data_of is_known_type
row bytes at behind (rdata.A addr) h = record { likes = more number32 none; again = refl; not_opt = λ e. omega arith }
row bytes at behind (rdata.Ns name) h = record { likes = more compressed none; again = refl; not_opt = λ e. omega arith }
row bytes at behind (rdata.Cname name) h = record { likes = more compressed none; again = refl; not_opt = λ e. omega arith }
row bytes at behind (rdata.Soa soa) h = record {
  likes = more compressed (more compressed (more number32 (more number32 (more number32 (more number32 (more number32 none))))));
  again = refl;
  not_opt = λ e. omega arith;
}
row bytes at behind (rdata.Ptr name) h = record { likes = more compressed none; again = refl; not_opt = λ e. omega arith }
row bytes at behind (rdata.Hinfo cpu os) h = record { likes = more one_string (more one_string none); again = refl; not_opt = λ e. omega arith }
row bytes at behind (rdata.Mx preference exchange) h = record { likes = more number16 (more compressed none); again = refl; not_opt = λ e. omega arith }
row bytes at behind (rdata.Txt strings) h = record { likes = more many_strings none; again = refl; not_opt = λ e. omega arith }
row bytes at behind (rdata.Aaaa addr) h = record { likes = more number128 none; again = refl; not_opt = λ e. omega arith }
row bytes at behind (rdata.Srv priority weight port target) h = record { likes = more number16 (more number16 (more number16 (more uncompressed none))); again = refl; not_opt = λ e. omega arith }
row bytes at behind (rdata.Caa flags tag value) h = record { likes = more number8 (more filled (more remainder none)); again = refl; not_opt = λ e. omega arith }
row bytes at behind (rdata.Opaque kind text) h = opaque_row kind text h.1.3

data_is : (bytes : List ℕ) (at behind : ℕ) (d : Rdata) → DataAt bytes at d behind → data_in (kind_of d) bytes at behind ≡ Some d
unfolding data_in
data_is bytes at behind d h =
    let r = row bytes at behind d h in
    takes _ (fields_whole r.likes bytes behind at h) (ap Some r.again)

pub data_whole : (kind : ℕ) (bytes : List ℕ) (at behind : ℕ) (d : Rdata) → IsDataOf bytes kind at behind d → data_in kind bytes at behind ≡ Some d
data_whole kind bytes at behind d h = ap (λ (k : ℕ). data_in k bytes at behind) (sym h.0) ∙ data_is bytes at behind d h.1
