-- A reader of data, field by field.
use Rattle.std.proofs.Common.{◌≡◌, ◌≤◌, ℕ, ◌+◌, ◌-◌, Bool, true, false, List, [], ◌∷◌, length, map, slice_range, Some, None, Bor, refl, sym, ap, subst, ◌∙◌, arith}
use Rattle.std.proofs.lemmas.List.Edits.{length-between}
use Rattle.std.specs.Prelude.{◌==◌, if◌then◌else◌}
use Rattle.std.specs.List.{AllByRecursion}
use Rattle.dns_data.specs.Record.{Field, Compressed, Uncompressed, U8, U16, U32, U128, CharString, NonEmpty, CharStrings, Remainder, Unknown, HasForm, IsFormed, fields_of, kind_of, text_length, texts_length, is_known_type}
use Rattle.dns_data.specs.declared.record.Rdata.{Rdata}
use Rattle.dns_wire.specs.Wire.{WholeNameAt}
use Rattle.dns_wire.specs.Data.{CharacterStringAt, CharacterStringsAt, FieldAt, FieldsAt, DataAt, IsDataOf}
use Rattle.dns_wire.specs.Fields.{shape, shapes_of, labels_in, text_of, texts_of}
use Rattle.dns_wire.specs.Cursor.{CursorData, StandBack, back_onto, Found, NoneStand, HasRead, Takes, Passes, TakesString}
use Rattle.dns_wire.proofs.Fields.{field_forward, one_field, same_first, same_others}
use Rattle.dns_wire.proofs.Rows.{row, shapes_for, shapes_known}

-- fields of the same kinds at one offset are the same
pub one_back : (bytes : List ℕ) (limit start x y : ℕ) (fs gs : List Field) → StandBack bytes limit start fs x → StandBack bytes limit start gs y → map shape fs ≡ map shape gs → (fs ≡ gs) × (x ≡ y)
one_back bytes limit start x y [] [] p q same = (refl, p ∙ sym q)
one_back bytes limit start x y [] (g ∷ gs) p q same = absurd cc
one_back bytes limit start x y (f ∷ fs) [] p q same = absurd cc
one_back bytes limit start x y (f ∷ fs) (g ∷ gs) p q same =
    let before = one_back bytes limit start p.0 q.0 fs gs p.1 q.1 (same_others (shape f) (shape g) (map shape fs) (map shape gs) same) in
    let there : FieldAt bytes limit p.0 g y = subst (λ (m : ℕ). FieldAt bytes limit m g y) (sym before.1) q.2 in
    let here = one_field bytes limit p.0 x y f g p.2 there (same_first (shape f) (shape g) (map shape fs) (map shape gs) same) in
    ((λ i. here.0 i ∷ before.0 i), here.1)

-- from either end
pub forth : (bytes : List ℕ) (limit start at : ℕ) (fs gs : List Field) → StandBack bytes limit start fs at → FieldsAt bytes limit at gs → FieldsAt bytes limit start (back_onto fs gs)
forth bytes limit start at [] gs p q = subst (λ (n : ℕ). FieldsAt bytes limit n gs) p q
forth bytes limit start at (f ∷ fs) gs p q = forth bytes limit start p.0 fs (f ∷ gs) p.1 (at, p.2, q)

pub back : (bytes : List ℕ) (limit start at : ℕ) (fs gs : List Field) → StandBack bytes limit start fs at → FieldsAt bytes limit at gs → StandBack bytes limit start (back_onto gs fs) limit
back bytes limit start at fs [] p q = subst (λ (n : ℕ). StandBack bytes limit start fs n) q p
back bytes limit start at fs (g ∷ gs) p q = back bytes limit start q.0 (g ∷ fs) gs (at, p, q.1) q.2

there_and_back : {A : Type 0} (xs ys : List A) → back_onto (back_onto xs ys) [] ≡ back_onto ys xs
there_and_back [] ys = refl
there_and_back (x ∷ xs) ys = there_and_back xs (x ∷ ys)

shapes_back : (fs gs hs is : List Field) → map shape fs ≡ map shape gs → map shape hs ≡ map shape is → map shape (back_onto fs hs) ≡ map shape (back_onto gs is)
shapes_back [] [] hs is same others = others
shapes_back [] (g ∷ gs) hs is same others = absurd cc
shapes_back (f ∷ fs) [] hs is same others = absurd cc
shapes_back (f ∷ fs) (g ∷ gs) hs is same others =
    let here = same_first (shape f) (shape g) (map shape fs) (map shape gs) same in
    shapes_back fs gs (f ∷ hs) (g ∷ is) (same_others (shape f) (shape g) (map shape fs) (map shape gs) same) (λ i. here i ∷ others i)

formed_back : (fs gs : List Field) → AllByRecursion HasForm (back_onto fs gs) → AllByRecursion HasForm fs × AllByRecursion HasForm gs
formed_back [] gs all = (tt, all)
formed_back (f ∷ fs) gs all = let r = formed_back fs (f ∷ gs) all in ((r.1.0, r.0), r.1.1)

size_back : (fs gs : List Field) → texts_length (back_onto fs gs) ≡ texts_length fs + texts_length gs
size_back [] gs = omega arith
size_back (f ∷ fs) gs = omega (arith, size_back fs (f ∷ gs))

-- what a step of a reader tells
pub record Step (before after : CursorData) (f : Field) : Type 0 where
  pub same_bytes : after.bytes ≡ before.bytes
  pub same_limit : after.limit ≡ before.limit
  pub stays : before.is_sound ≡ false → after.is_sound ≡ false
  pub found : after.is_sound ≡ true → FieldAt before.bytes before.limit before.at f after.at
  pub formed : after.is_sound ≡ true → HasForm f × (text_length f + before.at ≤ after.at)
  pub missed : before.is_sound ≡ true → after.is_sound ≡ false → (g : Field) (end : ℕ) → shape g ≡ shape f → FieldAt before.bytes before.limit before.at g end → end ≤ before.limit → ⊥

was_sound : (b c : Bool) → (b ≡ false → c ≡ false) → c ≡ true → b ≡ true
was_sound true c stays is = refl
was_sound false c stays is = absurd (let clash = sym is ∙ stays refl in cc)

-- no such field stands behind those that were read
missed_next : {bytes : List ℕ} {start limit : ℕ} {fields : List Field} {before after : CursorData} {f : Field} → HasRead bytes start limit fields before → Step before after f → after.is_sound ≡ false
    → NoneStand bytes start limit (f ∷ fields)
missed_next h s is [] end same p inside = absurd cc
missed_next {bytes} {start} {limit} {fields} {before} {after} {f} h s is (g ∷ gs) end same p inside =
    let heads : shape g ≡ shape f = same_first (shape g) (shape f) (map shape gs) (map shape fields) same in
    let tails : map shape gs ≡ map shape fields = same_others (shape g) (shape f) (map shape gs) (map shape fields) same in
    elim before.is_sound as (λ b. before.is_sound ≡ b → ⊥) [
      | false ↦ λ not_sound. h.missed not_sound gs p.0 tails p.1 (omega (arith, inside, field_forward bytes limit p.0 g end p.2))
      | true ↦ λ sound.
          let at : p.0 ≡ before.at = (one_back bytes limit start p.0 before.at gs fields p.1 (h.found sound).stand tails).1 in
          let there : FieldAt bytes limit before.at g end = subst (λ (n : ℕ). FieldAt bytes limit n g end) at p.2 in
          let here : FieldAt before.bytes before.limit before.at g end =
          subst (λ (t : List ℕ). FieldAt t before.limit before.at g end) (sym h.same_bytes) (subst (λ (l : ℕ). FieldAt bytes l before.at g end) (sym h.same_limit) there) in
          s.missed sound is g end heads here (omega (arith, inside, h.same_limit))
    ] refl

found_next : {bytes : List ℕ} {start limit : ℕ} {fields : List Field} {before after : CursorData} {f : Field} → HasRead bytes start limit fields before → Step before after f → after.is_sound ≡ true
    → Found bytes start limit (f ∷ fields) after.at
found_next {bytes} {start} {limit} {fields} {before} {after} {f} h s is =
    let r = h.found (was_sound before.is_sound after.is_sound s.stays is) in
    let field : FieldAt bytes limit before.at f after.at =
    subst (λ (t : List ℕ). FieldAt t limit before.at f after.at) h.same_bytes (subst (λ (l : ℕ). FieldAt before.bytes l before.at f after.at) h.same_limit (s.found is)) in
    let form = s.formed is in
    record { stand = (before.at, r.stand, field); formed = (form.0, r.formed); size = omega (arith, form.1, r.size) }

pub takes : {before after : CursorData} {f : Field} → Step before after f → Takes before after f
takes s bytes start limit fields h = record {
  same_bytes = s.same_bytes ∙ h.same_bytes;
  same_limit = s.same_limit ∙ h.same_limit;
  few = h.few;
  found = found_next h s;
  missed = missed_next h s;
}

-- all fields were read, and the data is used up
pub data_read : {bytes : List ℕ} {start limit : ℕ} {c : CursorData} → (d : Rdata) → HasRead bytes start limit (back_onto (fields_of d) []) c → c.is_sound ≡ true → c.at ≡ c.limit → DataAt bytes start d limit
data_read {bytes} {start} {limit} {c} d h sound used =
    let r = h.found sound in
    let end : c.at ≡ limit = used ∙ h.same_limit in
    let forwards : FieldsAt bytes limit start (back_onto (back_onto (fields_of d) []) []) = forth bytes limit start c.at (back_onto (fields_of d) []) [] r.stand end in
    subst (λ (fs : List Field). FieldsAt bytes limit start fs) (there_and_back (fields_of d) []) forwards

pub data_formed : {bytes : List ℕ} {start limit : ℕ} {c : CursorData} → (d : Rdata) → HasRead bytes start limit (back_onto (fields_of d) []) c → c.is_sound ≡ true → c.at ≡ c.limit → IsFormed d
data_formed {bytes} {start} {limit} {c} d h sound used =
    let r = h.found sound in
    record {
      each = (formed_back (fields_of d) [] r.formed).0;
      short = omega (arith, r.size, size_back (fields_of d) [], used, h.same_limit, h.few);
    }

-- where such fields don't use the data up, no data of the type stands there
pub no_data : {bytes : List ℕ} {kind start limit : ℕ} {c : CursorData} → (d : Rdata) → HasRead bytes start limit (back_onto (fields_of d) []) c → kind_of d ≡ kind → is_known_type kind ≡ true
    → map shape (fields_of d) ≡ shapes_of (kind_of d) → (c.is_sound ≡ true → c.at ≡ c.limit → ⊥) → (e : Rdata) → IsDataOf bytes kind start limit e → ⊥
no_data {bytes} {kind} {start} {limit} {c} d h is known shapes bad e p =
    let r = row bytes start limit e p.1 in
    let same : map shape (fields_of e) ≡ map shape (fields_of d) = r.shape_is ∙ ap shapes_for p.0 ∙ shapes_known kind known ∙ ap shapes_of (sym is) ∙ sym shapes in
    let others : map shape (back_onto (fields_of e) []) ≡ map shape (back_onto (fields_of d) []) = shapes_back (fields_of e) (fields_of d) [] [] same refl in
    let there : StandBack bytes limit start (back_onto (fields_of e) []) limit = back bytes limit start start [] (fields_of e) refl p.1 in
    elim c.is_sound as (λ b. c.is_sound ≡ b → ⊥) [
      | false ↦ λ not_sound. h.missed not_sound (back_onto (fields_of e) []) limit others there (omega arith)
      | true ↦ λ sound.
          let end = (one_back bytes limit start limit c.at (back_onto (fields_of e) []) (back_onto (fields_of d) []) there (h.found sound).stand others).1 in
          bad sound (omega (arith, end, h.same_limit))
    ] refl

-- a field was read
pub reads : {before after : CursorData} {f : Field} (behind : ℕ) → after ≡ record before { at = behind } → before.is_sound ≡ true → FieldAt before.bytes before.limit before.at f behind → HasForm f
    → text_length f + before.at ≤ behind → Takes before after f
reads {before} {after} {f} behind is sound here form size = takes {f = f} (record {
  same_bytes = ap (λ (c : CursorData). c.bytes) is;
  same_limit = ap (λ (c : CursorData). c.limit) is;
  stays = λ not_sound. absurd (let clash = sym sound ∙ not_sound in cc);
  found = λ _. subst (λ (n : ℕ). FieldAt before.bytes before.limit before.at f n) (sym (ap (λ (c : CursorData). c.at) is)) here;
  formed = λ _. (form, omega (arith, size, ap (λ (c : CursorData). c.at) is));
  missed = λ _ not_sound. absurd (let clash = sym sound ∙ sym (ap (λ (c : CursorData). c.is_sound) is) ∙ not_sound in cc);
})

-- no such field stands there
pub misses : {before after : CursorData} {f : Field} → after.bytes ≡ before.bytes → after.limit ≡ before.limit → after.is_sound ≡ false
    → (before.is_sound ≡ true → (g : Field) (end : ℕ) → shape g ≡ shape f → FieldAt before.bytes before.limit before.at g end → end ≤ before.limit → ⊥) → Takes before after f
misses {before} {after} {f} same_bytes same_limit is none = takes {f = f} (record {
  same_bytes = same_bytes;
  same_limit = same_limit;
  stays = λ _. is;
  found = λ sound. absurd (let clash = sym is ∙ sound in cc);
  formed = λ sound. absurd (let clash = sym is ∙ sound in cc);
  missed = λ sound _. none sound;
})

pub misses_by : {before after : CursorData} {f : Field} → after ≡ record before { is_sound = false }
    → (before.is_sound ≡ true → (g : Field) (end : ℕ) → shape g ≡ shape f → FieldAt before.bytes before.limit before.at g end → end ≤ before.limit → ⊥) → Takes before after f
misses_by {before} {after} {f} is none =
    misses {f = f} (ap (λ (c : CursorData). c.bytes) is) (ap (λ (c : CursorData). c.limit) is) (ap (λ (c : CursorData). c.is_sound) is) none

-- nothing was sought, since something was missed before
pub idle : {before after : CursorData} {f : Field} → after ≡ before → before.is_sound ≡ false → Takes before after f
idle {before} {after} {f} is not_sound =
    misses {f = f} (ap (λ (c : CursorData). c.bytes) is) (ap (λ (c : CursorData). c.limit) is) (ap (λ (c : CursorData). c.is_sound) is ∙ not_sound) (λ sound. absurd (let clash = sym sound ∙ not_sound in cc))

-- how many bytes a number takes
abbrev pub width : ℕ → ℕ
width n = if n == 2 then 1 else if n == 3 then 2 else if n == 4 then 4 else 16

number_end : (bytes : List ℕ) (limit at : ℕ) (g : Field) (end : ℕ) → FieldAt bytes limit at g end → 2 ≤ shape g → shape g ≤ 5 → end ≡ at + width (shape g)
number_end bytes limit at (Compressed labels) end h low high = absurd (omega arith)
number_end bytes limit at (Uncompressed labels) end h low high = absurd (omega arith)
number_end bytes limit at (U8 number) end h low high = h.0
number_end bytes limit at (U16 number) end h low high = h.0
number_end bytes limit at (U32 number) end h low high = h.0
number_end bytes limit at (U128 number) end h low high = h.0
number_end bytes limit at (CharString text) end h low high = absurd (omega arith)
number_end bytes limit at (NonEmpty text) end h low high = absurd (omega arith)
number_end bytes limit at (CharStrings texts) end h low high = absurd (omega arith)
number_end bytes limit at (Remainder text) end h low high = absurd (omega arith)
number_end bytes limit at (Unknown kind text) end h low high = absurd (omega arith)

-- a number of so many bytes was read, or isn't there
pub number_read : {before after : CursorData} {f : Field} {count at : ℕ} → Passes before after count (Some at) → FieldAt before.bytes before.limit before.at f (before.at + count) → HasForm f → text_length f ≡ count → Takes before after f
number_read {before} {after} {f} {count} p here form size = reads {f = f} (before.at + count) p.0 p.1 here form (omega (arith, size))

pub number_missed : {before after : CursorData} {f : Field} {count : ℕ} → Passes before after count None → 2 ≤ shape f → shape f ≤ 5 → width (shape f) ≡ count → Takes before after f
number_missed {before} {after} {f} {count} p low high wide = misses_by {f = f} p.0 (λ sound g end same h inside.
    omega (arith, p.1 sound, number_end before.bytes before.limit before.at g end h (omega (arith, same)) (omega (arith, same)), ap width same, wide))

-- the name of a field
name_in : (bytes : List ℕ) (limit at : ℕ) (g : Field) (end : ℕ) → FieldAt bytes limit at g end → shape g ≤ 1 → WholeNameAt bytes at (labels_in g) end
name_in bytes limit at (Compressed labels) end h few = h
name_in bytes limit at (Uncompressed labels) end h few = h
name_in bytes limit at g end h few = absurd (omega arith)

pub name_missed : {before after : CursorData} {f : Field} → shape f ≤ 1 → after ≡ record before { is_sound = false } → ((labels : List (List ℕ)) (end : ℕ) → WholeNameAt before.bytes before.at labels end → end ≤ before.limit → ⊥)
    → Takes before after f
name_missed {before} {after} {f} few is none = misses_by {f = f} is (λ sound g end same h inside.
    none (labels_in g) end (name_in before.bytes before.limit before.at g end h (omega (arith, same))) inside)

-- the character-string of a field
string_in : (bytes : List ℕ) (limit at : ℕ) (g : Field) (end : ℕ) → FieldAt bytes limit at g end → 6 ≤ shape g → shape g ≤ 7 → CharacterStringAt bytes at (text_of g) end
string_in bytes limit at (CharString text) end h low high = h
string_in bytes limit at (NonEmpty text) end h low high = h.0
string_in bytes limit at g end h low high = absurd (omega (arith, low, high))

pub string_missed : {before after : CursorData} {f : Field} → 6 ≤ shape f → shape f ≤ 7 → TakesString before after None → Takes before after f
string_missed {before} {after} {f} low high p = misses_by {f = f} p.0 (λ sound g end same h inside.
    p.1 sound (text_of g) end (string_in before.bytes before.limit before.at g end h (omega (arith, same)) (omega (arith, same))) inside)

some_in : (bytes : List ℕ) (limit at : ℕ) (g : Field) (end : ℕ) → FieldAt bytes limit at g end → shape g ≡ 7 → 1 ≤ length (text_of g)
some_in bytes limit at (NonEmpty text) end h is = h.1
some_in bytes limit at g end h is = absurd (omega (arith, is))

-- the character-string that stands there is empty
pub empty_missed : {before between after : CursorData} {f : Field} (text : Bor (List ℕ)) → shape f ≡ 7 → TakesString before between (Some text) → after ≡ record between { is_sound = false } → length text.now ≡ 0
    → Takes before after f
empty_missed {before} {between} {after} {f} text seven p is none =
    misses {f = f} (ap (λ (c : CursorData). c.bytes) is ∙ ap (λ (c : CursorData). c.bytes) p.0) (ap (λ (c : CursorData). c.limit) is ∙ ap (λ (c : CursorData). c.limit) p.0) (ap (λ (c : CursorData). c.is_sound) is)
    (λ sound g end same h inside.
    let shaped : shape g ≡ 7 = same ∙ seven in
    let there = string_in before.bytes before.limit before.at g end h (omega arith) (omega arith) in
    let some = some_in before.bytes before.limit before.at g end h shaped in
    omega (arith, some, none, there.size.is, p.2.size.is))

-- the character-strings of a field
strings_in : (bytes : List ℕ) (limit at : ℕ) (g : Field) (end : ℕ) → FieldAt bytes limit at g end → shape g ≡ 8 → CharacterStringsAt bytes at (texts_of g) limit
strings_in bytes limit at (CharStrings texts) end h is = h.0
strings_in bytes limit at g end h is = absurd (omega (arith, is))

pub strings_missed : {before after : CursorData} {f : Field} → shape f ≡ 8 → after ≡ record before { is_sound = false } → ((texts : List (List ℕ)) → CharacterStringsAt before.bytes before.at texts before.limit → ⊥) → Takes before after f
strings_missed {before} {after} {f} eight is none = misses_by {f = f} is (λ sound g end same h inside. none (texts_of g) (strings_in before.bytes before.limit before.at g end h (same ∙ eight)))

-- the remainder is always there
pub remains : {before after : CursorData} {text : List ℕ} → after ≡ record before { at = before.limit } → before.at ≤ before.limit → before.limit ≤ length before.bytes → text ≡ slice_range before.bytes before.at before.limit
    → Takes before after (Remainder text)
remains {before} {after} {text} is order inside same =
    let size : length text ≡ before.limit - before.at = ap length same ∙ length-between before.bytes before.at before.limit inside in
    takes {f = Remainder text} (record {
      same_bytes = ap (λ (c : CursorData). c.bytes) is;
      same_limit = ap (λ (c : CursorData). c.limit) is;
      stays = λ not_sound. ap (λ (c : CursorData). c.is_sound) is ∙ not_sound;
      found = λ _. (same, order, ap (λ (c : CursorData). c.at) is);
      formed = λ _. (tt, omega (arith, size, ap (λ (c : CursorData). c.at) is));
      missed = λ sound not_sound. absurd (let clash = sym sound ∙ sym (ap (λ (c : CursorData). c.is_sound) is) ∙ not_sound in cc);
    })

-- seen as a whole again
pub from_view : {v w after : CursorData} {f : Field} → v ≡ w → Takes v after f → Takes w after f
from_view {v} {w} {after} {f} is t bytes start limit fields h = t bytes start limit fields (subst (HasRead bytes start limit fields) (sym is) h)
