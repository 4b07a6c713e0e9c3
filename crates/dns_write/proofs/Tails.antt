-- Records behind an answer are written as they are known to be, wherever they and their anchor begin.
use Rattle.std.proofs.Common.{◌≡◌, ◌≤◌, ◌<◌, ℕ, ◌+◌, ◌-◌, Bool, true, false, List, [], ◌∷◌, ◌++◌, length, drop, Option, Some, None, refl, sym, ap, subst, ◌∙◌, append_assoc, arith, length-append, length-drop}
use Rattle.std.proofs.lemmas.List.{append-nil}
use Rattle.std.proofs.lemmas.Bool.{lt-ltb}
use Rattle.std.specs.Prelude.{cond, option_map, find, if◌then◌else◌}
use Rattle.std.specs.Option.{option_or}
use Rattle.std.specs.Int.{w16, w32, w128, to_be_bytes}
use Rattle.dns_names.specs.Name.{spelled, same_labels}
use Rattle.dns_data.specs.Record.{RecordData, kind_of, fields_of, Field, Compressed, Uncompressed, U8, U16, U32, U128, CharString, NonEmpty, CharStrings, Remainder, Unknown}
use Rattle.dns_write.specs.Written.{Draft, OffsetData, size, put, put_u16, put_label, put_name, put_string, put_strings, put_field, put_fields, put_data, put_record, put_records, keep, earliest}
use Rattle.dns_write.specs.Offsets.{suffixes_at}
use Rattle.dns_write.specs.Tails.{Place, InAnchor, InTail, place_at, Piece, Plain, Pointer, piece_bytes, pieces_bytes, PlacedSuffix, Progress, place_of, past, placing, past_label, past_or, past_name, pieces_or, name_pieces, strings_bytes, past_field, field_pieces, past_fields, fields_pieces, at_data, past_record, head_bytes, record_pieces, past_records, records_pieces, anchor_suffixes, begun, AsksField, AsksFields, AsksRecord, AsksRecords, Lacks}
use Rattle.dns_write.proofs.Searching.{earliest-append, found_front, passed_front, none_left, other_labels}
use Rattle.dns_write.proofs.Swaps.{head_of, data_size_of, record_in_order}
use Rattle.dns_write.proofs.Writing.{at_offset, no_offset, at_root}

-- so much of the records stands in a draft behind a first one: their bytes, how long it is, and of each suffix that may be asked for where it stands
pub record Renders (Asked : List (List ℕ) → Type 0) (anchor : ℕ) (start d : Draft) (p : Progress) (pieces : List Piece) : Type 0 where
  pub bytes : d.bytes ≡ start.bytes ++ pieces_bytes anchor (size start) pieces
  pub long : length d.bytes ≡ length start.bytes + p.size
  pub places : (suffix : List (List ℕ)) → Asked suffix → earliest d.offsets suffix ≡ option_map (place_at anchor (size start)) (place_of p.placed suffix)

-- what is put behind a draft is what these pieces say, where pointers can name all offsets in it
pub record Follows (Asked : List (List ℕ) → Type 0) (anchor : ℕ) (start : Draft) (f : Draft → Draft) (after : Progress → Progress) (adds : Progress → List Piece) : Type 0 where
  pub grows : (p : Progress) → p.size ≤ (after p).size
  pub renders : (d : Draft) (p : Progress) (pieces : List Piece) → Renders Asked anchor start d p pieces → size start + (after p).size ≤ 16384
      → Renders Asked anchor start (f d) (after p) (pieces ++ adds p)

-- what holds of a name that may be asked for holds of the suffixes behind its labels
abbrev pub IsClosed : (List (List ℕ) → Type 0) → Type 0
IsClosed Asked = (label : List ℕ) (labels : List (List ℕ)) → Asked (label ∷ labels) → Asked labels

pieces_bytes-append : (anchor tail : ℕ) (xs ys : List Piece) → pieces_bytes anchor tail (xs ++ ys) ≡ pieces_bytes anchor tail xs ++ pieces_bytes anchor tail ys
pieces_bytes-append anchor tail [] ys = refl
pieces_bytes-append anchor tail (x ∷ xs) ys =
    ap (λ (t : List ℕ). piece_bytes anchor tail x ++ t) (pieces_bytes-append anchor tail xs ys) ∙ sym (append_assoc (piece_bytes anchor tail x) (pieces_bytes anchor tail xs) (pieces_bytes anchor tail ys))

-- one piece more
one_more : (anchor tail : ℕ) (xs : List Piece) (x : Piece) → pieces_bytes anchor tail (xs ++ x ∷ []) ≡ pieces_bytes anchor tail xs ++ piece_bytes anchor tail x
one_more anchor tail xs x = pieces_bytes-append anchor tail xs (x ∷ []) ∙ ap (λ (t : List ℕ). pieces_bytes anchor tail xs ++ t) (append-nil (piece_bytes anchor tail x))

pub both : {Asked : List (List ℕ) → Type 0} {anchor : ℕ} {start : Draft} {f g : Draft → Draft} {after_f after_g : Progress → Progress} {adds_f adds_g : Progress → List Piece}
    → Follows Asked anchor start f after_f adds_f → Follows Asked anchor start g after_g adds_g
    → Follows Asked anchor start (λ d. g (f d)) (λ p. after_g (after_f p)) (λ p. adds_f p ++ adds_g (after_f p))
both {Asked} {anchor} {start} {f} {g} {after_f} {after_g} {adds_f} {adds_g} first second = record {
  grows = λ p. omega (arith, first.grows p, second.grows (after_f p));
  renders = λ d p pieces r fits.
      let one = first.renders d p pieces r (omega (arith, second.grows (after_f p), fits)) in
      let two = second.renders (f d) (after_f p) (pieces ++ adds_f p) one fits in
      subst (λ (t : List Piece). Renders Asked anchor start (g (f d)) (after_g (after_f p)) t) (append_assoc pieces (adds_f p) (adds_g (after_f p))) two;
}

-- a piece is put
pub puts_piece : {Asked : List (List ℕ) → Type 0} {anchor : ℕ} {start : Draft} → (x : Piece) (n : ℕ) → length (piece_bytes anchor (size start) x) ≡ n
    → Follows Asked anchor start (λ d. put d (piece_bytes anchor (size start) x)) (λ p. past p n) (λ p. x ∷ [])
puts_piece {Asked} {anchor} {start} x n long = record {
  grows = λ p. omega arith;
  renders = λ d p pieces r fits.
      let more = piece_bytes anchor (size start) x in
      record {
        bytes = ap (λ (t : List ℕ). t ++ more) r.bytes ∙ append_assoc start.bytes (pieces_bytes anchor (size start) pieces) more
            ∙ ap (λ (t : List ℕ). start.bytes ++ t) (sym (one_more anchor (size start) pieces x));
        long = omega (arith, r.long, long, length-append d.bytes more);
        places = r.places;
      };
}

-- bytes that stay
pub puts : {Asked : List (List ℕ) → Type 0} {anchor : ℕ} {start : Draft} → (bytes : List ℕ) (n : ℕ) → length bytes ≡ n
    → Follows Asked anchor start (λ d. put d bytes) (λ p. past p n) (λ p. Plain bytes ∷ [])
puts bytes n long = puts_piece (Plain bytes) n long

-- the same drafts
same_drafts : {Asked : List (List ℕ) → Type 0} {anchor : ℕ} {start : Draft} {f g : Draft → Draft} {after : Progress → Progress} {adds : Progress → List Piece}
    → ((d : Draft) → f d ≡ g d) → Follows Asked anchor start f after adds → Follows Asked anchor start g after adds
same_drafts {Asked} {anchor} {start} {f} {g} {after} {adds} same follows = record {
  grows = follows.grows;
  renders = λ d p pieces r fits. subst (λ (e : Draft). Renders Asked anchor start e (after p) (pieces ++ adds p)) (same d) (follows.renders d p pieces r fits);
}

place_of-append : (xs ys : List PlacedSuffix) (suffix : List (List ℕ)) → place_of (xs ++ ys) suffix ≡ option_or (place_of xs suffix) (place_of ys suffix)
unfolding place_of
place_of-append [] ys suffix = refl
place_of-append (x ∷ xs) ys suffix =
    elim (same_labels x.suffix suffix) as (λ (b : Bool). option_map (λ (q : PlacedSuffix). q.place) (cond b (Some x) (find (λ (q : PlacedSuffix). same_labels q.suffix suffix) (xs ++ ys)))
    ≡ option_or (option_map (λ (q : PlacedSuffix). q.place) (cond b (Some x) (find (λ (q : PlacedSuffix). same_labels q.suffix suffix) xs))) (option_map (λ (q : PlacedSuffix). q.place) (find (λ (q : PlacedSuffix). same_labels q.suffix suffix) ys))) [
      | true ↦ refl
      | false ↦ place_of-append xs ys suffix
    ]

placed_front : (x : PlacedSuffix) (xs : List PlacedSuffix) (suffix : List (List ℕ)) (b : Bool) → same_labels x.suffix suffix ≡ b
    → place_of (x ∷ xs) suffix ≡ option_map (λ (q : PlacedSuffix). q.place) (cond b (Some x) (find (λ (q : PlacedSuffix). same_labels q.suffix suffix) xs))
unfolding place_of
placed_front x xs suffix b is = ap (λ (t : Bool). option_map (λ (q : PlacedSuffix). q.place) (cond t (Some x) (find (λ (q : PlacedSuffix). same_labels q.suffix suffix) xs))) is

pub placed_here : (x : PlacedSuffix) (xs : List PlacedSuffix) (suffix : List (List ℕ)) → same_labels x.suffix suffix ≡ true → place_of (x ∷ xs) suffix ≡ Some x.place
placed_here x xs suffix same = placed_front x xs suffix true same

pub placed_behind : (x : PlacedSuffix) (xs : List PlacedSuffix) (suffix : List (List ℕ)) → same_labels x.suffix suffix ≡ false → place_of (x ∷ xs) suffix ≡ place_of xs suffix
unfolding place_of
placed_behind x xs suffix other = placed_front x xs suffix false other

pub placed_none : (suffix : List (List ℕ)) → place_of [] suffix ≡ None
unfolding place_of
placed_none suffix = refl

map_or : (f : Place → ℕ) (a b : Option Place) → option_map f (option_or a b) ≡ option_or (option_map f a) (option_map f b)
map_or f (Some x) b = refl
map_or f None b = refl

-- an offset and a place for one suffix are one
one_kept : (f : Place → ℕ) (o : OffsetData) (x : PlacedSuffix) (suffix : List (List ℕ)) → o.suffix ≡ x.suffix → o.at ≡ f x.place → earliest (o ∷ []) suffix ≡ option_map f (place_of (x ∷ []) suffix)
one_kept f o x suffix same at =
    elim (same_labels x.suffix suffix) as (λ (b : Bool). same_labels x.suffix suffix ≡ b → earliest (o ∷ []) suffix ≡ option_map f (place_of (x ∷ []) suffix)) [
      | true ↦ λ is. found_front o [] suffix (ap (λ (t : List (List ℕ)). same_labels t suffix) same ∙ is) ∙ ap Some at ∙ sym (ap (option_map f) (placed_here x [] suffix is))
      | false ↦ λ is. passed_front o [] suffix (ap (λ (t : List (List ℕ)). same_labels t suffix) same ∙ is) ∙ none_left suffix ∙ sym (ap (option_map f) (placed_behind x [] suffix is ∙ placed_none suffix))
    ] refl

-- a suffix is kept that is written out next
keeps : {Asked : List (List ℕ) → Type 0} {anchor : ℕ} {start : Draft} → (d : Draft) (p : Progress) (pieces : List Piece) (suffix : List (List ℕ)) → Renders Asked anchor start d p pieces → size start + p.size < 16384
    → Renders Asked anchor start (keep d suffix) (placing p suffix) pieces
keeps {Asked} {anchor} {start} d p pieces suffix r fits =
    let o : OffsetData = record { suffix = suffix; at = size d } in
    let x : PlacedSuffix = record { suffix = suffix; place = InTail p.size } in
    let f = place_at anchor (size start) in
    let kept : (keep d suffix).offsets ≡ d.offsets ++ o ∷ [] = ap (λ (b : Bool). if b then d.offsets ++ o ∷ [] else d.offsets) (lt-ltb (size d) 16384 (omega (arith, r.long, fits))) in
    record {
      bytes = r.bytes;
      long = r.long;
      places = λ t asked.
          ap (λ (ps : List OffsetData). earliest ps t) kept ∙ earliest-append d.offsets (o ∷ []) t
          ∙ (λ i. option_or (r.places t asked i) (one_kept f o x t refl (omega (arith, r.long)) i))
          ∙ sym (map_or f (place_of p.placed t) (place_of (x ∷ []) t)) ∙ ap (option_map f) (sym (place_of-append p.placed (x ∷ []) t));
    }

name_grows : (p : Progress) (name : List (List ℕ)) → p.size + 1 ≤ (past_name p name).size
unfolding past_name
name_grows p [] = omega arith
name_grows p (l ∷ ls) = elim (place_of p.placed (l ∷ ls)) as (λ (o : Option Place). p.size + 1 ≤ (past_or p o (past_name (past_label p l ls) ls)).size) [
  | Some place ↦ omega arith
  | None ↦ omega (arith, name_grows (past_label p l ls) ls)
]

name_renders : {Asked : List (List ℕ) → Type 0} {anchor : ℕ} {start : Draft} → IsClosed Asked → (name : List (List ℕ)) → Asked name → (d : Draft) (p : Progress) (pieces : List Piece) → Renders Asked anchor start d p pieces
    → size start + (past_name p name).size ≤ 16384 → Renders Asked anchor start (put_name d name) (past_name p name) (pieces ++ name_pieces p name)
unfolding past_name name_pieces
name_renders {Asked} {anchor} {start} closed [] asked d p pieces r fits =
    subst (λ (e : Draft). Renders Asked anchor start e (past p 1) (pieces ++ Plain (0 ∷ []) ∷ [])) (sym (at_root d)) ((puts (0 ∷ []) 1 refl).renders d p pieces r fits)
name_renders {Asked} {anchor} {start} closed (l ∷ ls) asked d p pieces r fits =
    let next = past_label p l ls in
    let text = Plain (length l ∷ l) ∷ name_pieces next ls in
    elim (place_of p.placed (l ∷ ls)) as (λ (o : Option Place). place_of p.placed (l ∷ ls) ≡ o → size start + (past_or p o (past_name next ls)).size ≤ 16384
    → Renders Asked anchor start (put_name d (l ∷ ls)) (past_or p o (past_name next ls)) (pieces ++ pieces_or o text)) [
      | Some place ↦ λ is room.
          let at = place_at anchor (size start) place in
          let found : earliest d.offsets (l ∷ ls) ≡ Some at = r.places (l ∷ ls) asked ∙ ap (option_map (place_at anchor (size start))) is in
          subst (λ (e : Draft). Renders Asked anchor start e (past p 2) (pieces ++ Pointer place ∷ [])) (sym (at_offset d l ls at found)) ((puts_piece (Pointer place) 2 refl).renders d p pieces r room)
      | None ↦ λ is room.
          let none : earliest d.offsets (l ∷ ls) ≡ None = r.places (l ∷ ls) asked ∙ ap (option_map (place_at anchor (size start))) is in
          let kept = keeps d p pieces (l ∷ ls) r (omega (arith, name_grows next ls, room)) in
          let labelled = (puts (length l ∷ l) (length l + 1) (omega arith)).renders (keep d (l ∷ ls)) (placing p (l ∷ ls)) pieces kept (omega (arith, name_grows next ls, room)) in
          let rest = name_renders closed ls (closed l ls asked) (put_label (keep d (l ∷ ls)) l) next (pieces ++ Plain (length l ∷ l) ∷ []) labelled room in
          let joined = subst (λ (t : List Piece). Renders Asked anchor start (put_name (put_label (keep d (l ∷ ls)) l) ls) (past_name next ls) t) (append_assoc pieces (Plain (length l ∷ l) ∷ []) (name_pieces next ls)) rest in
          subst (λ (e : Draft). Renders Asked anchor start e (past_name next ls) (pieces ++ text)) (sym (no_offset d l ls none)) joined
    ] refl fits

pub names : {Asked : List (List ℕ) → Type 0} {anchor : ℕ} {start : Draft} → IsClosed Asked → (name : List (List ℕ)) → Asked name
    → Follows Asked anchor start (λ d. put_name d name) (λ p. past_name p name) (λ p. name_pieces p name)
names closed name asked = record {
  grows = λ p. omega (arith, name_grows p name);
  renders = name_renders closed name asked;
}

-- nothing is put
none_put : {Asked : List (List ℕ) → Type 0} {anchor : ℕ} {start : Draft} → Follows Asked anchor start (λ d. d) (λ p. p) (λ p. [])
none_put {Asked} {anchor} {start} = record {
  grows = λ p. omega arith;
  renders = λ d p pieces r fits. subst (λ (t : List Piece). Renders Asked anchor start d p t) (sym (append-nil pieces)) r;
}

put_twice : (d : Draft) (a b : List ℕ) → put d (a ++ b) ≡ put (put d a) b
put_twice d a b = ap (λ (t : List ℕ). record { bytes = t; offsets = d.offsets }) (sym (append_assoc d.bytes a b))

strings_at_once : (d : Draft) (strings : List (List ℕ)) → put d (strings_bytes strings) ≡ put_strings d strings
strings_at_once d [] = ap (λ (t : List ℕ). record { bytes = t; offsets = d.offsets }) (append-nil d.bytes)
strings_at_once d (s ∷ ss) = put_twice d (length s ∷ s) (strings_bytes ss) ∙ strings_at_once (put_string d s) ss

field_follows : {Asked : List (List ℕ) → Type 0} {anchor : ℕ} {start : Draft} → IsClosed Asked → (f : Field) → AsksField Asked f
    → Follows Asked anchor start (λ d. put_field d f) (λ p. past_field p f) (λ p. field_pieces p f)
field_follows closed (Compressed labels) asked = names closed labels asked
field_follows closed (Uncompressed labels) asked = same_drafts (λ d. put_twice d (spelled labels) (0 ∷ [])) (puts (spelled labels ++ 0 ∷ []) (length (spelled labels ++ 0 ∷ [])) refl)
field_follows closed (U8 number) asked = puts (number ∷ []) 1 refl
field_follows closed (U16 number) asked = puts (to_be_bytes w16 number) 2 refl
field_follows closed (U32 number) asked = puts (to_be_bytes w32 number) 4 refl
field_follows closed (U128 number) asked = puts (to_be_bytes w128 number) 16 refl
field_follows closed (CharString text) asked = puts (length text ∷ text) (length text + 1) (omega arith)
field_follows closed (NonEmpty text) asked = puts (length text ∷ text) (length text + 1) (omega arith)
field_follows closed (CharStrings texts) asked = same_drafts (λ d. strings_at_once d texts) (puts (strings_bytes texts) (length (strings_bytes texts)) refl)
field_follows closed (Remainder text) asked = puts text (length text) refl
field_follows closed (Unknown kind text) asked = puts text (length text) refl

fields_follow : {Asked : List (List ℕ) → Type 0} {anchor : ℕ} {start : Draft} → IsClosed Asked → (fs : List Field) → AsksFields Asked fs
    → Follows Asked anchor start (λ d. put_fields d fs) (λ p. past_fields p fs) (λ p. fields_pieces p fs)
fields_follow closed [] asked = none_put
fields_follow closed (f ∷ fs) asked = both (field_follows closed f asked.0) (fields_follow closed fs asked.1)

four_puts : (d : Draft) (k s t l : List ℕ) → put d (k ++ (s ++ (t ++ l))) ≡ put (put (put (put d k) s) t) l
four_puts d k s t l = put_twice d k (s ++ (t ++ l)) ∙ put_twice (put d k) s (t ++ l) ∙ put_twice (put (put d k) s) t l

data_is : (d : Draft) (r : RecordData) → put_fields d (fields_of r.rdata) ≡ put_data d r.rdata
unfolding put_data
data_is d r = refl

-- what stands between the owner of a record and its data
head_follows : {Asked : List (List ℕ) → Type 0} {anchor : ℕ} {start : Draft} → IsClosed Asked → (r : RecordData) (n : ℕ) → Asked r.owner
    → Follows Asked anchor start (λ d. put_u16 (head_of d r) n) (λ p. at_data p r) (λ p. name_pieces p r.owner ++ Plain (head_bytes r n) ∷ [])
head_follows closed r n asked =
    same_drafts (λ d. four_puts (put_name d r.owner) (to_be_bytes w16 (kind_of r.rdata)) (to_be_bytes w16 r.class) (to_be_bytes w32 r.ttl) (to_be_bytes w16 n))
    (both (names closed r.owner asked) (puts (head_bytes r n) 10 refl))

whole_follows : {Asked : List (List ℕ) → Type 0} {anchor : ℕ} {start : Draft} → IsClosed Asked → (r : RecordData) (n : ℕ) → AsksRecord Asked r
    → Follows Asked anchor start (λ d. put_data (put_u16 (head_of d r) n) r.rdata) (λ p. past_fields (at_data p r) (fields_of r.rdata))
    (λ p. (name_pieces p r.owner ++ Plain (head_bytes r n) ∷ []) ++ fields_pieces (at_data p r) (fields_of r.rdata))
whole_follows closed r n asked =
    same_drafts (λ d. data_is (put_u16 (head_of d r) n) r) (both (head_follows closed r n asked.owner) (fields_follow closed (fields_of r.rdata) asked.fields))

record_renders : {Asked : List (List ℕ) → Type 0} {anchor : ℕ} {start : Draft} → IsClosed Asked → (r : RecordData) → AsksRecord Asked r → (d : Draft) (p : Progress) (pieces : List Piece) → Renders Asked anchor start d p pieces
    → size start + (past_record p r).size ≤ 16384 → Renders Asked anchor start (put_record d r) (past_record p r) (pieces ++ record_pieces p r)
unfolding past_record record_pieces
record_renders {Asked} {anchor} {start} closed r asked d p pieces before fits =
    let fs = fields_of r.rdata in
    let behind = past_fields (at_data p r) fs in
    let head = head_of d r in
    let n = behind.size - (at_data p r).size in
    let fields = fields_follow {Asked = Asked} {anchor = anchor} {start = start} closed fs asked.fields in
    let zeros = (head_follows closed r 0 asked.owner).renders d p pieces before (omega (arith, fields.grows (at_data p r), fits)) in
    let filled = (whole_follows closed r 0 asked).renders d p pieces before fits in
    let begun : length (put_u16 head 0).bytes ≡ length head.bytes + 2 = length-append head.bytes (to_be_bytes w16 0) in
    let long : data_size_of head r.rdata ≡ n = omega (arith, length-drop (length head.bytes + 2) (put_data (put_u16 head 0) r.rdata).bytes, filled.long, zeros.long, begun) in
    let whole = (whole_follows closed r n asked).renders d p pieces before fits in
    let same : put_data (put_u16 head n) r.rdata ≡ put_record d r = ap (λ (k : ℕ). put_data (put_u16 head k) r.rdata) (sym long) ∙ sym (record_in_order d r) in
    let order : (name_pieces p r.owner ++ Plain (head_bytes r n) ∷ []) ++ fields_pieces (at_data p r) fs ≡ name_pieces p r.owner ++ (Plain (head_bytes r n) ∷ fields_pieces (at_data p r) fs) =
    append_assoc (name_pieces p r.owner) (Plain (head_bytes r n) ∷ []) (fields_pieces (at_data p r) fs) in
    subst (λ (e : Draft). Renders Asked anchor start e behind (pieces ++ (name_pieces p r.owner ++ (Plain (head_bytes r n) ∷ fields_pieces (at_data p r) fs)))) same
    (subst (λ (t : List Piece). Renders Asked anchor start (put_data (put_u16 head n) r.rdata) behind (pieces ++ t)) order whole)

all_asked : (fs : List Field) → AsksFields (λ name. Unit {0}) fs
all_asked [] = tt
all_asked (Compressed labels ∷ fs) = (tt, all_asked fs)
all_asked (Uncompressed labels ∷ fs) = (tt, all_asked fs)
all_asked (U8 number ∷ fs) = (tt, all_asked fs)
all_asked (U16 number ∷ fs) = (tt, all_asked fs)
all_asked (U32 number ∷ fs) = (tt, all_asked fs)
all_asked (U128 number ∷ fs) = (tt, all_asked fs)
all_asked (CharString text ∷ fs) = (tt, all_asked fs)
all_asked (NonEmpty text ∷ fs) = (tt, all_asked fs)
all_asked (CharStrings texts ∷ fs) = (tt, all_asked fs)
all_asked (Remainder text ∷ fs) = (tt, all_asked fs)
all_asked (Unknown kind text ∷ fs) = (tt, all_asked fs)

record_grows : (p : Progress) (r : RecordData) → p.size ≤ (past_record p r).size
unfolding past_record
record_grows p r =
    let fields = fields_follow {Asked = λ name. Unit {0}} {anchor = 0} {start = record { bytes = []; offsets = [] }} (λ l ls asked. tt) (fields_of r.rdata) (all_asked (fields_of r.rdata)) in
    omega (arith, name_grows p r.owner, fields.grows (at_data p r))

record_follows : {Asked : List (List ℕ) → Type 0} {anchor : ℕ} {start : Draft} → IsClosed Asked → (r : RecordData) → AsksRecord Asked r
    → Follows Asked anchor start (λ d. put_record d r) (λ p. past_record p r) (λ p. record_pieces p r)
record_follows closed r asked = record {
  grows = λ p. record_grows p r;
  renders = record_renders closed r asked;
}

pub records_follow : {Asked : List (List ℕ) → Type 0} {anchor : ℕ} {start : Draft} → IsClosed Asked → (rs : List RecordData) → AsksRecords Asked rs
    → Follows Asked anchor start (λ d. put_records d rs) (λ p. past_records p rs) (λ p. records_pieces p rs)
records_follow closed [] asked = none_put
records_follow closed (r ∷ rs) asked = both (record_follows closed r asked.0) (records_follow closed rs asked.1)

-- a name that doesn't end in the anchor with this label in front of it
abbrev pub IsApart : List ℕ → List (List ℕ) → List (List ℕ) → Type 0
IsApart above anchor name = (front : List (List ℕ)) → name ≡ front ++ (above ∷ anchor) → ⊥

pub apart_closed : (above : List ℕ) (anchor : List (List ℕ)) → IsClosed (IsApart above anchor)
apart_closed above anchor label labels apart front is = apart (label ∷ front) (ap (λ (t : List (List ℕ)). label ∷ t) is)

-- the suffixes of the anchor where it stands in the question
anchor_here : (anchor tail k : ℕ) (ls suffix : List (List ℕ)) → earliest (suffixes_at (anchor + k) ls) suffix ≡ option_map (place_at anchor tail) (place_of (anchor_suffixes k ls) suffix)
unfolding suffixes_at anchor_suffixes
anchor_here anchor tail k [] suffix = none_left suffix ∙ sym (ap (option_map (place_at anchor tail)) (placed_none suffix))
anchor_here anchor tail k (l ∷ ls) suffix =
    let o : OffsetData = record { suffix = l ∷ ls; at = anchor + k } in
    let x : PlacedSuffix = record { suffix = l ∷ ls; place = InAnchor k } in
    let os = suffixes_at (anchor + k + length l + 1) ls in
    let xs = anchor_suffixes (k + length l + 1) ls in
    let f = place_at anchor tail in
    elim (same_labels (l ∷ ls) suffix) as (λ (b : Bool). same_labels (l ∷ ls) suffix ≡ b → earliest (o ∷ os) suffix ≡ option_map f (place_of (x ∷ xs) suffix)) [
      | true ↦ λ is. found_front o os suffix is ∙ sym (ap (option_map f) (placed_here x xs suffix is))
      | false ↦ λ is.
          let at : anchor + k + length l + 1 ≡ anchor + (k + length l + 1) = omega arith in
          passed_front o os suffix is ∙ ap (λ (n : ℕ). earliest (suffixes_at n ls) suffix) at ∙ anchor_here anchor tail (k + length l + 1) ls suffix ∙ sym (ap (option_map f) (placed_behind x xs suffix is))
    ] refl

-- and behind labels of which the last is another than that which any name has in front of the anchor
anchor_behind : (front : List (List ℕ)) (above : List ℕ) (ls : List (List ℕ)) (at tail : ℕ) (suffix : List (List ℕ)) → IsApart above ls suffix
    → earliest (suffixes_at at (front ++ (above ∷ ls))) suffix ≡ option_map (place_at (at + length (spelled front) + length above + 1) tail) (place_of (anchor_suffixes 0 ls) suffix)
unfolding suffixes_at
anchor_behind [] above ls at tail suffix apart =
    let o : OffsetData = record { suffix = above ∷ ls; at = at } in
    let start = at + length above + 1 in
    let same : start + 0 ≡ at + length above + 1 = omega arith in
    passed_front o (suffixes_at start ls) suffix (other_labels (above ∷ ls) suffix (λ e. apart [] (sym e))) ∙ ap (λ (n : ℕ). earliest (suffixes_at n ls) suffix) (sym same) ∙ anchor_here start tail 0 ls suffix
    ∙ ap (λ (n : ℕ). option_map (place_at n tail) (place_of (anchor_suffixes 0 ls) suffix)) (omega arith)
anchor_behind (l ∷ front) above ls at tail suffix apart =
    let o : OffsetData = record { suffix = l ∷ (front ++ (above ∷ ls)); at = at } in
    passed_front o (suffixes_at (at + length l + 1) (front ++ (above ∷ ls))) suffix (other_labels (l ∷ (front ++ (above ∷ ls))) suffix (λ e. apart (l ∷ front) (sym e)))
    ∙ anchor_behind front above ls (at + length l + 1) tail suffix apart
    ∙ ap (λ (n : ℕ). option_map (place_at n tail) (place_of (anchor_suffixes 0 ls) suffix)) (omega (arith, length-append l (spelled front)))

-- a draft that knows the suffixes of the question alone
pub starts_behind : (front : List (List ℕ)) (above : List ℕ) (ls : List (List ℕ)) (start : Draft) → start.offsets ≡ suffixes_at 12 (front ++ (above ∷ ls))
    → Renders (IsApart above ls) (12 + length (spelled front) + length above + 1) start start (begun ls) []
starts_behind front above ls start is = record {
  bytes = sym (append-nil start.bytes);
  long = omega arith;
  places = λ t apart. ap (λ (os : List OffsetData). earliest os t) is ∙ anchor_behind front above ls 12 (size start) t apart;
}

pub starts_at : (ls : List (List ℕ)) (start : Draft) → start.offsets ≡ suffixes_at 12 ls → Renders (λ name. Unit {0}) 12 start start (begun ls) []
starts_at ls start is = record {
  bytes = sym (append-nil start.bytes);
  long = omega arith;
  places = λ t asked. ap (λ (os : List OffsetData). earliest os t) is ∙ ap (λ (n : ℕ). earliest (suffixes_at n ls) t) (omega arith) ∙ anchor_here 12 (size start) 0 ls t;
}

head_or : List ℕ → List (List ℕ) → List ℕ
head_or other [] = other
head_or other (l ∷ ls) = l

-- a name without the label above the anchor is apart
pub lacks_apart : (above : List ℕ) (anchor name : List (List ℕ)) → Lacks above name → IsApart above anchor name
unfolding head_or
lacks_apart above anchor [] lacks [] is = absurd cc
lacks_apart above anchor [] lacks (f ∷ front) is = absurd cc
lacks_apart above anchor (l ∷ ls) lacks [] is = lacks.0 (ap (head_or above) is)
lacks_apart above anchor (l ∷ ls) lacks (f ∷ front) is = lacks_apart above anchor ls lacks.1 front (ap (drop 1) is)

fields_asked : {P Q : List (List ℕ) → Type 0} → ((name : List (List ℕ)) → P name → Q name) → (fs : List Field) → AsksFields P fs → AsksFields Q fs
fields_asked all [] asked = tt
fields_asked all (Compressed labels ∷ fs) asked = (all labels asked.0, fields_asked all fs asked.1)
fields_asked all (Uncompressed labels ∷ fs) asked = (tt, fields_asked all fs asked.1)
fields_asked all (U8 number ∷ fs) asked = (tt, fields_asked all fs asked.1)
fields_asked all (U16 number ∷ fs) asked = (tt, fields_asked all fs asked.1)
fields_asked all (U32 number ∷ fs) asked = (tt, fields_asked all fs asked.1)
fields_asked all (U128 number ∷ fs) asked = (tt, fields_asked all fs asked.1)
fields_asked all (CharString text ∷ fs) asked = (tt, fields_asked all fs asked.1)
fields_asked all (NonEmpty text ∷ fs) asked = (tt, fields_asked all fs asked.1)
fields_asked all (CharStrings texts ∷ fs) asked = (tt, fields_asked all fs asked.1)
fields_asked all (Remainder text ∷ fs) asked = (tt, fields_asked all fs asked.1)
fields_asked all (Unknown kind text ∷ fs) asked = (tt, fields_asked all fs asked.1)

pub record_asked : {P Q : List (List ℕ) → Type 0} → ((name : List (List ℕ)) → P name → Q name) → (r : RecordData) → AsksRecord P r → AsksRecord Q r
record_asked all r asked = record { owner = all r.owner asked.owner; fields = fields_asked all (fields_of r.rdata) asked.fields }

pub records_asked : {P Q : List (List ℕ) → Type 0} → ((name : List (List ℕ)) → P name → Q name) → (rs : List RecordData) → AsksRecords P rs → AsksRecords Q rs
records_asked all [] asked = tt
records_asked all (r ∷ rs) asked = (record_asked all r asked.0, records_asked all rs asked.1)

pub asked-append : (P : List (List ℕ) → Type 0) (xs ys : List RecordData) → AsksRecords P xs → AsksRecords P ys → AsksRecords P (xs ++ ys)
asked-append P [] ys a b = b
asked-append P (x ∷ xs) ys a b = (a.0, asked-append P xs ys a.1 b)
