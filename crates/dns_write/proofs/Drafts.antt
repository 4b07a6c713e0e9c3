-- How drafts grow: bytes and offsets are only put behind those that are there.
use Rattle.std.proofs.Common.{◌≡◌, ◌≤◌, ℕ, ◌+◌, ◌-◌, true, false, List, [], ◌∷◌, ◌++◌, length, take, drop, Option, Some, None, refl, sym, ap, ◌∙◌, append_assoc, arith, length-append, length-drop}
use Rattle.std.proofs.lemmas.List.{append-nil, take_at, drop-drop, drop-take, drop-append-le, length-take}
use Rattle.std.specs.Prelude.{◌/◌, ◌%◌, nat_lt, if◌then◌else◌}
use Rattle.std.specs.Int.{w16, w32, w128, to_be_bytes}
use Rattle.dns_names.specs.Name.{spelled, wire_length}
use Rattle.dns_names.specs.NameLaws.{length-spelled}
use Rattle.dns_data.specs.Record.{RecordData, kind_of, fields_of, data_length, strings_length, names_length, names_among, texts_length, Field, Compressed, Uncompressed, U8, U16, U32, U128, CharString, NonEmpty, CharStrings, Remainder, Unknown}
use Rattle.dns_data.specs.declared.message.Question.{Question}
use Rattle.dns_data.specs.declared.record.Rdata.{Rdata}
use Rattle.dns_write.specs.Written.{Draft, OffsetData, put, put_u16, put_u32, put_label, put_name, put_whole, put_question, put_string, put_strings, put_fields, put_data, put_record, keep, earliest, pointer_or, with_length}

-- the second draft has at least so many more bytes than the first, at most so many, and the first is its front
pub record Grown (d e : Draft) (least most : ℕ) : Type 0 where
  pub more : List ℕ
  pub others : List OffsetData
  pub bytes : e.bytes ≡ d.bytes ++ more
  pub offsets : e.offsets ≡ d.offsets ++ others
  pub low : least ≤ length more
  pub high : length more ≤ most

-- one growth behind another
pub chain : {d e f : Draft} {a b x y : ℕ} → Grown d e a x → Grown e f b y → Grown d f (a + b) (x + y)
chain {d} {e} {f} p q = record {
  more = p.more ++ q.more;
  others = p.others ++ q.others;
  bytes = q.bytes ∙ ap (λ (t : List ℕ). t ++ q.more) p.bytes ∙ append_assoc d.bytes p.more q.more;
  offsets = q.offsets ∙ ap (λ (t : List OffsetData). t ++ q.others) p.offsets ∙ append_assoc d.offsets p.others q.others;
  low = omega (arith, p.low, q.low, length-append p.more q.more);
  high = omega (arith, p.high, q.high, length-append p.more q.more);
}

-- within wider bounds
pub within : {d e : Draft} {a b x y : ℕ} → Grown d e a x → b ≤ a → x ≤ y → Grown d e b y
within p low high = record { more = p.more; others = p.others; bytes = p.bytes; offsets = p.offsets; low = omega (arith, p.low); high = omega (arith, p.high) }

pub grown-put : (d : Draft) (bytes : List ℕ) (n : ℕ) → length bytes ≡ n → Grown d (put d bytes) n n
grown-put d bytes n e = record { more = bytes; others = []; bytes = refl; offsets = sym (append-nil d.offsets); low = omega arith; high = omega arith }

pub grown-keep : (d : Draft) (suffix : List (List ℕ)) → Grown d (keep d suffix) 0 0
grown-keep d suffix = elim (nat_lt (12 + length d.bytes) 16384) as (λ t. Grown d (record { bytes = d.bytes; offsets = if t then d.offsets ++ record { suffix = suffix; at = 12 + length d.bytes } ∷ [] else d.offsets }) 0 0) [
  | true ↦ record { more = []; others = record { suffix = suffix; at = 12 + length d.bytes } ∷ []; bytes = sym (append-nil d.bytes); offsets = refl; low = omega arith; high = omega arith }
  | false ↦ record { more = []; others = []; bytes = sym (append-nil d.bytes); offsets = sym (append-nil d.offsets); low = omega arith; high = omega arith }
]

grown_or : (d : Draft) (at : Option ℕ) (other : Draft) (most : ℕ) → 2 ≤ most → Grown d other 1 most → Grown d (pointer_or d at other) 1 most
grown_or d (Some at) other most room p = within (grown-put d ((192 + at / 256) ∷ (at % 256) ∷ []) 2 refl) (omega arith) room
grown_or d None other most room p = p

wire_length_least : (ls : List (List ℕ)) → 1 ≤ wire_length ls
wire_length_least [] = omega arith
wire_length_least (l ∷ ls) = omega (arith, wire_length_least ls)

pub grown-name : (d : Draft) (name : List (List ℕ)) → Grown d (put_name d name) 1 (wire_length name)
unfolding put_name
grown-name d [] = grown-put d (0 ∷ []) 1 refl
grown-name d (l ∷ ls) =
    let label : Grown (keep d (l ∷ ls)) (put_label (keep d (l ∷ ls)) l) (length l + 1) (length l + 1) = grown-put (keep d (l ∷ ls)) (length l ∷ l) (length l + 1) (omega arith) in
    let rest = grown-name (put_label (keep d (l ∷ ls)) l) ls in
    let whole : Grown d (put_name (put_label (keep d (l ∷ ls)) l) ls) 1 (wire_length (l ∷ ls)) = within (chain (chain (grown-keep d (l ∷ ls)) label) rest) (omega arith) (omega arith) in
    grown_or d (earliest d.offsets (l ∷ ls)) (put_name (put_label (keep d (l ∷ ls)) l) ls) (wire_length (l ∷ ls)) (omega (arith, wire_length_least ls)) whole

pub grown-whole : (d : Draft) (name : List (List ℕ)) → Grown d (put_whole d name) 1 (wire_length name)
grown-whole d name =
    let size = length-spelled name in
    within (chain (grown-put d (spelled name) (length (spelled name)) refl) (grown-put (put d (spelled name)) (0 ∷ []) 1 refl)) (omega arith) (omega (arith, size))

pub grown-question : (d : Draft) (q : Question) → Grown d (put_question d q) 5 (wire_length q.name + 4)
unfolding put_question
grown-question d q =
    within (chain (chain (grown-name d q.name) (grown-put (put_name d q.name) (to_be_bytes w16 q.kind) 2 refl)) (grown-put (put_u16 (put_name d q.name) q.kind) (to_be_bytes w16 q.class) 2 refl)) (omega arith) (omega arith)

grown-strings : (d : Draft) (strings : List (List ℕ)) → Grown d (put_strings d strings) 0 (strings_length strings)
grown-strings d [] = record { more = []; others = []; bytes = sym (append-nil d.bytes); offsets = sym (append-nil d.offsets); low = omega arith; high = omega arith }
grown-strings d (s ∷ ss) = within (chain (grown-put d (length s ∷ s) (length s + 1) (omega arith)) (grown-strings (put_string d s) ss)) (omega arith) (omega arith)

pub grown-fields : (d : Draft) (fs : List Field) → Grown d (put_fields d fs) 0 (names_length (names_among fs) + texts_length fs)
grown-fields d [] = record { more = []; others = []; bytes = sym (append-nil d.bytes); offsets = sym (append-nil d.offsets); low = omega arith; high = omega arith }
grown-fields d (Compressed labels ∷ fs) = within (chain (grown-name d labels) (grown-fields (put_name d labels) fs)) (omega arith) (omega arith)
grown-fields d (Uncompressed labels ∷ fs) = within (chain (grown-whole d labels) (grown-fields (put_whole d labels) fs)) (omega arith) (omega arith)
grown-fields d (U8 number ∷ fs) = within (chain (grown-put d (number ∷ []) 1 refl) (grown-fields (put d (number ∷ [])) fs)) (omega arith) (omega arith)
grown-fields d (U16 number ∷ fs) = within (chain (grown-put d (to_be_bytes w16 number) 2 refl) (grown-fields (put_u16 d number) fs)) (omega arith) (omega arith)
grown-fields d (U32 number ∷ fs) = within (chain (grown-put d (to_be_bytes w32 number) 4 refl) (grown-fields (put_u32 d number) fs)) (omega arith) (omega arith)
grown-fields d (U128 number ∷ fs) =
    within (chain (grown-put d (to_be_bytes w128 number) 16 refl) (grown-fields (put d (to_be_bytes w128 number)) fs)) (omega arith) (omega arith)
grown-fields d (CharString text ∷ fs) =
    within (chain (grown-put d (length text ∷ text) (length text + 1) (omega arith)) (grown-fields (put_string d text) fs)) (omega arith) (omega arith)
grown-fields d (NonEmpty text ∷ fs) =
    within (chain (grown-put d (length text ∷ text) (length text + 1) (omega arith)) (grown-fields (put_string d text) fs)) (omega arith) (omega arith)
grown-fields d (CharStrings texts ∷ fs) = within (chain (grown-strings d texts) (grown-fields (put_strings d texts) fs)) (omega arith) (omega arith)
grown-fields d (Remainder text ∷ fs) = within (chain (grown-put d text (length text) refl) (grown-fields (put d text) fs)) (omega arith) (omega arith)
grown-fields d (Unknown kind text ∷ fs) = within (chain (grown-put d text (length text) refl) (grown-fields (put d text) fs)) (omega arith) (omega arith)

pub grown-data : (d : Draft) (r : Rdata) → Grown d (put_data d r) 0 (data_length r)
unfolding put_data
grown-data d r = grown-fields d (fields_of r)

-- the length stands in the two bytes before the data
pub grown-length : (d e : Draft) (most : ℕ) → Grown (put_u16 d 0) e 0 most → Grown d (with_length d e) 2 (most + 2)
unfolding with_length
grown-length d e most p =
    let behind = drop (length d.bytes + 2) e.bytes in
    let whole : length e.bytes ≡ length d.bytes + 2 + length p.more = ap length p.bytes ∙ omega (arith, length-append (d.bytes ++ 0 ∷ 0 ∷ []) p.more, length-append d.bytes (0 ∷ 0 ∷ [])) in
    let size : length behind ≡ length p.more = omega (arith, length-drop (length d.bytes + 2) e.bytes, whole) in
    record {
      more = to_be_bytes w16 (length behind) ++ behind;
      others = p.others;
      bytes = refl;
      offsets = p.offsets;
      low = omega (arith, length-append (to_be_bytes w16 (length behind)) behind);
      high = omega (arith, size, p.high, length-append (to_be_bytes w16 (length behind)) behind);
    }

-- the two bytes before the data are filled
pub filled : (d e : Draft) (at : ℕ) (most : ℕ) → at ≡ length d.bytes + 14 → Grown (put_u16 d 0) e 0 most
    → record { bytes = take (at - 14) e.bytes ++ (to_be_bytes w16 (12 + length e.bytes - at) ++ drop (at - 12) e.bytes); offsets = e.offsets } ≡ with_length d e
unfolding with_length
filled d e at most is p =
    let n = length d.bytes in
    let front : take n e.bytes ≡ d.bytes = ap (take n) (p.bytes ∙ append_assoc d.bytes (0 ∷ 0 ∷ []) p.more) ∙ take_at d.bytes (0 ∷ 0 ∷ p.more) n refl in
    let whole : length e.bytes ≡ n + 2 + length p.more = ap length p.bytes ∙ omega (arith, length-append (d.bytes ++ 0 ∷ 0 ∷ []) p.more, length-append d.bytes (0 ∷ 0 ∷ [])) in
    let a : at - 14 ≡ n = omega arith in
    let b : at - 12 ≡ n + 2 = omega arith in
    let c : 12 + length e.bytes - at ≡ length (drop (n + 2) e.bytes) = omega (arith, whole, length-drop (n + 2) e.bytes) in
    let one : take (at - 14) e.bytes ≡ d.bytes = ap (λ (k : ℕ). take k e.bytes) a ∙ front in
    λ i. record { bytes = one i ++ (to_be_bytes w16 (c i) ++ drop (b i) e.bytes); offsets = e.offsets }

-- behind the header the same bytes change
pub fills : (out new at_bytes : List ℕ) (at : ℕ) → 14 ≤ at → at ≤ length out → length at_bytes ≡ 2 → new ≡ take (at - 2) out ++ (at_bytes ++ drop (at - 2 + length at_bytes) out)
    → drop 12 new ≡ take (at - 14) (drop 12 out) ++ (at_bytes ++ drop (at - 12) (drop 12 out))
fills out new at_bytes at low inside two is =
    let long : 12 ≤ length (take (at - 2) out) = omega (arith, length-take (at - 2) out) in
    let order : at - 2 ≡ 12 + (at - 14) = omega arith in
    let front : drop 12 (take (at - 2) out) ≡ take (at - 14) (drop 12 out) = ap (λ (n : ℕ). drop 12 (take n out)) order ∙ drop-take 12 (at - 14) out in
    let back : drop (at - 2 + length at_bytes) out ≡ drop (at - 12) (drop 12 out) = ap (λ (n : ℕ). drop n out) (omega arith) ∙ sym (drop-drop (at - 12) 12 out) in
    ap (drop 12) is ∙ drop-append-le 12 (take (at - 2) out) (at_bytes ++ drop (at - 2 + length at_bytes) out) long ∙ (λ i. front i ++ (at_bytes ++ back i))

-- a record takes at least 11 bytes
pub grown-record : (d : Draft) (r : RecordData) → Grown d (put_record d r) 11 (wire_length r.owner + data_length r.rdata + 10)
unfolding put_record
grown-record d r =
    let name = put_name d r.owner in
    let one = chain (grown-name d r.owner) (grown-put name (to_be_bytes w16 (kind_of r.rdata)) 2 refl) in
    let two = chain one (grown-put (put_u16 name (kind_of r.rdata)) (to_be_bytes w16 r.class) 2 refl) in
    let three = chain two (grown-put (put_u16 (put_u16 name (kind_of r.rdata)) r.class) (to_be_bytes w32 r.ttl) 4 refl) in
    let head = put (put_u16 (put_u16 name (kind_of r.rdata)) r.class) (to_be_bytes w32 r.ttl) in
    within (chain three (grown-length head (put_data (put_u16 head 0) r.rdata) (data_length r.rdata) (grown-data (put_u16 head 0) r.rdata))) (omega arith) (omega arith)

-- what was put behind a draft is taken back
pub taken_back : {d e : Draft} {least most : ℕ} (bytes offsets : ℕ) → Grown d e least most → bytes ≡ 12 + length d.bytes → offsets ≡ length d.offsets
    → record { bytes = take (bytes - 12) e.bytes; offsets = take offsets e.offsets } ≡ d
taken_back {d} {e} bytes offsets p b l =
    let n : bytes - 12 ≡ length d.bytes = omega arith in
    let front : take (bytes - 12) e.bytes ≡ d.bytes = ap (λ (k : ℕ). take k e.bytes) n ∙ ap (take (length d.bytes)) p.bytes ∙ take_at d.bytes p.more (length d.bytes) refl in
    let known : take offsets e.offsets ≡ d.offsets = ap (λ (k : ℕ). take k e.offsets) l ∙ ap (take (length d.offsets)) p.offsets ∙ take_at d.offsets p.others (length d.offsets) refl in
    λ i. record { bytes = front i; offsets = known i }

-- how much longer a draft is with data behind it
pub data_size : (d e : Draft) (r : Rdata) → e ≡ put_data d r → (length d.bytes ≤ length e.bytes) × (length e.bytes ≤ length d.bytes + data_length r)
data_size d e r is =
    let g = grown-data d r in
    let size : length e.bytes ≡ length d.bytes + length g.more = ap (λ (t : Draft). length t.bytes) is ∙ ap length g.bytes ∙ length-append d.bytes g.more in
    (omega arith, omega (arith, g.high))

-- a record by its parts
pub record_by_parts : (d : Draft) (r : RecordData) → let head = put (put_u16 (put_u16 (put_name d r.owner) (kind_of r.rdata)) r.class) (to_be_bytes w32 r.ttl) in with_length head (put_data (put_u16 head 0) r.rdata) ≡ put_record d r
unfolding put_record
record_by_parts d r = refl

-- without bytes a draft stays
pub put_none : (d : Draft) (bytes : List ℕ) → length bytes ≡ 0 → d ≡ put d bytes
put_none d [] none = ap (λ (t : List ℕ). record { bytes = t; offsets = d.offsets }) (sym (append-nil d.bytes))
put_none d (b ∷ bytes) none = absurd (omega arith)
