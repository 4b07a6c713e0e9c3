-- What is put behind a draft depends on how long the draft is, and not on its bytes. So the length of a record's data can be filled in later.
use Rattle.std.proofs.Common.{◌≡◌, ◌≤◌, ℕ, ◌+◌, ◌/◌, ◌%◌, List, [], ◌∷◌, ◌++◌, length, drop, Some, None, refl, sym, ap, ◌∙◌, append_assoc, arith, length-append, length-drop}
use Rattle.std.proofs.lemmas.List.{append-nil, drop-append-le, drop_all, drop_at}
use Rattle.std.specs.Prelude.{nat_lt, if◌then◌else◌, slice_index}
use Rattle.std.specs.Int.{w16, w32, w128, to_be_bytes}
use Rattle.dns_names.specs.Name.{spelled}
use Rattle.dns_data.specs.Record.{RecordData, kind_of, fields_of, Field, Compressed, Uncompressed, U8, U16, U32, U128, CharString, NonEmpty, CharStrings, Remainder, Unknown}
use Rattle.dns_data.specs.declared.record.Rdata.{Rdata}
use Rattle.dns_data.specs.declared.record.Rdata.TheVariants as rdata
use Rattle.dns_write.specs.Written.{Draft, put, put_u16, put_u32, put_label, put_name, put_string, put_strings, put_field, put_fields, put_data, put_record, keep, earliest, with_length}
use Rattle.dns_write.proofs.Drafts.{grown-name, record_by_parts}
use Rattle.dns_write.proofs.Writing.{at_offset, no_offset, at_root}

-- other bytes in place of the first ones
abbrev pub swap : List ℕ → Draft → Draft
swap front d = record { bytes = front ++ drop (length front) d.bytes; offsets = d.offsets }

swap_size : (front : List ℕ) (d : Draft) → length front ≤ length d.bytes → length (front ++ drop (length front) d.bytes) ≡ length d.bytes
swap_size front d inside = omega (arith, length-append front (drop (length front) d.bytes), length-drop (length front) d.bytes)

-- what a function puts behind a draft doesn't depend on its first bytes
record Follows (f : Draft → Draft) : Type 0 where
  grows : (d : Draft) → length d.bytes ≤ length (f d).bytes
  swaps : (front : List ℕ) (d : Draft) → length front ≤ length d.bytes → f (swap front d) ≡ swap front (f d)

both : (f g : Draft → Draft) → Follows f → Follows g → Follows (λ d. g (f d))
both f g p q = record {
  grows = λ d. omega (arith, p.grows d, q.grows (f d));
  swaps = λ front d inside. ap g (p.swaps front d inside) ∙ q.swaps front (f d) (omega (arith, p.grows d, inside));
}

puts : (more : List ℕ) → Follows (λ d. put d more)
puts more = record {
  grows = λ d. omega (arith, length-append d.bytes more);
  swaps = λ front d inside.
      ap (λ (t : List ℕ). record { bytes = t; offsets = d.offsets }) (append_assoc front (drop (length front) d.bytes) more
      ∙ ap (λ (t : List ℕ). front ++ t) (sym (drop-append-le (length front) d.bytes more inside)));
}

swap_keep : (front : List ℕ) (d : Draft) (suffix : List (List ℕ)) → length front ≤ length d.bytes → keep (swap front d) suffix ≡ swap front (keep d suffix)
swap_keep front d suffix inside =
    ap (λ (n : ℕ). record { bytes = front ++ drop (length front) d.bytes; offsets = if nat_lt (12 + n) 16384 then d.offsets ++ record { suffix = suffix; at = 12 + n } ∷ [] else d.offsets }) (swap_size front d inside)

swap_name : (name : List (List ℕ)) (front : List ℕ) (d : Draft) → length front ≤ length d.bytes → put_name (swap front d) name ≡ swap front (put_name d name)
swap_name [] front d inside = at_root (swap front d) ∙ (puts (0 ∷ [])).swaps front d inside ∙ ap (swap front) (sym (at_root d))
swap_name (l ∷ ls) front d inside =
    elim (earliest d.offsets (l ∷ ls)) as (λ o. earliest d.offsets (l ∷ ls) ≡ o → put_name (swap front d) (l ∷ ls) ≡ swap front (put_name d (l ∷ ls))) [
      | Some at ↦ λ is. at_offset (swap front d) l ls at is ∙ (puts ((192 + at / 256) ∷ (at % 256) ∷ [])).swaps front d inside ∙ ap (swap front) (sym (at_offset d l ls at is))
      | None ↦ λ is.
          let after = put_label (keep d (l ∷ ls)) l in
          let kept : put_label (keep (swap front d) (l ∷ ls)) l ≡ swap front after =
          ap (λ (e : Draft). put_label e l) (swap_keep front d (l ∷ ls) inside) ∙ (puts (length l ∷ l)).swaps front (keep d (l ∷ ls)) inside in
          no_offset (swap front d) l ls is ∙ ap (λ (e : Draft). put_name e ls) kept ∙ swap_name ls front after (omega (arith, length-append d.bytes (length l ∷ l))) ∙ ap (swap front) (sym (no_offset d l ls is))
    ] refl

names : (name : List (List ℕ)) → Follows (λ d. put_name d name)
names name = record {
  grows = λ d. let g = grown-name d name in omega (arith, ap length g.bytes, length-append d.bytes g.more);
  swaps = swap_name name;
}

strings_follow : (strings : List (List ℕ)) → Follows (λ d. put_strings d strings)
strings_follow [] = record { grows = λ d. omega arith; swaps = λ front d inside. refl }
strings_follow (s ∷ ss) = both (λ d. put_string d s) (λ d. put_strings d ss) (puts (length s ∷ s)) (strings_follow ss)

field_follows : (f : Field) → Follows (λ d. put_field d f)
field_follows (Compressed labels) = names labels
field_follows (Uncompressed labels) = both (λ d. put d (spelled labels)) (λ d. put d (0 ∷ [])) (puts (spelled labels)) (puts (0 ∷ []))
field_follows (U8 number) = puts (number ∷ [])
field_follows (U16 number) = puts (to_be_bytes w16 number)
field_follows (U32 number) = puts (to_be_bytes w32 number)
field_follows (U128 number) = puts (to_be_bytes w128 number)
field_follows (CharString text) = puts (length text ∷ text)
field_follows (NonEmpty text) = puts (length text ∷ text)
field_follows (CharStrings texts) = strings_follow texts
field_follows (Remainder text) = puts text
field_follows (Unknown kind text) = puts text

fields_follow : (fs : List Field) → Follows (λ d. put_fields d fs)
fields_follow [] = record { grows = λ d. omega arith; swaps = λ front d inside. refl }
fields_follow (f ∷ fs) = both (λ d. put_field d f) (λ d. put_fields d fs) (field_follows f) (fields_follow fs)

data_follows : (r : Rdata) → Follows (λ d. put_data d r)
unfolding put_data
data_follows r = fields_follow (fields_of r)

-- the data behind its own length
abbrev pub data_size_of : Draft → Rdata → ℕ
data_size_of head r = length (drop (length head.bytes + 2) (put_data (put_u16 head 0) r).bytes)

in_order : (head : Draft) (r : Rdata) → with_length head (put_data (put_u16 head 0) r) ≡ put_data (put_u16 head (data_size_of head r)) r
unfolding with_length
in_order head r =
    let k = data_size_of head r in
    let front = head.bytes ++ to_be_bytes w16 k in
    let whole = put_data (put_u16 head 0) r in
    let n : length front ≡ length head.bytes + 2 = length-append head.bytes (to_be_bytes w16 k) in
    let zeros : length (head.bytes ++ to_be_bytes w16 0) ≡ length head.bytes + 2 = length-append head.bytes (to_be_bytes w16 0) in
    let inside : length front ≤ length (head.bytes ++ to_be_bytes w16 0) = omega arith in
    let filled : with_length head whole ≡ swap front whole =
    ap (λ (t : List ℕ). record { bytes = t; offsets = whole.offsets }) (sym (append_assoc head.bytes (to_be_bytes w16 k) (drop (length head.bytes + 2) whole.bytes)) ∙ ap (λ (m : ℕ). front ++ drop m whole.bytes) (sym n)) in
    let none : drop (length front) (head.bytes ++ to_be_bytes w16 0) ≡ [] = drop_all (length front) (head.bytes ++ to_be_bytes w16 0) (omega arith) in
    let begun : swap front (put_u16 head 0) ≡ put_u16 head k = ap (λ (t : List ℕ). record { bytes = t; offsets = head.offsets }) (ap (λ (t : List ℕ). front ++ t) none ∙ append-nil front) in
    filled ∙ sym ((data_follows r).swaps front (put_u16 head 0) inside) ∙ ap (λ (d : Draft). put_data d r) begun

-- the length doesn't change how long the draft is
pub length_in_order : (head : Draft) (r : Rdata) → length (put_data (put_u16 head (data_size_of head r)) r).bytes ≡ length head.bytes + 2 + data_size_of head r
unfolding with_length
length_in_order head r =
    let behind = drop (length head.bytes + 2) (put_data (put_u16 head 0) r).bytes in
    ap (λ (d : Draft). length d.bytes) (sym (in_order head r))
    ∙ omega (arith, length-append head.bytes (to_be_bytes w16 (length behind) ++ behind), length-append (to_be_bytes w16 (length behind)) behind)

-- what stands before the length of a record's data
abbrev pub head_of : Draft → RecordData → Draft
head_of d r = put_u32 (put_u16 (put_u16 (put_name d r.owner) (kind_of r.rdata)) r.class) r.ttl

-- a record, part after part
pub record_in_order : (d : Draft) (r : RecordData) → put_record d r ≡ put_data (put_u16 (head_of d r) (data_size_of (head_of d r) r.rdata)) r.rdata
record_in_order d r = sym (record_by_parts d r) ∙ in_order (head_of d r) r.rdata

-- a record whose data is known, part after part
abbrev pub head_by : Draft → RecordData → Rdata → Draft
head_by d r x = put_u32 (put_u16 (put_u16 (put_name d r.owner) (kind_of x)) r.class) r.ttl

by_data : (d : Draft) (r : RecordData) (x : Rdata) → r.rdata ≡ x → put_record d r ≡ put_data (put_u16 (head_by d r x) (data_size_of (head_by d r x) x)) x
by_data d r x e = record_in_order d r ∙ (λ i. put_data (put_u16 (head_by d r (e i)) (data_size_of (head_by d r (e i)) (e i))) (e i))

bytes_behind : (head : Draft) (bytes : List ℕ) → length (drop (length head.bytes + 2) (put (put_u16 head 0) bytes).bytes) ≡ length bytes
bytes_behind head bytes = ap length (drop_at (head.bytes ++ to_be_bytes w16 0) bytes (length head.bytes + 2) (length-append head.bytes (to_be_bytes w16 0)))

-- the data of an A record has 4 bytes
pub a_record : (d : Draft) (r : RecordData) (addr : ℕ) → r.rdata ≡ rdata.A addr → put_u32 (put_u16 (head_by d r (rdata.A addr)) 4) addr ≡ put_record d r
unfolding put_data
a_record d r addr e =
    let head = head_by d r (rdata.A addr) in
    ap (λ (k : ℕ). put_u32 (put_u16 head k) addr) (sym (bytes_behind head (to_be_bytes w32 addr))) ∙ sym (by_data d r (rdata.A addr) e)

-- that of an AAAA record has 16
pub aaaa_record : (d : Draft) (r : RecordData) (addr : ℕ) → r.rdata ≡ rdata.Aaaa addr → put (put_u16 (head_by d r (rdata.Aaaa addr)) 16) (to_be_bytes w128 addr) ≡ put_record d r
unfolding put_data
aaaa_record d r addr e =
    let head = head_by d r (rdata.Aaaa addr) in
    ap (λ (k : ℕ). put (put_u16 head k) (to_be_bytes w128 addr)) (sym (bytes_behind head (to_be_bytes w128 addr))) ∙ sym (by_data d r (rdata.Aaaa addr) e)

-- what five puts write, one put writes
five_puts : (d : Draft) (k s t l a : List ℕ) → put d (k ++ (s ++ (t ++ (l ++ a)))) ≡ put (put (put (put (put d k) s) t) l) a
five_puts d k s t l a =
    let b = d.bytes in
    let same : b ++ (k ++ (s ++ (t ++ (l ++ a)))) ≡ (((b ++ k) ++ s) ++ t) ++ l ++ a =
    sym (append_assoc b k (s ++ (t ++ (l ++ a)))) ∙ sym (append_assoc (b ++ k) s (t ++ (l ++ a))) ∙ sym (append_assoc ((b ++ k) ++ s) t (l ++ a)) ∙ sym (append_assoc (((b ++ k) ++ s) ++ t) l a) in
    ap (λ (bytes : List ℕ). record { bytes = bytes; offsets = d.offsets }) same

-- the data of an SRV record has 7 bytes beside its target's labels
pub srv_record : (d : Draft) (r : RecordData) (p w port n : ℕ) (target : List (List ℕ)) → r.rdata ≡ rdata.Srv p w port target → n ≡ length (spelled target) + 7
    → put_data (put_u16 (head_by d r (rdata.Srv p w port target)) n) (rdata.Srv p w port target) ≡ put_record d r
unfolding put_data
srv_record d r p w port n target e long =
    let x = rdata.Srv p w port target in
    let head = head_by d r x in
    let at_once = to_be_bytes w16 p ++ (to_be_bytes w16 w ++ (to_be_bytes w16 port ++ (spelled target ++ 0 ∷ []))) in
    let all : put_data (put_u16 head 0) x ≡ put (put_u16 head 0) at_once = sym (five_puts (put_u16 head 0) (to_be_bytes w16 p) (to_be_bytes w16 w) (to_be_bytes w16 port) (spelled target) (0 ∷ [])) in
    let count : length at_once ≡ n = omega (arith, long, length-append (spelled target) (0 ∷ [])) in
    let size : data_size_of head x ≡ n = ap (λ (t : Draft). length (drop (length head.bytes + 2) t.bytes)) all ∙ bytes_behind head at_once ∙ count in
    ap (λ (k : ℕ). put_data (put_u16 head k) x) (sym size) ∙ sym (by_data d r x e)

-- what stands behind the owner of an A record
pub address_at_once : (d : Draft) (k s t a : List ℕ) (kind class ttl addr : ℕ) → k ≡ to_be_bytes w16 kind → s ≡ to_be_bytes w16 class → t ≡ to_be_bytes w32 ttl → a ≡ to_be_bytes w32 addr
    → put d (slice_index k 0 ∷ slice_index k 1 ∷ slice_index s 0 ∷ slice_index s 1 ∷ slice_index t 0 ∷ slice_index t 1 ∷ slice_index t 2 ∷ slice_index t 3 ∷ 0 ∷ 4 ∷ slice_index a 0 ∷ slice_index a 1 ∷ slice_index a 2 ∷ slice_index a 3 ∷ [])
    ≡ put_u32 (put_u16 (put_u32 (put_u16 (put_u16 d kind) class) ttl) 4) addr
address_at_once d k s t a kind class ttl addr ek es et ea =
    (λ i. put d (slice_index (ek i) 0 ∷ slice_index (ek i) 1 ∷ slice_index (es i) 0 ∷ slice_index (es i) 1 ∷ slice_index (et i) 0 ∷ slice_index (et i) 1 ∷ slice_index (et i) 2 ∷ slice_index (et i) 3 ∷ 0 ∷ 4 ∷ slice_index (ea i) 0 ∷ slice_index (ea i) 1 ∷ slice_index (ea i) 2 ∷ slice_index (ea i) 3 ∷ []))
    ∙ five_puts d (to_be_bytes w16 kind) (to_be_bytes w16 class) (to_be_bytes w32 ttl) (to_be_bytes w16 4) (to_be_bytes w32 addr)

-- the numbers behind the names of an SOA record
pub times_at_once : (d : Draft) (a b c e f : List ℕ) (serial refresh retry expire minimum : ℕ) → a ≡ to_be_bytes w32 serial → b ≡ to_be_bytes w32 refresh → c ≡ to_be_bytes w32 retry → e ≡ to_be_bytes w32 expire
    → f ≡ to_be_bytes w32 minimum
    → put d (slice_index a 0 ∷ slice_index a 1 ∷ slice_index a 2 ∷ slice_index a 3 ∷ slice_index b 0 ∷ slice_index b 1 ∷ slice_index b 2 ∷ slice_index b 3 ∷ slice_index c 0 ∷ slice_index c 1 ∷ slice_index c 2 ∷ slice_index c 3 ∷ slice_index e 0 ∷ slice_index e 1 ∷ slice_index e 2 ∷ slice_index e 3 ∷ slice_index f 0 ∷ slice_index f 1 ∷ slice_index f 2 ∷ slice_index f 3 ∷ [])
    ≡ put_u32 (put_u32 (put_u32 (put_u32 (put_u32 d serial) refresh) retry) expire) minimum
times_at_once d a b c e f serial refresh retry expire minimum ea eb ec ee ef =
    (λ i. put d (slice_index (ea i) 0 ∷ slice_index (ea i) 1 ∷ slice_index (ea i) 2 ∷ slice_index (ea i) 3 ∷ slice_index (eb i) 0 ∷ slice_index (eb i) 1 ∷ slice_index (eb i) 2 ∷ slice_index (eb i) 3 ∷ slice_index (ec i) 0 ∷ slice_index (ec i) 1 ∷ slice_index (ec i) 2 ∷ slice_index (ec i) 3 ∷ slice_index (ee i) 0 ∷ slice_index (ee i) 1 ∷ slice_index (ee i) 2 ∷ slice_index (ee i) 3 ∷ slice_index (ef i) 0 ∷ slice_index (ef i) 1 ∷ slice_index (ef i) 2 ∷ slice_index (ef i) 3 ∷ []))
    ∙ five_puts d (to_be_bytes w32 serial) (to_be_bytes w32 refresh) (to_be_bytes w32 retry) (to_be_bytes w32 expire) (to_be_bytes w32 minimum)

-- what stands between the owner of an SRV record and its target
pub service_at_once : (d : Draft) (k s t l a b c : List ℕ) (kind class ttl length p w port : ℕ) → k ≡ to_be_bytes w16 kind → s ≡ to_be_bytes w16 class → t ≡ to_be_bytes w32 ttl → l ≡ to_be_bytes w16 length
    → a ≡ to_be_bytes w16 p → b ≡ to_be_bytes w16 w → c ≡ to_be_bytes w16 port
    → put d (slice_index k 0 ∷ slice_index k 1 ∷ slice_index s 0 ∷ slice_index s 1 ∷ slice_index t 0 ∷ slice_index t 1 ∷ slice_index t 2 ∷ slice_index t 3 ∷ slice_index l 0 ∷ slice_index l 1 ∷ slice_index a 0 ∷ slice_index a 1 ∷ slice_index b 0 ∷ slice_index b 1 ∷ slice_index c 0 ∷ slice_index c 1 ∷ [])
    ≡ put_u16 (put_u16 (put_u16 (put_u16 (put_u32 (put_u16 (put_u16 d kind) class) ttl) length) p) w) port
service_at_once d k s t l a b c kind class ttl n p w port ek es et el ea eb ec =
    let numbers = to_be_bytes w16 p ++ (to_be_bytes w16 w ++ to_be_bytes w16 port) in
    let head = put_u16 (put_u32 (put_u16 (put_u16 d kind) class) ttl) n in
    let three : put head numbers ≡ put_u16 (put_u16 (put_u16 head p) w) port =
    ap (λ (bytes : List ℕ). record { bytes = bytes; offsets = d.offsets }) (sym (append_assoc head.bytes (to_be_bytes w16 p) (to_be_bytes w16 w ++ to_be_bytes w16 port)) ∙ sym (append_assoc (head.bytes ++ to_be_bytes w16 p) (to_be_bytes w16 w) (to_be_bytes w16 port))) in
    (λ i. put d (slice_index (ek i) 0 ∷ slice_index (ek i) 1 ∷ slice_index (es i) 0 ∷ slice_index (es i) 1 ∷ slice_index (et i) 0 ∷ slice_index (et i) 1 ∷ slice_index (et i) 2 ∷ slice_index (et i) 3 ∷ slice_index (el i) 0 ∷ slice_index (el i) 1 ∷ slice_index (ea i) 0 ∷ slice_index (ea i) 1 ∷ slice_index (eb i) 0 ∷ slice_index (eb i) 1 ∷ slice_index (ec i) 0 ∷ slice_index (ec i) 1 ∷ []))
    ∙ five_puts d (to_be_bytes w16 kind) (to_be_bytes w16 class) (to_be_bytes w32 ttl) (to_be_bytes w16 n) numbers
    ∙ three
