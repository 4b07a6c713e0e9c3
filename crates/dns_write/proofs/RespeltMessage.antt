-- A message that was written is spelt by its bytes.
use Rattle.std.proofs.Common.{◌≡◌, ◌≤◌, ◌<◌, ℕ, ◌+◌, ◌*◌, ◌/◌, ◌%◌, ◌^◌, Bool, true, false, List, [], ◌∷◌, ◌++◌, length, take, slice_index, Option, Some, None, refl, sym, ap, subst, ◌∙◌, arith, length-append, length-drop}
use Rattle.std.proofs.lemmas.List.{append-nil, length-take}
use Rattle.std.proofs.lemmas.Bool.{lt-ltb}
use Rattle.std.specs.Prelude.{if◌then◌else◌, ◌==◌, IfSome}
use Rattle.std.specs.List.{AllByRecursion}
use Rattle.std.specs.Int.{w16, w32, to_be_bytes}
use Rattle.dns_names.specs.Name.{IsName}
use Rattle.dns_data.specs.Record.{RecordData, IsProper, NumbersFit, kind_of, data_length}
use Rattle.dns_data.specs.declared.record.Rdata.{Rdata}
use Rattle.dns_data.specs.declared.record.Rdata.TheVariants as rdata
use Rattle.dns_wire.specs.Data.{DataAt}
use Rattle.dns_data.specs.Message.{MessageData, AreCodes}
use Rattle.dns_data.specs.declared.message.Question.{Question}
use Rattle.dns_data.specs.declared.message.Opt.{Opt}
use Rattle.dns_wire.specs.Wire.{u16_at, u32_at, flag_at}
use Rattle.dns_wire.specs.Wire.NameAt.{root}
use Rattle.dns_wire.specs.Records.{RecordAt, OptAt, SectionAt, ttl_at}
use Rattle.dns_wire.specs.Records.SectionAt.{no_more, rr, options}
use Rattle.dns_wire.specs.Spells.{HeaderIs, QuestionAt, Spells}
use Rattle.dns_write.specs.Written.{Draft, IsLongest, empty, size, put_u16, put_name, put_question, put_data, put_record, put_records, bit, opt_bytes, opt_count, header, body, untruncated, truncated, kept, records_of}
use Rattle.dns_write.specs.Putting.{OptFits, QuestionFits}
use Rattle.dns_write.proofs.Standing.{Stands, size_of, left, right, moved, index, u16_here, u32_here}
use Rattle.dns_write.proofs.Respelt.{OffsetsSpelt, whole_name, offsets_name, offsets_put}
use Rattle.dns_write.proofs.RespeltData.{put_size, here, before, data_spelt, offsets_data, front_of_data}
use Rattle.dns_write.proofs.Drafts.{grown-data, grown-record}
use Rattle.dns_write.proofs.Swaps.{data_size_of, head_of, length_in_order, record_in_order}
use Rattle.dns_write.proofs.Truncating.{put_records-append, length-header, records-truncated, kept_is, truncated_all}

-- a TTL below 2^31 is read as it is
ttl_is : (bytes : List ℕ) (at ttl : ℕ) → ttl < 2 ^ 31 → ttl ≡ u32_at bytes at → ttl ≡ ttl_at bytes at
ttl_is bytes at ttl small is =
    let low : u32_at bytes at < 2 ^ 31 = omega (arith, is) in
    is ∙ ap (λ (b : Bool). if b then u32_at bytes at else 0) (sym (lt-ltb (u32_at bytes at) (2 ^ 31) low))

-- a record's length has room in 16 bits
data_fits : (head : Draft) (r : RecordData) → data_length r.rdata ≤ 65535 → data_size_of head r.rdata < 2 ^ 16
data_fits head r short =
    let g = grown-data (put_u16 head 0) r.rdata in
    let e = put_data (put_u16 head 0) r.rdata in
    let n : length (head.bytes ++ to_be_bytes w16 0) ≡ length head.bytes + 2 = length-append head.bytes (to_be_bytes w16 0) in
    let whole : length e.bytes ≡ length head.bytes + 2 + length g.more = ap length g.bytes ∙ omega (arith, n, length-append (head.bytes ++ to_be_bytes w16 0) g.more) in
    omega (arith, whole, g.high, length-drop (length head.bytes + 2) e.bytes)

kind_fits : (r : Rdata) → NumbersFit r → kind_of r < 2 ^ 16
kind_fits (rdata.Opaque kind bytes) fits = fits.0
kind_fits r fits = omega arith

pub record_spelt : (bytes : List ℕ) (d : Draft) (r : RecordData) → IsProper r → OffsetsSpelt bytes d → Stands bytes 12 (put_record d r).bytes
    → RecordAt bytes (size d) r (size (put_record d r)) × OffsetsSpelt bytes (put_record d r)
record_spelt bytes d r p known s =
    let a = put_name d r.owner in
    let b = put_u16 a (kind_of r.rdata) in
    let c = put_u16 b r.class in
    let head = head_of d r in
    let n = data_size_of head r.rdata in
    let e = put_u16 head n in
    let f = put_data e r.rdata in
    let is : put_record d r ≡ f = record_in_order d r in
    let sf : Stands bytes 12 f.bytes = subst (λ (g : Draft). Stands bytes 12 g.bytes) is s in
    let se = front_of_data bytes e r.rdata sf in
    let sh = before head (to_be_bytes w16 n) se in
    let sc = before c (to_be_bytes w32 r.ttl) sh in
    let sb = before b (to_be_bytes w16 r.class) sc in
    let sa = before a (to_be_bytes w16 (kind_of r.rdata)) sb in
    let nb = put_size a (to_be_bytes w16 (kind_of r.rdata)) 2 refl in
    let nc = put_size b (to_be_bytes w16 r.class) 2 refl in
    let nh = put_size c (to_be_bytes w32 r.ttl) 4 refl in
    let ne = put_size head (to_be_bytes w16 n) 2 refl in
    let count = u16_here n (data_fits head r p.rdata.short) (moved (size a + 8) (here head (to_be_bytes w16 n) se) (omega arith)) in
    let end : size f ≡ size a + 10 + u16_at bytes (size a + 8) = omega (arith, length_in_order head r.rdata, count) in
    let offsets = offsets_put bytes head (to_be_bytes w16 n) (offsets_put bytes c (to_be_bytes w32 r.ttl) (offsets_put bytes b (to_be_bytes w16 r.class)
    (offsets_put bytes a (to_be_bytes w16 (kind_of r.rdata)) (offsets_name bytes d r.owner p.owner known sa)))) in
    let where_data : size e ≡ size a + 10 = omega arith in
    let spelt : RecordAt bytes (size d) r (size f) = record {
      middle = size a;
      owner = whole_name bytes d r.owner p.owner known sa;
      ends = record { behind_is = end; inside = size_of sf };
      kind = u16_here (kind_of r.rdata) (kind_fits r.rdata p.rdata.numbers) (here a (to_be_bytes w16 (kind_of r.rdata)) sb);
      class = u16_here r.class p.class (moved (size a + 2) (here b (to_be_bytes w16 r.class) sc) (omega arith));
      ttl = ttl_is bytes (size a + 4) r.ttl p.ttl (u32_here r.ttl (omega (arith, p.ttl)) (moved (size a + 4) (here c (to_be_bytes w32 r.ttl) sh) (omega arith)));
      rdata = subst (λ (k : ℕ). DataAt bytes k r.rdata (size f)) where_data (data_spelt bytes e r.rdata p.rdata offsets sf);
    } in
    (subst (λ (g : Draft). RecordAt bytes (size d) r (size g)) (sym is) spelt, subst (OffsetsSpelt bytes) (sym is) (offsets_data bytes e r.rdata p.rdata offsets sf))

front_of_record : (bytes : List ℕ) (d : Draft) (r : RecordData) → Stands bytes 12 (put_record d r).bytes → Stands bytes 12 d.bytes
front_of_record bytes d r s = let g = grown-record d r in left d.bytes g.more (rw g.bytes at s)

pub front_of_records : (bytes : List ℕ) (d : Draft) (rs : List RecordData) → Stands bytes 12 (put_records d rs).bytes → Stands bytes 12 d.bytes
front_of_records bytes d [] s = s
front_of_records bytes d (r ∷ rs) s = front_of_record bytes d r (front_of_records bytes (put_record d r) rs s)

-- the records of a section, and what is behind them
pub section_spelt : (bytes : List ℕ) (d : Draft) (rs : List RecordData) (count rest : ℕ) (opt : Option Opt) (behind : ℕ) → AllByRecursion IsProper rs → OffsetsSpelt bytes d → Stands bytes 12 (put_records d rs).bytes
    → count ≡ length rs + rest → SectionAt bytes rest (size (put_records d rs)) [] opt behind → SectionAt bytes count (size d) rs opt behind
section_spelt bytes d [] count rest opt behind all known s e more = let same : rest ≡ count = omega arith in subst (λ (n : ℕ). SectionAt bytes n (size d) [] opt behind) same more
section_spelt bytes d (r ∷ rs) count rest opt behind all known s e more =
    let first = record_spelt bytes d r all.0 known (front_of_records bytes (put_record d r) rs s) in
    rr {left = length rs + rest} (omega arith) first.0 (section_spelt bytes (put_record d r) rs (length rs + rest) rest opt behind all.1 first.1 s refl more)

pub offsets_records : (bytes : List ℕ) (d : Draft) (rs : List RecordData) → AllByRecursion IsProper rs → OffsetsSpelt bytes d → Stands bytes 12 (put_records d rs).bytes → OffsetsSpelt bytes (put_records d rs)
offsets_records bytes d [] all known s = known
offsets_records bytes d (r ∷ rs) all known s =
    let first = record_spelt bytes d r all.0 known (front_of_records bytes (put_record d r) rs s) in
    offsets_records bytes (put_record d r) rs all.1 first.1 s

-- a bit that was set in a byte
flag : (bytes : List ℕ) (at offset : ℕ) (b : Bool) → slice_index bytes at / 2 ^ offset % 2 ≡ bit b → b ≡ flag_at bytes at offset
flag bytes at offset true e = ap (λ (n : ℕ). n == 1) (sym e)
flag bytes at offset false e = ap (λ (n : ℕ). n == 1) (sym e)

bit_small : (b : Bool) → bit b ≤ 1
bit_small true = omega arith
bit_small false = omega arith

opt_spelt : (bytes : List ℕ) (at : ℕ) (o : Opt) → OptFits o → Stands bytes at (opt_bytes (Some o)) → OptAt bytes at o (at + 11)
unfolding opt_bytes
opt_spelt bytes at o fits s =
    let root_byte = index s 0 at (omega arith) (omega arith) in
    let a : slice_index bytes (at + 1) ≡ 0 = index s 1 (at + 1) refl (omega arith) in
    let b : slice_index bytes (at + 1 + 1) ≡ 41 = index s 2 (at + 1 + 1) (omega arith) (omega arith) in
    let c : slice_index bytes (at + 1 + 2) ≡ o.size / 256 % 256 = index s 3 (at + 1 + 2) (omega arith) (omega arith) in
    let d : slice_index bytes (at + 1 + 2 + 1) ≡ o.size % 256 = index s 4 (at + 1 + 2 + 1) (omega arith) (omega arith) in
    let e : slice_index bytes (at + 1 + 4) ≡ o.ext = index s 5 (at + 1 + 4) (omega arith) (omega arith) in
    let f : slice_index bytes (at + 1 + 5) ≡ o.version = index s 6 (at + 1 + 5) (omega arith) (omega arith) in
    let g : slice_index bytes (at + 1 + 6) ≡ 128 * bit o.dnssec = index s 7 (at + 1 + 6) (omega arith) (omega arith) in
    let h : slice_index bytes (at + 1 + 8) ≡ 0 = index s 9 (at + 1 + 8) (omega arith) (omega arith) in
    let k : slice_index bytes (at + 1 + 8 + 1) ≡ 0 = index s 10 (at + 1 + 8 + 1) (omega arith) (omega arith) in
    let end : at + 11 ≡ at + 1 + 10 + u16_at bytes (at + 1 + 8) = omega arith in
    let whole = size_of s in
    let small = bit_small o.dnssec in
    record {
      middle = at + 1;
      owner = record { proper = record { each = tt; short = omega arith }; spelt = root (record { inside = omega arith; is = root_byte }) refl };
      ends = record { behind_is = end; inside = whole };
      kind = omega arith;
      fields = record { size = omega (arith, fits.size_fits); ext = sym e; version = sym f; dnssec = flag bytes (at + 1 + 6) 7 o.dnssec (omega arith) };
    }

opt_section : (bytes : List ℕ) (at : ℕ) (opt : Option Opt) → IfSome opt OptFits → Stands bytes at (opt_bytes opt) → SectionAt bytes (opt_count opt) at [] opt (at + 11 * opt_count opt)
opt_section bytes at None fits s = no_more refl (omega arith)
opt_section bytes at (Some o) fits s = options {left = 0} refl (opt_spelt bytes at o fits s) (no_more refl (omega arith))

-- the flags and codes of two bytes
high_parts : (q o a t r : ℕ) → q ≤ 1 → o < 16 → a ≤ 1 → t ≤ 1 → r ≤ 1 → (h : ℕ) → h ≡ 128 * q + 8 * o + 4 * a + 2 * t + r
    → (h / 128 % 2 ≡ q) × (h / 8 % 16 ≡ o) × (h / 4 % 2 ≡ a) × (h / 2 % 2 ≡ t) × (h / 1 % 2 ≡ r)
high_parts q o a t r b c d e f h is = (omega arith, omega arith, omega arith, omega arith, omega arith)

low_parts : (r a c o : ℕ) → r ≤ 1 → a ≤ 1 → c ≤ 1 → o < 16 → (h : ℕ) → h ≡ 128 * r + 32 * a + 16 * c + o → (h / 128 % 2 ≡ r) × (h / 32 % 2 ≡ a) × (h / 16 % 2 ≡ c) × (h % 16 ≡ o)
low_parts r a c o d e f g h is = (omega arith, omega arith, omega arith, omega arith)

-- the numbers of a message fit, and each header counts its section
pub record Fits (m : MessageData) : Type 0 where
  pub id : m.id < 2 ^ 16
  pub codes : AreCodes m.opcode m.rcode
  pub name : IsName m.question.name
  pub kind : m.question.kind < 2 ^ 16
  pub class : m.question.class < 2 ^ 16
  pub opt : IfSome m.opt OptFits
  pub records : AllByRecursion IsProper (records_of m)
  pub few : length (records_of m) < 65535

header_spelt : (bytes : List ℕ) (m : MessageData) → Fits m → Stands bytes 0 (header m) → HeaderIs bytes m
unfolding header
header_spelt bytes m f s =
    let a : slice_index bytes 0 ≡ m.id / 256 % 256 = index s 0 0 refl (omega arith) in
    let b : slice_index bytes 1 ≡ m.id % 256 = index s 1 1 refl (omega arith) in
    let c : slice_index bytes 2 ≡ 128 * bit m.qr + 8 * m.opcode + 4 * bit m.aa + 2 * bit m.tc + bit m.rd = index s 2 2 refl (omega arith) in
    let d : slice_index bytes 3 ≡ 128 * bit m.ra + 32 * bit m.ad + 16 * bit m.cd + m.rcode = index s 3 3 refl (omega arith) in
    let high = high_parts (bit m.qr) m.opcode (bit m.aa) (bit m.tc) (bit m.rd) (bit_small m.qr) f.codes.opcode_fits (bit_small m.aa) (bit_small m.tc) (bit_small m.rd) (slice_index bytes 2) c in
    let low = low_parts (bit m.ra) (bit m.ad) (bit m.cd) m.rcode (bit_small m.ra) (bit_small m.ad) (bit_small m.cd) f.codes.rcode_fits (slice_index bytes 3) d in
    let whole = size_of s in
    record {
      long = whole;
      id = omega (arith, f.id);
      qr = flag bytes 2 7 m.qr high.0;
      opcode = sym high.1;
      aa = flag bytes 2 2 m.aa high.2;
      tc = flag bytes 2 1 m.tc high.3;
      rd = flag bytes 2 0 m.rd high.4;
      ra = flag bytes 3 7 m.ra low.0;
      ad = flag bytes 3 5 m.ad low.1;
      cd = flag bytes 3 4 m.cd low.2;
      rcode = sym low.3;
    }

record CountsAre (bytes : List ℕ) (m : MessageData) : Type 0 where
  one : u16_at bytes 4 ≡ 1
  answer : u16_at bytes 6 ≡ length m.answer
  authority : u16_at bytes 8 ≡ length m.authority
  additional : u16_at bytes 10 ≡ length m.additional + opt_count m.opt

opt_few : (o : Option Opt) → opt_count o ≤ 1
opt_few None = omega arith
opt_few (Some o) = omega arith

counts_spelt : (bytes : List ℕ) (m : MessageData) → Fits m → Stands bytes 0 (header m) → CountsAre bytes m
unfolding header
counts_spelt bytes m f s =
    let n = length m.additional + opt_count m.opt in
    let a : slice_index bytes 4 ≡ 0 = index s 4 4 refl (omega arith) in
    let b : slice_index bytes 5 ≡ 1 = index s 5 5 refl (omega arith) in
    let c : slice_index bytes 6 ≡ length m.answer / 256 % 256 = index s 6 6 refl (omega arith) in
    let d : slice_index bytes 7 ≡ length m.answer % 256 = index s 7 7 refl (omega arith) in
    let e : slice_index bytes 8 ≡ length m.authority / 256 % 256 = index s 8 8 refl (omega arith) in
    let g : slice_index bytes 9 ≡ length m.authority % 256 = index s 9 9 refl (omega arith) in
    let h : slice_index bytes 10 ≡ n / 256 % 256 = index s 10 10 refl (omega arith) in
    let k : slice_index bytes 11 ≡ n % 256 = index s 11 11 refl (omega arith) in
    let whole : length (records_of m) ≡ length m.answer + (length m.authority + length m.additional) = length-append m.answer (m.authority ++ m.additional) ∙ ap (λ (k : ℕ). length m.answer + k) (length-append m.authority m.additional) in
    let one = opt_few m.opt in
    record { one = omega arith; answer = omega (arith, f.few); authority = omega (arith, f.few); additional = omega (arith, f.few) }

question_spelt : (bytes : List ℕ) (q : Question) → IsName q.name → q.kind < 2 ^ 16 → q.class < 2 ^ 16 → Stands bytes 12 (put_question empty q).bytes
    → QuestionAt bytes 12 q (size (put_question empty q)) × OffsetsSpelt bytes (put_question empty q)
unfolding put_question
question_spelt bytes q name kind class s =
    let a = put_name empty q.name in
    let b = put_u16 a q.kind in
    let sb = before b (to_be_bytes w16 q.class) s in
    let sa = before a (to_be_bytes w16 q.kind) sb in
    let nb = put_size a (to_be_bytes w16 q.kind) 2 refl in
    let nc = put_size b (to_be_bytes w16 q.class) 2 refl in (
      record {
        middle = size a;
        name = whole_name bytes empty q.name name tt sa;
        kind = u16_here q.kind kind (here a (to_be_bytes w16 q.kind) sb);
        class = u16_here q.class class (moved (size a + 2) (here b (to_be_bytes w16 q.class) s) (omega arith));
        behind_is = omega arith;
        inside = size_of s;
      },
      offsets_put bytes b (to_be_bytes w16 q.class) (offsets_put bytes a (to_be_bytes w16 q.kind) (offsets_name bytes empty q.name name tt sa)),
    )

all_left : {X : Type 0} (P : X → Type 0) (xs ys : List X) → AllByRecursion P (xs ++ ys) → AllByRecursion P xs
all_left P [] ys all = tt
all_left P (x ∷ xs) ys all = (all.0, all_left P xs ys all.1)

all_right : {X : Type 0} (P : X → Type 0) (xs ys : List X) → AllByRecursion P (xs ++ ys) → AllByRecursion P ys
all_right P [] ys all = all
all_right P (x ∷ xs) ys all = all_right P xs ys all.1

sections_spelt : (bytes : List ℕ) (m : MessageData) → Fits m → HeaderIs bytes m → CountsAre bytes m → Stands bytes 12 ((body m).bytes ++ opt_bytes m.opt) → Spells bytes m
sections_spelt bytes m f header_is counts s =
    let dq = put_question empty m.question in
    let da = put_records dq m.answer in
    let db = put_records da m.authority in
    let dc = put_records db m.additional in
    let joined : body m ≡ dc = put_records-append dq m.answer (m.authority ++ m.additional) ∙ put_records-append da m.authority m.additional in
    let whole : Stands bytes 12 (dc.bytes ++ opt_bytes m.opt) = subst (λ (d : Draft). Stands bytes 12 (d.bytes ++ opt_bytes m.opt)) joined s in
    let sc = left dc.bytes (opt_bytes m.opt) whole in
    let sb = front_of_records bytes db m.additional sc in
    let sa = front_of_records bytes da m.authority sb in
    let sq = front_of_records bytes dq m.answer sa in
    let q = question_spelt bytes m.question f.name f.kind f.class sq in
    let pa = all_left IsProper m.answer (m.authority ++ m.additional) f.records in
    let others = all_right IsProper m.answer (m.authority ++ m.additional) f.records in
    let pb = all_left IsProper m.authority m.additional others in
    let pc = all_right IsProper m.authority m.additional others in
    let ka = offsets_records bytes dq m.answer pa q.1 sa in
    let kb = offsets_records bytes da m.authority pb ka sb in
    let opt_at = opt_section bytes (size dc) m.opt f.opt (right dc.bytes (opt_bytes m.opt) (size dc) whole refl) in
    record {
      header = header_is;
      one = counts.one;
      answer_start = size dq;
      question = q.0;
      authority_start = size da;
      answer = section_spelt bytes dq m.answer (u16_at bytes 6) 0 None (size da) pa q.1 sa (counts.answer ∙ omega arith) (no_more refl refl);
      additional_start = size db;
      authority = section_spelt bytes da m.authority (u16_at bytes 8) 0 None (size db) pb ka sb (counts.authority ∙ omega arith) (no_more refl refl);
      behind = size dc + 11 * opt_count m.opt;
      additional = section_spelt bytes db m.additional (u16_at bytes 10) (opt_count m.opt) m.opt (size dc + 11 * opt_count m.opt) pc kb sc counts.additional opt_at;
    }

-- what is written of a message is spelt again
pub untruncated_spelt : (m : MessageData) → Fits m → Spells (untruncated m) m
unfolding untruncated
untruncated_spelt m f =
    let behind = (body m).bytes ++ opt_bytes m.opt in
    let all : Stands (header m ++ behind) 0 (header m ++ behind) = record { inside = omega arith; rest = []; is = sym (append-nil (header m ++ behind)) } in
    let first = left (header m) behind all in
    let second = right (header m) behind 12 all (omega (arith, length-header m)) in
    sections_spelt (header m ++ behind) m f (header_spelt (header m ++ behind) m f first) (counts_spelt (header m ++ behind) m f first) second

-- a message with the first records alone fits
pub fits_truncated : (m : MessageData) (k : ℕ) → m.id < 2 ^ 16 → AreCodes m.opcode m.rcode → QuestionFits m.question → IfSome m.opt OptFits → AllByRecursion IsProper (take k (records_of m)) → k < 65535 → Fits (truncated m k)
unfolding truncated
fits_truncated m k id codes question opt records few = record {
  id = id;
  codes = codes;
  name = question.name;
  kind = question.kind;
  class = question.class;
  opt = opt;
  records = subst (AllByRecursion IsProper) (sym (records-truncated m k)) records;
  few = omega (arith, ap length (records-truncated m k), length-take k (records_of m));
}

-- what is written of a message is spelt as far as it is kept
pub longest_spelt : {m : MessageData} {limit : ℕ} {bytes : List ℕ} → (w : IsLongest m limit bytes) → Fits (truncated m w.count) → Spells bytes (truncated m (kept m limit))
longest_spelt {m} {limit} {bytes} w f =
    subst (λ (n : ℕ). Spells bytes (truncated m n)) (sym (kept_is w)) (subst (λ (b : List ℕ). Spells b (truncated m w.count)) (sym w.text) (untruncated_spelt (truncated m w.count) f))

-- and whole where it fits
pub whole_spelt : {m : MessageData} {limit : ℕ} {bytes : List ℕ} → (w : IsLongest m limit bytes) → Fits (truncated m w.count) → length (untruncated m) ≤ limit → Spells bytes m
whole_spelt {m} {limit} {bytes} w f fits = subst (Spells bytes) (truncated_all w fits) (subst (λ (b : List ℕ). Spells b (truncated m w.count)) (sym w.text) (untruncated_spelt (truncated m w.count) f))
