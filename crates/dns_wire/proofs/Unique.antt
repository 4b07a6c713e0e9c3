-- The bytes spell one message at most.
use Rattle.std.proofs.Common.{◌≡◌, ℕ, ◌+◌, List, [], ◌∷◌, slice_index, Option, Some, None, refl, sym, ap, subst, ◌∙◌, arith}
use Rattle.dns_data.specs.Record.{RecordData, kind_of, fields_of}
use Rattle.dns_data.specs.Message.{MessageData}
use Rattle.dns_data.specs.declared.message.Opt.{Opt}
use Rattle.dns_data.specs.declared.message.Question.{Question}
use Rattle.dns_data.specs.declared.record.Rdata.{Rdata}
use Rattle.dns_wire.specs.Wire.{u16_at, flag_at}
use Rattle.dns_wire.specs.Data.{IsDataOf}
use Rattle.dns_wire.specs.Records.{RecordAt, OptAt, SectionAt, ttl_at, no_more, rr, options}
use Rattle.dns_wire.specs.Spells.{QuestionAt, Spells}
use Rattle.dns_wire.specs.declared.record.Part.TheVariants as part
use Rattle.dns_wire.proofs.Names.{same_end}
use Rattle.dns_wire.proofs.Fields.{one_whole, one_fields}
use Rattle.dns_wire.proofs.Rows.{row, made, same_shapes}
use Rattle.dns_wire.proofs.Parts.{owned, part_end, parts_differ}

one_data : (bytes : List ℕ) (kind at behind : ℕ) (d e : Rdata) → IsDataOf bytes kind at behind d → IsDataOf bytes kind at behind e → d ≡ e
one_data bytes kind at behind d e p q =
    let kinds : kind_of d ≡ kind_of e = p.0 ∙ sym q.0 in
    let fields : fields_of d ≡ fields_of e = one_fields bytes behind at (fields_of d) (fields_of e) p.1 q.1 (same_shapes bytes at behind behind d e p.1 q.1 kinds) in
    let first = row bytes at behind d p.1 in
    let second = row bytes at behind e q.1 in
    sym first.again ∙ (λ i. made (kinds i) (fields i)) ∙ second.again

-- one record stands at an offset
one_record : {bytes : List ℕ} {at x y : ℕ} → (r s : RecordData) → RecordAt bytes at r x → RecordAt bytes at s y → r ≡ s
one_record {bytes} {at} {x} {y} r s p q =
    let end : y ≡ x = part_end (owned (part.Record s) q) (owned (part.Record r) p) in
    let middle : q.middle ≡ p.middle = same_end bytes at q.middle p.middle s.owner r.owner q.owner p.owner in
    let there : IsDataOf bytes (u16_at bytes p.middle) (p.middle + 10) x s.rdata =
    subst (λ (m : ℕ). IsDataOf bytes (u16_at bytes m) (m + 10) x s.rdata) middle (subst (λ (z : ℕ). IsDataOf bytes (u16_at bytes q.middle) (q.middle + 10) z s.rdata) end (q.kind, q.rdata)) in
    let owner : r.owner ≡ s.owner = one_whole p.owner q.owner in
    let class : r.class ≡ s.class = p.class ∙ ap (λ (m : ℕ). u16_at bytes (m + 2)) (sym middle) ∙ sym q.class in
    let ttl : r.ttl ≡ s.ttl = p.ttl ∙ ap (λ (m : ℕ). ttl_at bytes (m + 4)) (sym middle) ∙ sym q.ttl in
    let rdata : r.rdata ≡ s.rdata = one_data bytes (u16_at bytes p.middle) (p.middle + 10) x r.rdata s.rdata (p.kind, p.rdata) there in
    λ i. record { owner = owner i; class = class i; ttl = ttl i; rdata = rdata i }

one_opt : {bytes : List ℕ} {at x y : ℕ} → (o p : Opt) → OptAt bytes at o x → OptAt bytes at p y → o ≡ p
one_opt {bytes} {at} o p a b =
    let middle : a.middle ≡ b.middle = same_end bytes at a.middle b.middle [] [] a.owner b.owner in
    let size : o.size ≡ p.size = a.fields.size ∙ ap (λ (m : ℕ). u16_at bytes (m + 2)) middle ∙ sym b.fields.size in
    let ext : o.ext ≡ p.ext = a.fields.ext ∙ ap (λ (m : ℕ). slice_index bytes (m + 4)) middle ∙ sym b.fields.ext in
    let version : o.version ≡ p.version = a.fields.version ∙ ap (λ (m : ℕ). slice_index bytes (m + 5)) middle ∙ sym b.fields.version in
    let dnssec : o.dnssec ≡ p.dnssec = a.fields.dnssec ∙ ap (λ (m : ℕ). flag_at bytes (m + 6) 7) middle ∙ sym b.fields.dnssec in
    λ i. record { size = size i; ext = ext i; version = version i; dnssec = dnssec i }

-- one section stands at an offset
pub record SameSection (a b : List RecordData) (o p : Option Opt) (x y : ℕ) : Type 0 where
  pub records : a ≡ b
  pub opt : o ≡ p
  pub end : x ≡ y

pub one_section : {bytes : List ℕ} {count at x y : ℕ} {a b : List RecordData} {o p : Option Opt} → SectionAt bytes count at a o x → SectionAt bytes count at b p y → SameSection a b o p x y
one_section (no_more none is) (no_more zero was) = record { records = refl; opt = refl; end = omega arith }
one_section (no_more none is) (rr e here rest) = absurd (omega arith)
one_section (no_more none is) (options e here rest) = absurd (omega arith)
one_section (rr {left = l} e here rest) (no_more zero was) = absurd (omega arith)
one_section {bytes} {count} {at} {x} {y} {p = p} (rr {left = l} {middle = m} {first = r} {others = rs} e here rest) (rr {left = k} {middle = n} {first = s} {others = ss} f there more) =
    let size : k ≡ l = omega arith in
    let end : n ≡ m = part_end (owned (part.Record s) there) (owned (part.Record r) here) in
    let first : r ≡ s = one_record r s here there in
    let both = one_section rest (subst (λ (i : ℕ). SectionAt bytes i m ss p y) size (subst (λ (i : ℕ). SectionAt bytes k i ss p y) end more)) in
    let others : rs ≡ ss = both.records in
    record { records = λ i. first i ∷ others i; opt = both.opt; end = both.end }
one_section (rr {first = r} e here rest) (options {found = o} f there more) = absurd (parts_differ r o here there)
one_section (options e here rest) (no_more zero was) = absurd (omega arith)
one_section (options {found = o} e here rest) (rr {first = r} f there more) = absurd (parts_differ r o there here)
one_section {bytes} {count} {at} {x} {y} (options {left = l} {middle = m} {found = o} e here rest) (options {left = k} {middle = n} {found = q} {others = others} f there more) =
    let size : k ≡ l = omega arith in
    let end : n ≡ m = part_end (owned (part.Opt q) there) (owned (part.Opt o) here) in
    let both = one_section rest (subst (λ (i : ℕ). SectionAt bytes i m others None y) size (subst (λ (i : ℕ). SectionAt bytes k i others None y) end more)) in
    record { records = both.records; opt = ap Some (one_opt o q here there); end = both.end }

-- one question stands at an offset
one_question : {bytes : List ℕ} {at x y : ℕ} → (p q : Question) → QuestionAt bytes at p x → QuestionAt bytes at q y → (p ≡ q) × (x ≡ y)
one_question {bytes} {at} {x} {y} p q a b =
    let middle : a.middle ≡ b.middle = same_end bytes at a.middle b.middle p.name q.name a.name b.name in
    let name : p.name ≡ q.name = one_whole a.name b.name in
    let kind : p.kind ≡ q.kind = a.kind ∙ ap (u16_at bytes) middle ∙ sym b.kind in
    let class : p.class ≡ q.class = a.class ∙ ap (λ (m : ℕ). u16_at bytes (m + 2)) middle ∙ sym b.class in
    ((λ i. record { name = name i; kind = kind i; class = class i }), omega (arith, middle, a.behind_is, b.behind_is))

-- the bytes spell one message
pub one_message : (bytes : List ℕ) (m n : MessageData) → Spells bytes m → Spells bytes n → n ≡ m
one_message bytes m n p q =
    let questions = one_question n.question m.question q.question p.question in
    let answers = one_section (subst (λ (at : ℕ). SectionAt bytes (u16_at bytes 6) at n.answer None q.authority_start) questions.1 q.answer) p.answer in
    let authorities = one_section (subst (λ (at : ℕ). SectionAt bytes (u16_at bytes 8) at n.authority None q.additional_start) answers.end q.authority) p.authority in
    let additionals = one_section (subst (λ (at : ℕ). SectionAt bytes (u16_at bytes 10) at n.additional n.opt q.behind) authorities.end q.additional) p.additional in
    let id : n.id ≡ m.id = q.header.id ∙ sym p.header.id in
    let qr : n.qr ≡ m.qr = q.header.qr ∙ sym p.header.qr in
    let opcode : n.opcode ≡ m.opcode = q.header.opcode ∙ sym p.header.opcode in
    let aa : n.aa ≡ m.aa = q.header.aa ∙ sym p.header.aa in
    let tc : n.tc ≡ m.tc = q.header.tc ∙ sym p.header.tc in
    let rd : n.rd ≡ m.rd = q.header.rd ∙ sym p.header.rd in
    let ra : n.ra ≡ m.ra = q.header.ra ∙ sym p.header.ra in
    let ad : n.ad ≡ m.ad = q.header.ad ∙ sym p.header.ad in
    let cd : n.cd ≡ m.cd = q.header.cd ∙ sym p.header.cd in
    let rcode : n.rcode ≡ m.rcode = q.header.rcode ∙ sym p.header.rcode in
    let question : n.question ≡ m.question = questions.0 in
    let answer : n.answer ≡ m.answer = answers.records in
    let authority : n.authority ≡ m.authority = authorities.records in
    let additional : n.additional ≡ m.additional = additionals.records in
    let opt : n.opt ≡ m.opt = additionals.opt in
    λ i. record {
      id = id i;
      qr = qr i;
      opcode = opcode i;
      aa = aa i;
      tc = tc i;
      rd = rd i;
      ra = ra i;
      ad = ad i;
      cd = cd i;
      rcode = rcode i;
      question = question i;
      answer = answer i;
      authority = authority i;
      additional = additional i;
      opt = opt i;
    }
