-- The decoder gives the message that bytes spell, and a message only where they spell it.
use Rattle.std.proofs.Common.{◌≡◌, ℕ, ◌+◌, not, List, length, Option, Some, None, Result, Ok, Err, refl, sym, ap, subst, ◌∙◌, arith}
use Rattle.std.specs.Prelude.{◌==◌, nat_le}
use Rattle.std.proofs.lemmas.Bool.{leb-true, eqb-true, le-leb, eq-eqb, and_parts, and_from, not-true, not_from_false}
use Rattle.dns_data.specs.Message.{MessageData}
use Rattle.dns_data.specs.declared.limit.TheConstants as limits
use Rattle.dns_data.specs.declared.opcode.TheConstants as opcodes
use Rattle.dns_data.specs.declared.message.Question.{Question}
use Rattle.dns_wire.specs.Wire.{u16_at}
use Rattle.dns_wire.specs.Spells.{QuestionAt, Spells, SpellsQuery, SpellsReply}
use Rattle.message_decoding.specs.Steps.{took, takes, held, holds, same}
use Rattle.message_decoding.specs.Decoding.{question_in, message_of, decode, decode_reply, decode_query}
use Rattle.message_decoding.specs.Reading.{Decodes, Reader, Gives}
use Rattle.dns_wire.specs.Reads.{Reads}
use Rattle.dns_wire.specs.declared.fault.WireFault.{WireFault}
use Rattle.dns_wire.specs.declared.fault.WireFault.TheVariants as fault
use Rattle.message_decoding.specs.NamesLaws.{whole_sound, whole_whole}
use Rattle.message_decoding.specs.PartsLaws.{plain_sound, plain_whole, section_sound, section_whole}

question_sound : (bytes : List ℕ) (at : ℕ) (x : Question × ℕ) → question_in bytes at ≡ Some x → QuestionAt bytes at x.0 x.1
unfolding question_in
question_sound bytes at x e =
    let name = took e in
    let h = held name.then in
    let there : QuestionAt bytes at (record { name = name.x.0; kind = u16_at bytes name.x.1; class = u16_at bytes (name.x.1 + 2) }) (name.x.1 + 4) = record {
      middle = name.x.1;
      name = whole_sound bytes at name.x name.is;
      kind = refl;
      class = refl;
      behind_is = refl;
      inside = leb-true (name.x.1 + 4) (length bytes) h.passed;
    } in
    subst (λ (y : Question × ℕ). QuestionAt bytes at y.0 y.1) (same h.then) there

question_whole : (bytes : List ℕ) (at : ℕ) (q : Question) (behind : ℕ) → QuestionAt bytes at q behind → question_in bytes at ≡ Some (q, behind)
unfolding question_in
question_whole bytes at q behind h =
    takes _ (whole_whole bytes at q.name h.middle h.name) (holds (le-leb (h.middle + 4) (length bytes) (omega (arith, h.behind_is, h.inside)))
    (λ i. Some (record { name = q.name; kind = sym h.kind i; class = sym h.class i }, sym h.behind_is i)))

-- what is decoded is spelt
pub decode_sound : (bytes : List ℕ) (m : MessageData) → decode bytes ≡ Some m → Spells bytes m
unfolding decode message_of
decode_sound bytes m e =
    let h = held e in
    let p = and_parts (nat_le limits.HEADER_BYTES (length bytes)) (u16_at bytes 4 == 1) h.passed in
    let question = took h.then in
    let answer = took question.then in
    let authority = took answer.then in
    let last = took authority.then in
    let there : Spells bytes (message_of bytes question.x.0 answer.x.0 authority.x.0 last.x) = record {
      header = record {
        long = leb-true limits.HEADER_BYTES (length bytes) p.0;
        id = refl;
        qr = refl;
        opcode = refl;
        aa = refl;
        tc = refl;
        rd = refl;
        ra = refl;
        ad = refl;
        cd = refl;
        rcode = refl;
      };
      one = eqb-true (u16_at bytes 4) 1 p.1;
      answer_start = question.x.1;
      question = question_sound bytes limits.HEADER_BYTES question.x question.is;
      authority_start = answer.x.1;
      answer = plain_sound (u16_at bytes 6) bytes question.x.1 answer.x answer.is;
      additional_start = authority.x.1;
      authority = plain_sound (u16_at bytes 8) bytes answer.x.1 authority.x authority.is;
      behind = last.x.behind;
      additional = section_sound (u16_at bytes 10) bytes authority.x.1 last.x last.is;
    } in
    subst (Spells bytes) (same last.then) there

message_is : (bytes : List ℕ) (m : MessageData) → (h : Spells bytes m) → message_of bytes m.question m.answer m.authority (record { records = m.additional; opt = m.opt; behind = h.behind }) ≡ m
unfolding message_of
message_is bytes m h = λ i. record {
  id = sym h.header.id i;
  qr = sym h.header.qr i;
  opcode = sym h.header.opcode i;
  aa = sym h.header.aa i;
  tc = sym h.header.tc i;
  rd = sym h.header.rd i;
  ra = sym h.header.ra i;
  ad = sym h.header.ad i;
  cd = sym h.header.cd i;
  rcode = sym h.header.rcode i;
  question = m.question;
  answer = m.answer;
  authority = m.authority;
  additional = m.additional;
  opt = m.opt;
}

-- what is spelt is decoded
pub decode_whole : (bytes : List ℕ) (m : MessageData) → Spells bytes m → decode bytes ≡ Some m
unfolding decode
decode_whole bytes m h =
    holds (and_from (nat_le limits.HEADER_BYTES (length bytes)) (u16_at bytes 4 == 1) (le-leb limits.HEADER_BYTES (length bytes) h.header.long) (eq-eqb (u16_at bytes 4) 1 h.one))
    (takes _ (question_whole bytes limits.HEADER_BYTES m.question h.answer_start h.question)
    (takes _ (plain_whole (u16_at bytes 6) bytes h.answer_start m.answer h.authority_start h.answer)
    (takes _ (plain_whole (u16_at bytes 8) bytes h.authority_start m.authority h.additional_start h.authority)
    (takes _ (section_whole (u16_at bytes 10) bytes h.additional_start m.additional m.opt h.behind h.additional) (ap Some (message_is bytes m h))))))

reply_sound : (bytes : List ℕ) (m : MessageData) → decode_reply bytes ≡ Some m → SpellsReply bytes m
unfolding decode_reply
reply_sound bytes m e =
    let found = took e in
    let h = held found.then in
    let p = and_parts found.x.qr (found.x.opcode == opcodes.QUERY) h.passed in
    let there : SpellsReply bytes found.x = record {
      message = decode_sound bytes found.x found.is;
      qr = p.0;
      opcode = eqb-true found.x.opcode opcodes.QUERY p.1;
    } in
    subst (SpellsReply bytes) (same h.then) there

reply_whole : (bytes : List ℕ) (m : MessageData) → SpellsReply bytes m → decode_reply bytes ≡ Some m
unfolding decode_reply
reply_whole bytes m h =
    takes _ (decode_whole bytes m h.message) (holds (and_from m.qr (m.opcode == opcodes.QUERY) h.qr (eq-eqb m.opcode opcodes.QUERY h.opcode)) refl)

query_sound : (bytes : List ℕ) (m : MessageData) → decode_query bytes ≡ Some m → SpellsQuery bytes m
unfolding decode_query
query_sound bytes m e =
    let found = took e in
    let h = held found.then in
    let p = and_parts (not found.x.qr) (found.x.opcode == opcodes.QUERY) h.passed in
    let there : SpellsQuery bytes found.x = record {
      message = decode_sound bytes found.x found.is;
      qr = not-true found.x.qr p.0;
      opcode = eqb-true found.x.opcode opcodes.QUERY p.1;
    } in
    subst (SpellsQuery bytes) (same h.then) there

query_whole : (bytes : List ℕ) (m : MessageData) → SpellsQuery bytes m → decode_query bytes ≡ Some m
unfolding decode_query
query_whole bytes m h =
    takes _ (decode_whole bytes m h.message) (holds (and_from (not m.qr) (m.opcode == opcodes.QUERY) (not_from_false m.qr h.qr) (eq-eqb m.opcode opcodes.QUERY h.opcode)) refl)

agree : (o p : Option MessageData) → ((m : MessageData) → o ≡ Some m → p ≡ Some m) → ((m : MessageData) → p ≡ Some m → o ≡ Some m) → o ≡ p
agree None None f g = refl
agree None (Some m) f g = g m refl
agree (Some m) p f g = sym (f m refl)

-- The laws.

pub decodes_messages : Decodes Spells decode
decodes_messages = record { sound = decode_sound; whole = decode_whole }

pub decodes_replies : Decodes SpellsReply decode_reply
decodes_replies = record { sound = reply_sound; whole = reply_whole }

pub decodes_queries : Decodes SpellsQuery decode_query
decodes_queries = record { sound = query_sound; whole = query_whole }

-- what a function decodes is one message at most
pub one_message : (Is : List ℕ → MessageData → Type 0) (read : Reader) → Decodes Is read → (bytes : List ℕ) (m n : MessageData) → Is bytes m → Is bytes n → n ≡ m
one_message Is read law bytes m n p q = same (sym (law.whole bytes n q) ∙ law.whole bytes m p)

-- two functions that decode the same are the same
pub one_decoder : (Is : List ℕ → MessageData → Type 0) (read other : Reader) → Decodes Is read → Decodes Is other → (bytes : List ℕ) → read bytes ≡ other bytes
one_decoder Is read other law also bytes = agree (read bytes) (other bytes) (λ m e. also.whole bytes m (law.sound bytes m e)) (λ m e. law.whole bytes m (also.sound bytes m e))

none_of : (o : Option MessageData) → ((m : MessageData) → o ≡ Some m → ⊥) → o ≡ None
none_of None none = refl
none_of (Some m) none = absurd (none m refl)

-- what a reader answers is what was decoded
pub reads_decoded : (Is : List ℕ → MessageData → Type 0) (read : Reader) → Decodes Is read → (bytes : List ℕ) (result : Result MessageData WireFault) → Reads (Is bytes) result → Gives (read bytes) result
reads_decoded Is read law bytes (Ok m) h = law.whole bytes m h
reads_decoded Is read law bytes (Err fault.Bad) h = none_of (read bytes) (λ m e. h m (law.sound bytes m e))
reads_decoded Is read law bytes (Err fault.NoMemory) h = tt
