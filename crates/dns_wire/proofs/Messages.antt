-- The offsets of the sections of a message.
use Rattle.std.proofs.Common.{◌≡◌, ◌≤◌, ℕ, ◌/◌, ◌%◌, Bool, List, length, slice_index, Option, None, refl, sym, subst, arith}
use Rattle.dns_data.specs.Record.{RecordData}
use Rattle.dns_data.specs.Message.{MessageData}
use Rattle.dns_data.specs.declared.message.Opt.{Opt}
use Rattle.dns_data.specs.declared.message.Question.{Question}
use Rattle.dns_wire.specs.Wire.{u16_at, flag_at}
use Rattle.dns_wire.specs.Records.{SectionAt, SectionsAt}
use Rattle.dns_wire.specs.Spells.{QuestionAt, Spells}
use Rattle.dns_wire.specs.Asked.{AsksThis}
use Rattle.dns_wire.proofs.Names.{same_end}
use Rattle.dns_wire.proofs.Unique.{one_section}

-- first the answer section stands
pub answer_here : {bytes : List ℕ} {n x : ℕ} {a b c : List RecordData} {o : Option Opt} → n ≡ u16_at bytes 6 → (h : SectionsAt bytes x a b c o) → SectionAt bytes n x a None h.authority_start
answer_here {bytes} {n} {x} {a} count h = subst (λ (k : ℕ). SectionAt bytes k x a None h.authority_start) (sym count) h.answer_at

-- behind that the authority section
pub authority_here : {bytes : List ℕ} {n k x y : ℕ} {a b c d : List RecordData} {o : Option Opt} → n ≡ u16_at bytes 6 → k ≡ u16_at bytes 8 → SectionAt bytes n x d None y
    → (h : SectionsAt bytes x a b c o) → SectionAt bytes k y b None h.additional_start
authority_here {bytes} {n} {k} {b = b} count other answer h =
    subst (λ (at : ℕ). SectionAt bytes k at b None h.additional_start) (one_section (answer_here count h) answer).end
    (subst (λ (c : ℕ). SectionAt bytes c h.authority_start b None h.additional_start) (sym other) h.authority_at)

-- and behind that the additional section
pub additional_here : {bytes : List ℕ} {n k j x y z : ℕ} {a b c d e : List RecordData} {o : Option Opt} → n ≡ u16_at bytes 6 → k ≡ u16_at bytes 8 → j ≡ u16_at bytes 10
    → SectionAt bytes n x d None y → SectionAt bytes k y e None z → (h : SectionsAt bytes x a b c o) → SectionAt bytes j z c o h.behind
additional_here {bytes} {n} {k} {j} {c = c} {o = o} count other last answer authority h =
    subst (λ (at : ℕ). SectionAt bytes j at c o h.behind) (one_section (authority_here count other answer h) authority).end
    (subst (λ (i : ℕ). SectionAt bytes i h.additional_start c o h.behind) (sym last) h.additional_at)

question_end : {bytes : List ℕ} {at x y : ℕ} {p q : Question} → QuestionAt bytes at p x → QuestionAt bytes at q y → x ≡ y
question_end {bytes} {at} {x} {y} {p} {q} a b = omega (arith, a.behind_is, b.behind_is, same_end bytes at a.middle b.middle p.name q.name a.name b.name)

-- behind the question the sections stand
pub sections_here : {bytes : List ℕ} {x : ℕ} {q : Question} → QuestionAt bytes 12 q x → (m : MessageData) → Spells bytes m → SectionsAt bytes x m.answer m.authority m.additional m.opt
sections_here {bytes} question m h =
    let here : SectionsAt bytes h.answer_start m.answer m.authority m.additional m.opt = record {
      authority_start = h.authority_start;
      answer_at = h.answer;
      additional_start = h.additional_start;
      authority_at = h.authority;
      behind = h.behind;
      additional_at = h.additional;
    } in
    subst (λ (at : ℕ). SectionsAt bytes at m.answer m.authority m.additional m.opt) (question_end h.question question) here

-- what the message of a question and its sections asks
pub asks_this : {bytes : List ℕ} {x : ℕ} {q : Question} {a b c : List RecordData} {o : Option Opt} → (id : ℕ) (rd cd : Bool) → 12 ≤ length bytes → u16_at bytes 4 ≡ 1 → QuestionAt bytes 12 q x → SectionsAt bytes x a b c o
    → id ≡ u16_at bytes 0 → rd ≡ flag_at bytes 2 0 → cd ≡ flag_at bytes 3 4 → AsksThis bytes (record { id = id; rd = rd; cd = cd; question = q; opt = o })
asks_this {bytes} {x} {q} {a} {b} {c} {o} id rd cd long one question s id_is rd_is cd_is = record {
  message = record {
    id = u16_at bytes 0;
    qr = flag_at bytes 2 7;
    opcode = slice_index bytes 2 / 8 % 16;
    aa = flag_at bytes 2 2;
    tc = flag_at bytes 2 1;
    rd = flag_at bytes 2 0;
    ra = flag_at bytes 3 7;
    ad = flag_at bytes 3 5;
    cd = flag_at bytes 3 4;
    rcode = slice_index bytes 3 % 16;
    question = q;
    answer = a;
    authority = b;
    additional = c;
    opt = o;
  };
  spells = record {
    header = record { long = long; id = refl; qr = refl; opcode = refl; aa = refl; tc = refl; rd = refl; ra = refl; ad = refl; cd = refl; rcode = refl };
    one = one;
    answer_start = x;
    question = question;
    authority_start = s.authority_start;
    answer = s.answer_at;
    additional_start = s.additional_start;
    authority = s.authority_at;
    behind = s.behind;
    additional = s.additional_at;
  };
  is = λ i. record { id = id_is i; rd = rd_is i; cd = cd_is i; question = q; opt = o };
}
