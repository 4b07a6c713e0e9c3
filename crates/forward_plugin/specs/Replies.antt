-- What a reply of another server says, and whether it answers the ask (RFC 5452, section 9.1; RFC
-- 6891, section 6.1.3).
use Rattle.std.specs.Prelude.{ℕ, ◌%◌, ◌==◌, Bool, true, false, ◌&&◌, Option, Some, None}
use Rattle.std.specs.Prelude.{if◌then◌else◌}
use Rattle.dns_data.specs.{is_same}
use Rattle.dns_data.specs.Message.{AnswerData, MessageData}
use Rattle.dns_data.specs.declared.class.TheConstants as classes
use Rattle.dns_data.specs.declared.message.Opt.{Opt}
use Rattle.dns_data.specs.declared.query.Query.{Query}
use Rattle.message_decoding.specs.Decoding.{decode_reply}
use Rattle.outside.specs.declared.datagram.Outcome.{Outcome}
use Rattle.outside.specs.declared.datagram.Outcome.TheVariants as outcome

-- the upper bits of the RCODE are clear
abbrev pub is_plain : Option Opt → Bool
is_plain None = true
is_plain (Some opt) = opt.ext == 0

-- the reply has the id of the ask and its question, and no upper bits in its RCODE
abbrev pub agrees : ℕ → Query → MessageData → Bool
agrees word q m =
    m.id == word % 65536 && is_same m.question.name q.name && m.question.kind == q.kind
    && m.question.class == classes.IN && is_plain m.opt

-- the answer of a reply: its records without the OPT
abbrev pub answer_in : MessageData → AnswerData
answer_in m = record {
  rcode = m.rcode;
  aa = m.aa;
  ra = m.ra;
  tc = m.tc;
  answer = m.answer;
  authority = m.authority;
  additional = m.additional;
}

-- the answer of what was read, where it agrees
abbrev pub agreed : ℕ → Query → Option MessageData → Option AnswerData
agreed word q None = None
agreed word q (Some m) = if agrees word q m then Some (answer_in m) else None

-- the answer of an outcome, where it agrees
abbrev pub agreed_in : ℕ → Query → Outcome → Option AnswerData
agreed_in word q (outcome.Got bytes) = agreed word q (decode_reply bytes)
agreed_in word q outcome.Silence = None
agreed_in word q outcome.Failed = None
agreed_in word q outcome.NoMemory = None

abbrev pub is_got : Outcome → Bool
is_got (outcome.Got bytes) = true
is_got outcome.Silence = false
is_got outcome.Failed = false
is_got outcome.NoMemory = false
