-- What an answer needs of a query: its id, RD, CD, question and OPT record.
use Rattle.std.specs.Prelude.{◌≡◌, ℕ, List, Result}
use Rattle.dns_data.specs.Message.{MessageData}
use Rattle.dns_data.specs.declared.message.Question.{Question}
use Rattle.dns_wire.specs.Spells.{ReadsBy, Spells, SpellsQuery}
use Rattle.dns_wire.specs.declared.asked.Asked.{Asked}
use Rattle.dns_wire.specs.declared.asked.AskedBeside.{AskedBeside}
use Rattle.dns_wire.specs.declared.message.Asking.{Asking}
use Rattle.dns_wire.specs.declared.fault.QueryFault.{QueryFault}

abbrev pub asked_of : MessageData → Asked
asked_of m = record { id = m.id; rd = m.rd; cd = m.cd; question = m.question; opt = m.opt }

-- the bytes spell a message that asks this
pub record AsksThis (bytes : List ℕ) (asked : Asked) : Type 0 where
  pub message : MessageData
  pub spells : Spells bytes message
  pub is : asked ≡ asked_of message

-- the bytes spell a query that asks this
pub record QueriesThis (bytes : List ℕ) (asked : Asked) : Type 0 where
  pub message : MessageData
  pub spells : SpellsQuery bytes message
  pub is : asked ≡ asked_of message

-- what reading answers: what the query asks, or the first fault, as of the whole query
abbrev pub ReadsAsked : List ℕ → Result Asked QueryFault → Type 0
ReadsAsked bytes result = ReadsBy (QueriesThis bytes) bytes result

-- a question of this name, and the offset behind it
abbrev pub question_by : List (List ℕ) → Asking → Question × ℕ
question_by name a = (record { name = name; kind = a.kind; class = a.class }, a.behind)

-- what is asked of this name
abbrev pub asked_by : List (List ℕ) → AskedBeside → Asked
asked_by name a = record {
  id = a.id;
  rd = a.rd;
  cd = a.cd;
  question = record { name = name; kind = a.kind; class = a.class };
  opt = a.opt;
}

-- what reading answers where it writes the question's name elsewhere
abbrev pub ReadsAskedInto : List ℕ → List (List ℕ) → Result AskedBeside QueryFault → Type 0
ReadsAskedInto bytes name result = ReadsBy (λ a. QueriesThis bytes (asked_by name a)) bytes result
