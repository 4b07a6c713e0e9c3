-- How far a message is written: what is known after one record, after the records of a section, and
-- after all.
use Rattle.std.specs.Prelude.{◌≡◌, ◌≤◌, ◌<◌, ℕ, ◌+◌, ◌-◌, ◌^◌, Bool, true, false, List, length, take}
use Rattle.std.specs.List.{AllByRecursion}
use Rattle.dns_names.specs.Name.{IsName}
use Rattle.dns_data.specs.Record.{RecordData, IsProper}
use Rattle.dns_data.specs.Message.{MessageData}
use Rattle.dns_data.specs.declared.message.Question.{Question}
use Rattle.dns_data.specs.declared.message.Opt.{Opt}
use Rattle.dns_write.specs.declared.write.Counts.{Counts}
use Rattle.dns_write.specs.Written.{Draft, size, put_record, put_records, records_of}

-- the numbers of a question and of an OPT record have room in 16 bits
pub record QuestionFits (q : Question) : Type 0 where
  pub name : IsName q.name
  pub kind : q.kind < 2 ^ 16
  pub class : q.class < 2 ^ 16

pub record OptFits (o : Opt) : Type 0 where
  pub size_fits : o.size < 2 ^ 16

-- what putting one record answers: it fits, or nothing was put and it would overrun the room
abbrev pub PutWithin : Draft → Draft → RecordData → ℕ → Bool → Type 0
PutWithin old new r room true = (new ≡ put_record old r) × (size new ≤ room)
PutWithin old new r room false = (new ≡ old) × (room < size (put_record old r))

-- so many of the records were put, and one more would overrun the room
pub record PutLongest (old new : Draft) (rs : List RecordData) (room count : ℕ) : Type 0 where
  pub inside : count ≤ length rs
  pub text : new ≡ put_records old (take count rs)
  pub fits : size new ≤ room
  pub proper : AllByRecursion IsProper (take count rs)
  pub longest : count < length rs → room < size (put_records old (take (count + 1) rs))

-- how many records are written in all
abbrev pub total : Counts → ℕ
total k = k.answer + k.authority + k.additional

-- so many of a message's records were put, section after section, and one more would overrun the
-- room
pub record AreKept (old new : Draft) (m : MessageData) (room : ℕ) (k : Counts) : Type 0 where
  pub all : PutLongest old new (records_of m) room (total k)
  pub answer : k.answer ≡ length (take (total k) m.answer)
  pub authority : k.authority ≡ length (take (total k - length m.answer) m.authority)
  pub additional : k.additional
      ≡ length (take (total k - length m.answer - length m.authority) m.additional)

-- a draft has the bytes of one behind which so many of a message's records were put
pub record Sectioned (old new : Draft) (m : MessageData) (room : ℕ) (k : Counts) : Type 0 where
  pub end : Draft
  pub bytes : new.bytes ≡ end.bytes
  pub kept : AreKept old end m room k
