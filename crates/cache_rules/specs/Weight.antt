-- What an entry of a cache weighs: its records with names written whole, and what its inner marks
-- weigh. This server's own rule.
use Rattle.std.specs.Prelude.{ℕ, ◌+◌, ◌-◌, ◌^◌, min, List, [], ◌∷◌}
use Rattle.dns_data.specs.{RecordData, data_length, wire_length}
use Rattle.dns_data.specs.Message.{AnswerData}
use Rattle.outside.specs.declared.entry.InnerMark.{InnerMark}
use Rattle.outside.specs.Weight.{inner_weight}

-- the owner, the ten bytes of type, class, TTL and length, and the data
abbrev pub record_weight : RecordData → ℕ
record_weight r = wire_length r.owner + 10 + data_length r.rdata

abbrev pub records_weight : List RecordData → ℕ
records_weight [] = 0
records_weight (r ∷ records) = record_weight r + records_weight records

abbrev pub answer_weight : AnswerData → ℕ
answer_weight a =
    records_weight a.answer + records_weight a.authority + records_weight a.additional

abbrev pub entry_weight : AnswerData → List InnerMark → ℕ
entry_weight a inner = answer_weight a + inner_weight inner

-- a number as a counter shows it that stops at its end
abbrev pub until : ℕ → ℕ
until number = min number (2 ^ 64 - 1)
