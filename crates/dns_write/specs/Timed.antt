-- Records that are written with other TTLs than they have.
use Rattle.std.specs.Prelude.{ℕ, List, map}
use Rattle.dns_data.specs.Record.{RecordData, owned_by}
use Rattle.dns_data.specs.Message.{MessageData}

abbrev pub timed : (RecordData → ℕ) → RecordData → RecordData
timed ttl_of r = owned_by r.owner (ttl_of r) r

abbrev pub all_timed : (RecordData → ℕ) → List RecordData → List RecordData
all_timed ttl_of records = map (timed ttl_of) records

-- a message whose records have these TTLs
abbrev pub message_timed : (RecordData → ℕ) → MessageData → MessageData
message_timed ttl_of m = record m {
  answer = all_timed ttl_of m.answer;
  authority = all_timed ttl_of m.authority;
  additional = all_timed ttl_of m.additional;
}

-- a message all of whose records have this TTL
abbrev pub message_at : ℕ → MessageData → MessageData
message_at ttl m = message_timed (λ r. ttl) m
