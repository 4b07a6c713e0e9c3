-- The message that bytes spell, as a function: what stands at an offset, where it stands there, and
-- the offset behind it.
use Rattle.std.specs.Prelude.{ℕ, zero, suc, ◌+◌, ◌-◌, ◌*◌, ◌/◌, ◌%◌, Bool, ◌==◌, ◌&&◌, not, nat_lt, nat_le, if◌then◌else◌, List, [], ◌∷◌, length, slice_index, slice_range, Option, Some, None, is_none}
use Rattle.dns_names.specs.Name.{wire_length}
use Rattle.dns_names.specs.declared.limit.TheConstants as name_limits
use Rattle.dns_data.specs.declared.limit.TheConstants as limits
use Rattle.dns_data.specs.declared.kind.TheConstants as kinds
use Rattle.dns_data.specs.declared.opcode.TheConstants as opcodes
use Rattle.dns_data.specs.declared.message.Question.{Question}
use Rattle.dns_data.specs.declared.message.Opt.{Opt}
use Rattle.dns_data.specs.declared.record.Rdata.{Rdata}
use Rattle.dns_data.specs.declared.record.Rdata.TheVariants as rdata
use Rattle.dns_data.specs.Record.{RecordData, is_known_type, fields_of, Field, Compressed, Uncompressed, U8, U16, U32, U128, CharString, NonEmpty, CharStrings, Remainder, Unknown}
use Rattle.dns_data.specs.Message.{MessageData}
use Rattle.dns_wire.specs.Wire.{u16_at, u32_at, u128_at, flag_at}
use Rattle.dns_wire.specs.Records.{ttl_at}
use Rattle.dns_wire.specs.Fields.{listed, field_at, text_of}
use Rattle.dns_wire.specs.declared.record.Part.{Part}
use Rattle.dns_wire.specs.declared.record.Part.TheVariants as part
use Rattle.message_decoding.specs.Steps.{taking, only}

-- Names.

abbrev pub Labels : Type 0
Labels = List (List ℕ)

-- a zero byte stands here
unfoldable pub is_root : List ℕ → ℕ → Bool
is_root bytes at = nat_lt at (length bytes) && slice_index bytes at == 0

-- a label stands here, as long as its first byte says
unfoldable pub is_label : List ℕ → ℕ → Bool
is_label bytes at =
    nat_lt 0 (slice_index bytes at) && nat_le (slice_index bytes at) name_limits.LABEL_BYTES
    && nat_le (at + 1 + slice_index bytes at) (length bytes)

unfoldable pub label_in : List ℕ → ℕ → List ℕ
label_in bytes at = slice_range bytes (at + 1) (at + 1 + slice_index bytes at)

-- a pointer stands here; it leads behind the header, and before the labels that it ends
unfoldable pub target_in : List ℕ → ℕ → ℕ
target_in bytes at = 256 * (slice_index bytes at - 192) + slice_index bytes (at + 1)

unfoldable pub is_pointer : List ℕ → ℕ → ℕ → Bool
is_pointer bytes start at =
    nat_lt (at + 1) (length bytes) && nat_le 192 (slice_index bytes at)
    && nat_le limits.HEADER_BYTES (target_in bytes at) && nat_lt (target_in bytes at) start

-- The labels from an offset on, of a name whose labels began at start, in so many steps at most:
-- each takes a label or follows a pointer.
unfoldable pub name_from : ℕ → List ℕ → ℕ → ℕ → Option (Labels × ℕ)
name_from zero bytes start at = None
name_from (suc steps) bytes start at =
    if is_root bytes at then Some ([], at + 1)
    else if is_label bytes at then
    taking (name_from steps bytes start (at + 1 + slice_index bytes at))
    (λ others. Some (label_in bytes at ∷ others.0, others.1))
    else only (is_pointer bytes start at)
    (taking (name_from steps bytes (target_in bytes at) (target_in bytes at))
    (λ there. Some (there.0, at + 2)))

-- a whole name. Pointers lead strictly lower and labels take bytes, so these steps are enough.
unfoldable pub name_in : List ℕ → ℕ → Option (Labels × ℕ)
name_in bytes at =
    taking (name_from (at + name_limits.NAME_BYTES) bytes at at)
    (λ found. only (nat_le (wire_length found.0) name_limits.NAME_BYTES) (Some found))

-- Data.

-- a character-string
unfoldable pub string_in : List ℕ → ℕ → Option (List ℕ × ℕ)
string_in bytes at =
    only (nat_lt at (length bytes) && nat_le (at + 1 + slice_index bytes at) (length bytes))
    (Some (label_in bytes at, at + 1 + slice_index bytes at))

-- character-strings up to a limit, so many at most
unfoldable pub strings_in : ℕ → List ℕ → ℕ → ℕ → Option (List (List ℕ))
strings_in zero bytes limit at = only (at == limit) (Some [])
strings_in (suc most) bytes limit at =
    if at == limit then Some []
    else taking (string_in bytes at) (λ first. taking (strings_in most bytes limit first.1)
    (λ others. Some (first.0 ∷ others)))

-- a field of the kind of another one
unfoldable pub field_in : Field → List ℕ → ℕ → ℕ → Option (Field × ℕ)
field_in (Compressed labels) bytes limit at =
    taking (name_in bytes at) (λ name. Some (Compressed name.0, name.1))
field_in (Uncompressed labels) bytes limit at =
    taking (name_in bytes at) (λ name. Some (Uncompressed name.0, name.1))
field_in (U8 number) bytes limit at = Some (U8 (slice_index bytes at), at + 1)
field_in (U16 number) bytes limit at = Some (U16 (u16_at bytes at), at + 2)
field_in (U32 number) bytes limit at = Some (U32 (u32_at bytes at), at + 4)
field_in (U128 number) bytes limit at = Some (U128 (u128_at bytes at), at + 16)
field_in (CharString text) bytes limit at =
    taking (string_in bytes at) (λ string. Some (CharString string.0, string.1))
field_in (NonEmpty text) bytes limit at =
    taking (string_in bytes at)
    (λ string. only (nat_le 1 (length string.0)) (Some (NonEmpty string.0, string.1)))
field_in (CharStrings texts) bytes limit at =
    taking (strings_in limit bytes limit at) (λ strings. Some (CharStrings strings, limit))
field_in (Remainder text) bytes limit at =
    only (nat_le at limit) (Some (Remainder (slice_range bytes at limit), limit))
field_in (Unknown kind text) bytes limit at =
    only (not (is_known_type kind) && nat_le at limit)
    (Some (Unknown kind (slice_range bytes at limit), limit))

-- fields of the kinds of others, used up at the limit
unfoldable pub fields_in : List Field → List ℕ → ℕ → ℕ → Option (List Field)
fields_in [] bytes limit at = only (at == limit) (Some [])
fields_in (form ∷ forms) bytes limit at =
    taking (field_in form bytes limit at) (λ first. taking (fields_in forms bytes limit first.1)
    (λ others. Some (first.0 ∷ others)))

-- the data of a type that has such fields
unfoldable pub data_of : ℕ → List Field → Rdata
data_of kind fields =
    if is_known_type kind then listed kind fields
    else rdata.Opaque kind (text_of (field_at 0 fields))

-- the data of a type, by the fields that data of this type has
unfoldable pub data_in : ℕ → List ℕ → ℕ → ℕ → Option Rdata
data_in kind bytes at behind =
    taking (fields_in (fields_of (data_of kind [])) bytes behind at)
    (λ fields. Some (data_of kind fields))

-- Records and sections.

-- the offset behind the record whose owner ends here
unfoldable pub end_in : List ℕ → ℕ → Option ℕ
end_in bytes middle =
    only (nat_le (middle + 10 + u16_at bytes (middle + 8)) (length bytes))
    (Some (middle + 10 + u16_at bytes (middle + 8)))

unfoldable pub record_of : List ℕ → Labels → ℕ → Rdata → RecordData
record_of bytes owner middle d = record {
  owner = owner;
  class = u16_at bytes (middle + 2);
  ttl = ttl_at bytes (middle + 4);
  rdata = d;
}

unfoldable pub opt_of : List ℕ → ℕ → Opt
opt_of bytes middle = record {
  size = u16_at bytes (middle + 2);
  ext = slice_index bytes (middle + 4);
  version = slice_index bytes (middle + 5);
  dnssec = flag_at bytes (middle + 6) 7;
}

-- what stands behind an owner: OPT, where that is the root, or another record
unfoldable pub rest_in : List ℕ → Labels → ℕ → ℕ → Option Part
rest_in bytes owner middle behind =
    if u16_at bytes middle == kinds.OPT then
    only (length owner == 0) (Some (part.Opt (opt_of bytes middle)))
    else taking (data_in (u16_at bytes middle) bytes (middle + 10) behind)
    (λ d. Some (part.Record (record_of bytes owner middle d)))

unfoldable pub part_in : List ℕ → ℕ → Option (Part × ℕ)
part_in bytes at =
    taking (name_in bytes at) (λ owner. taking (end_in bytes owner.1)
    (λ behind. taking (rest_in bytes owner.0 owner.1 behind) (λ found. Some (found, behind))))

-- the records of a section, its OPT record apart, and the offset behind them
pub record Section : Type 0 where
  pub records : List RecordData
  pub opt : Option Opt
  pub behind : ℕ

-- one more record in front; of OPT there is one at most
unfoldable pub in_front : Part → Section → Option Section
in_front (part.Record r) s =
    Some (record { records = r ∷ s.records; opt = s.opt; behind = s.behind })
in_front (part.Opt o) s =
    only (is_none s.opt) (Some (record { records = s.records; opt = Some o; behind = s.behind }))

-- so many records
unfoldable pub section_in : ℕ → List ℕ → ℕ → Option Section
section_in zero bytes at = Some (record { records = []; opt = None; behind = at })
section_in (suc left) bytes at =
    taking (part_in bytes at)
    (λ first. taking (section_in left bytes first.1) (in_front first.0))

-- so many records without OPT
unfoldable pub plain_in : ℕ → List ℕ → ℕ → Option (List RecordData × ℕ)
plain_in count bytes at =
    taking (section_in count bytes at) (λ s. only (is_none s.opt) (Some (s.records, s.behind)))

-- Messages.

unfoldable pub question_in : List ℕ → ℕ → Option (Question × ℕ)
question_in bytes at =
    taking (name_in bytes at) (λ name. only (nat_le (name.1 + 4) (length bytes)) (Some (
      record {
        name = name.0;
        kind = u16_at bytes name.1;
        class = u16_at bytes (name.1 + 2);
      },
      name.1 + 4,
    )))

-- the message of a header, a question and records
unfoldable pub message_of : List ℕ → Question → List RecordData → List RecordData → Section
    → MessageData
message_of bytes question answer authority last = record {
  id = u16_at bytes 0;
  qr = flag_at bytes 2 7;
  opcode = slice_index bytes 2 / 8 % 16;
  aa = flag_at bytes 2 2;
  tc = flag_at bytes 2 1;
  rd = flag_at bytes 2 0;
  ra = flag_at bytes 3 7;
  ad = flag_at bytes 3 5;
  cd = flag_at bytes 3 4;
  rcode = slice_index bytes 3 % 16;
  question = question;
  answer = answer;
  authority = authority;
  additional = last.records;
  opt = last.opt;
}

-- the message that the bytes spell
unfoldable pub decode : List ℕ → Option MessageData
decode bytes =
    only (nat_le limits.HEADER_BYTES (length bytes) && u16_at bytes 4 == 1)
    (taking (question_in bytes limits.HEADER_BYTES)
    (λ question. taking (plain_in (u16_at bytes 6) bytes question.1)
    (λ answer. taking (plain_in (u16_at bytes 8) bytes answer.1)
    (λ authority. taking (section_in (u16_at bytes 10) bytes authority.1)
    (λ last. Some (message_of bytes question.0 answer.0 authority.0 last))))))

-- the reply to a query that the bytes spell
unfoldable pub decode_reply : List ℕ → Option MessageData
decode_reply bytes =
    taking (decode bytes) (λ m. only (m.qr && m.opcode == opcodes.QUERY) (Some m))

-- the query that the bytes spell
unfoldable pub decode_query : List ℕ → Option MessageData
decode_query bytes =
    taking (decode bytes) (λ m. only (not m.qr && m.opcode == opcodes.QUERY) (Some m))
