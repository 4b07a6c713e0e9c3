-- When two records are the same, and when two may not stand beside each other (RFC 2181, section 5;
-- RFC 1034, section 3.6.2).
use Rattle.std.specs.Prelude.{ℕ, ◌==◌, nat_eq, Bool, not, List, [], ◌∷◌, ◌++◌}
use Rattle.std.specs.Prelude.{length, if◌then◌else◌}
use Rattle.std.specs.List.{flat_map}
use Rattle.std.specs.Int.{to_be_bytes, w16, w32, w128}
use Rattle.std.specs.Cmp.Lexicographic.{pointwise}
use Rattle.dns_names.specs.Name.{lowered, spelled}
use Rattle.dns_data.specs.Record.{Field, RecordData, fields_of, kind_of}
use Rattle.dns_data.specs.Record.{Compressed, Uncompressed, U8, U16, U32, U128, CharString}
use Rattle.dns_data.specs.Record.{NonEmpty, CharStrings, Remainder, Unknown}
use Rattle.dns_data.specs.declared.kind.TheConstants as kinds
use Rattle.dns_data.specs.declared.record.Rdata.{Rdata}
use Rattle.dns_data.specs.declared.record.Soa.{Soa}

-- a name in wire format
abbrev pub name_bytes : List (List ℕ) → List ℕ
name_bytes name = spelled name ++ 0 ∷ []

-- a character-string in wire format
abbrev pub string_bytes_of : List ℕ → List ℕ
string_bytes_of string = length string ∷ string

abbrev pub strings_bytes : List (List ℕ) → List ℕ
strings_bytes strings = flat_map string_bytes_of strings

unfoldable pub u32_bytes : ℕ → List ℕ
u32_bytes number = to_be_bytes w32 number

-- a field of a record's data in wire format, with names whole
abbrev pub field_bytes : Field → List ℕ
field_bytes (Compressed name) = name_bytes name
field_bytes (Uncompressed name) = name_bytes name
field_bytes (U8 number) = number ∷ []
field_bytes (U16 number) = to_be_bytes w16 number
field_bytes (U32 number) = u32_bytes number
field_bytes (U128 number) = to_be_bytes w128 number
field_bytes (CharString text) = string_bytes_of text
field_bytes (NonEmpty text) = string_bytes_of text
field_bytes (CharStrings texts) = strings_bytes texts
field_bytes (Remainder text) = text
field_bytes (Unknown kind text) = text

-- a record's data in wire format, with names whole
abbrev pub data_bytes : Rdata → List ℕ
data_bytes d = flat_map field_bytes (fields_of d)

-- the serial and the times of an SOA
abbrev pub numbers_bytes : Soa → List ℕ
numbers_bytes soa =
    flat_map field_bytes
    (U32 soa.serial ∷ U32 soa.refresh ∷ U32 soa.retry ∷ U32 soa.expire ∷ U32 soa.minimum ∷ [])

-- what records have in common that are the same: owner, ASCII case aside, type and data
abbrev pub record_key : RecordData → List ℕ
record_key r =
    name_bytes (lowered r.owner) ++ (to_be_bytes w16 (kind_of r.rdata) ++ data_bytes r.rdata)

-- an owner, ASCII case aside, and whether its record is a CNAME
abbrev pub side_key : List (List ℕ) → Bool → List ℕ
side_key owner is_cname = (if is_cname then 1 else 0) ∷ spelled (lowered owner)

abbrev pub is_cname : RecordData → Bool
is_cname r = kind_of r.rdata == kinds.CNAME

-- whether two records are the same, TTL and class aside
abbrev pub is_same_record : RecordData → RecordData → Bool
is_same_record r other = pointwise nat_eq (record_key other) (record_key r)

-- whether one of two records of one owner is a CNAME, and the other one isn't
abbrev pub mixes : RecordData → RecordData → Bool
mixes r other =
    pointwise nat_eq (side_key other.owner (is_cname other)) (side_key r.owner (not (is_cname r)))
