-- The records of a zone file (RFC 1035, section 5), entry by entry. Bytes by number: 36 `$`.
use Rattle.std.specs.Prelude.{◌<◌, ◌^◌, IfSome}
use Rattle.std.specs.Prelude.{◌≡◌, ℕ, ◌-◌, ◌==◌, nat_eq, nat_lt, Bool, false, ◌&&◌, ◌||◌, not, List}
use Rattle.std.specs.Prelude.{[], ◌∷◌}
use Rattle.std.specs.Prelude.{◌++◌, length, codes, Option, Some, None, option_map}
use Rattle.std.specs.Prelude.{option_and_then, Result, Ok, Err}
use Rattle.std.specs.Prelude.{if◌then◌else◌}
use Rattle.std.specs.Cmp.Lexicographic.{pointwise}
use Rattle.std.specs.List.{list_any}
use Rattle.std.specs.Option.{option_or, unwrap_or}
use Rattle.dns_names.specs.Name.{is_same, is_within}
use Rattle.dns_data.specs.Record.{RecordData, kind_of}
use Rattle.dns_data.specs.declared.kind.TheConstants as kinds
use Rattle.dns_data.specs.declared.limit.TheConstants as limits
use Rattle.dns_data.specs.declared.zone.Zone.{Zone}
use Rattle.record_text.specs.declared.fault.RecordFault.{RecordFault}
use Rattle.record_text.specs.declared.fault.RecordFault.TheVariants as record_fault
use Rattle.record_text.specs.declared.form.Form.TheVariants.{ZoneFile}
use Rattle.record_text.specs.Fields.{PlaceData, name_in}
use Rattle.record_text.specs.Records.{owned, record_of}
use Rattle.record_text.specs.Ttls.{ttl_of}
use Rattle.record_text.specs.Words.{WordData}
use Rattle.zone_file.specs.declared.entry.End.{End}
use Rattle.zone_file.specs.declared.entry.End.TheVariants.{Ended, Broken}
use Rattle.zone_file.specs.declared.fault.ZoneFault.{ZoneFault}
use Rattle.zone_file.specs.declared.fault.ZoneFault.TheVariants as fault
use Rattle.zone_file.specs.declared.fault.ZoneWhy.TheVariants as why
use Rattle.zone_file.specs.declared.state.Reading.{Reading}
use Rattle.zone_file.specs.declared.state.Statement.{Statement}
use Rattle.zone_file.specs.declared.state.Statement.TheVariants as statement
use Rattle.zone_file.specs.Entries.{EntryData, entries_of}
use Rattle.zone_file.specs.Keys.{is_same_record, mixes}

-- what comes of a value, where there was no refusal
abbrev pub and_then : {A B : Type 0} → (A → Result B ZoneFault) → Result A ZoneFault
    → Result B ZoneFault
and_then next (Ok x) = next x
and_then next (Err cause) = Err cause

-- before the first entry
abbrev pub start : List (List ℕ) → Reading
start origin = record { origin = origin; default = None; owner = None; ttl = None }

abbrev pub place_in : Reading → PlaceData
place_in reading = record { origin = reading.origin; form = ZoneFile }

-- the TTL of a record that has none: the default, or that of the record before, or an hour
abbrev pub ttl_in : Reading → ℕ
ttl_in reading = unwrap_or (option_or reading.default reading.ttl) 3600

-- the word, where there is one alone
abbrev pub only : List WordData → Option WordData
only [] = None
only (word ∷ []) = Some word
only (word ∷ second ∷ words) = None

abbrev pub or_syntax : {A : Type 0} → ℕ → Option A → Result A ZoneFault
or_syntax line None = Err (fault.Bad line why.Syntax)
or_syntax line (Some x) = Ok x

abbrev pub begins_dollar : List ℕ → Bool
begins_dollar [] = false
begins_dollar (byte ∷ bytes) = byte == 36

-- what `$ORIGIN` means with these words behind it: a name
abbrev pub origin_statement : Reading → ℕ → List WordData → Result Statement ZoneFault
origin_statement reading line words =
    or_syntax line
    (option_map statement.Origin (option_and_then (name_in (place_in reading)) (only words)))

-- what `$TTL` means with these words behind it: a TTL
abbrev pub ttl_statement : ℕ → List WordData → Result Statement ZoneFault
ttl_statement line words =
    or_syntax line
    (option_map statement.Ttl (option_and_then (λ word. ttl_of word.text) (only words)))

-- what a line that begins with `$` means
abbrev pub control : Reading → ℕ → List ℕ → List WordData → Result Statement ZoneFault
control reading line directive words =
    if pointwise nat_eq directive (codes "$ORIGIN") then origin_statement reading line words
    else if pointwise nat_eq directive (codes "$TTL") then ttl_statement line words
    else Err (fault.Bad line why.Control)

-- the record of an entry without owner, which is the owner of the record before
abbrev pub of_owner : Reading → List WordData → Option (List (List ℕ)) → Option RecordData
of_owner reading words None = None
of_owner reading words (Some owner) = record_of (place_in reading) (ttl_in reading) owner words

-- the record of an entry
abbrev pub record_in : Reading → EntryData → Option RecordData
record_in reading entry =
    if entry.indented then of_owner reading entry.words reading.owner
    else owned (place_in reading) (ttl_in reading) entry.words

abbrev pub by_record : Reading → EntryData → Result Statement ZoneFault
by_record reading entry =
    or_syntax entry.line (option_map statement.Found (record_in reading entry))

abbrev pub by_words : Reading → EntryData → List WordData → Result Statement ZoneFault
by_words reading entry [] = by_record reading entry
by_words reading entry (word ∷ words) =
    if not entry.indented && begins_dollar word.text
    then control reading entry.line word.text words
    else by_record reading entry

-- what an entry means
unfoldable pub statement_of : Reading → EntryData → Result Statement ZoneFault
statement_of reading entry = by_words reading entry entry.words

-- with what an entry means behind
abbrev pub moved : Reading → Statement → Reading
moved reading (statement.Origin origin) = record {
  origin = origin;
  default = reading.default;
  owner = reading.owner;
  ttl = reading.ttl;
}
moved reading (statement.Ttl ttl) = record {
  origin = reading.origin;
  default = Some ttl;
  owner = reading.owner;
  ttl = reading.ttl;
}
moved reading (statement.Found r) = record {
  origin = reading.origin;
  default = reading.default;
  owner = Some r.owner;
  ttl = Some r.ttl;
}

-- a TTL is below 2^31
abbrev pub IsLawful : Statement → Type 0
IsLawful (statement.Origin origin) = Unit {0}
IsLawful (statement.Ttl ttl) = ttl < 2 ^ 31
IsLawful (statement.Found r) = r.ttl < 2 ^ 31

pub record HasTtls (reading : Reading) : Type 0 where
  pub default : IfSome reading.default (λ ttl. ttl < 2 ^ 31)
  pub before : IfSome reading.ttl (λ ttl. ttl < 2 ^ 31)

-- a fault of a record's reader
abbrev pub syntax : ℕ → RecordFault → ZoneFault
syntax line record_fault.Bad = fault.Bad line why.Syntax
syntax line record_fault.NoMemory = fault.NoMemory

abbrev pub is_soa : RecordData → Bool
is_soa r = kind_of r.rdata == kinds.SOA

-- whether an SOA may not stand there: it isn't at the origin, or another one is
abbrev pub is_second_soa : List (List ℕ) → RecordData → List RecordData → Bool
is_second_soa zone r kept = is_soa r && (not (is_same r.owner zone) || list_any is_soa kept)

-- whether a zone has as many records as it may have
abbrev pub is_full : List RecordData → Bool
is_full kept = not (nat_lt (length kept) limits.ZONE_RECORDS)

-- the records with one more that isn't there
abbrev pub with_new : List (List ℕ) → ℕ → RecordData → List RecordData
    → Result (List RecordData) ZoneFault
with_new zone line r kept =
    if is_second_soa zone r kept then Err (fault.Bad line why.TwoSoa)
    else if list_any (mixes r) kept then Err (fault.Bad line why.CnameMix)
    else if is_full kept then Err fault.TooMany
    else Ok (kept ++ r ∷ [])

-- the records with one more, which is left out where it lies outside of the zone or is there
abbrev pub with_record : List (List ℕ) → ℕ → RecordData → List RecordData
    → Result (List RecordData) ZoneFault
with_record zone line r kept =
    if not (is_within r.owner zone) then Ok kept
    else if list_any (is_same_record r) kept then Ok kept
    else with_new zone line r kept

abbrev pub kept_by : List (List ℕ) → ℕ → List RecordData → Statement
    → Result (List RecordData) ZoneFault
kept_by zone line kept (statement.Origin origin) = Ok kept
kept_by zone line kept (statement.Ttl ttl) = Ok kept
kept_by zone line kept (statement.Found r) = with_record zone line r kept

-- the records at the end of a text, one of which must be an SOA
abbrev pub finished : List RecordData → End → Result (List RecordData) ZoneFault
finished kept (Broken line) = Err (fault.Bad line why.Syntax)
finished kept (Ended line) =
    if list_any is_soa kept then Ok kept else Err (fault.Bad line why.NoSoa)

-- what the entries so far say, and their records
pub record Progress : Type 0 where
  pub reading : Reading
  pub kept : List RecordData

abbrev pub progress : Reading → List RecordData → Progress
progress reading kept = record { reading = reading; kept = kept }

-- with one more entry
abbrev pub step : List (List ℕ) → Reading → List RecordData → EntryData → Result Progress ZoneFault
step zone reading kept entry =
    and_then
    (λ said. and_then (λ more. Ok (progress (moved reading said) more))
    (kept_by zone entry.line kept said))
    (statement_of reading entry)

-- the records behind the entries that are left, or the first refusal
abbrev pub records_from : List (List ℕ) → End → Reading → List RecordData → List EntryData
    → Result (List RecordData) ZoneFault
records_from zone end reading kept [] = finished kept end
records_from zone end reading kept (entry ∷ entries) =
    and_then (λ next. records_from zone end next.reading next.kept entries)
    (step zone reading kept entry)

-- the records of entries
abbrev pub zone_in : List (List ℕ) → End → List EntryData → Result (List RecordData) ZoneFault
zone_in zone end entries = records_from zone end (start zone) [] entries

-- the records of the zone that a text spells, or the first refusal
unfoldable pub zone_of : List ℕ → List (List ℕ) → Result (List RecordData) ZoneFault
zone_of text zone = zone_in zone (entries_of text).end (entries_of text).entries

-- the answer is that; want of memory can come at any time
abbrev pub Agrees : {A : Type 0} → Result A ZoneFault → Result A ZoneFault → Type 0
Agrees want (Ok x) = want ≡ Ok x
Agrees want (Err (fault.Bad line cause)) = want ≡ Err (fault.Bad line cause)
Agrees want (Err fault.TooMany) = want ≡ Err fault.TooMany
Agrees want (Err fault.NoMemory) = Unit {0}

-- the same of a step, which leaves this reading
abbrev pub Steps : Result Progress ZoneFault → Reading → Result (List RecordData) ZoneFault → Type 0
Steps want reading (Ok kept) = want ≡ Ok (progress reading kept)
Steps want reading (Err (fault.Bad line cause)) = want ≡ Err (fault.Bad line cause)
Steps want reading (Err fault.TooMany) = want ≡ Err fault.TooMany
Steps want reading (Err fault.NoMemory) = Unit {0}

-- a zone of this origin
abbrev pub zone_with : List (List ℕ) → List RecordData → Zone
zone_with origin records = record { origin = origin; records = records }

abbrev pub as_zone : List (List ℕ) → Result (List RecordData) ZoneFault → Result Zone ZoneFault
as_zone origin (Ok records) = Ok (zone_with origin records)
as_zone origin (Err cause) = Err cause

-- the answer of a reader of zones
abbrev pub ReadsZone : List ℕ → List (List ℕ) → Result Zone ZoneFault → Type 0
ReadsZone text origin result = Agrees (as_zone origin (zone_of text origin)) result
