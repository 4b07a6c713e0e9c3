-- Resource records as plain data (RFC 1035, sections 3.2 and 3.3), the fields of their data, and
-- when one is proper.
use Rattle.std.specs.Prelude.{◌≡◌, ℕ, ◌+◌, ◌≤◌, ◌<◌, ◌^◌, ◌==◌, ◌||◌, Bool, false, List, [], ◌∷◌, length, Some, slice_get, slice_set}
use Rattle.std.specs.List.{AllByRecursion}
use Rattle.dns_names.specs.Name.{IsName, wire_length}
use Rattle.dns_data.specs.declared.record.Rdata.{Rdata}
use Rattle.dns_data.specs.declared.record.Rdata.TheVariants as rdata
use Rattle.dns_data.specs.declared.class.TheConstants as classes
use Rattle.dns_data.specs.declared.kind.TheConstants as kinds
use Rattle.dns_addr.specs.declared.addr.Addr.{Addr}
use Rattle.dns_addr.specs.declared.addr.Addr.TheVariants.{V4, V6}

pub record RecordData : Type 0 where
  pub owner : List (List ℕ)
  pub class : ℕ
  pub ttl : ℕ
  pub rdata : Rdata

-- A field of the data of a record: a name that may be compressed; a name that never is; numbers of
-- 8, 16, 32 and 128 bits; a character-string; one that isn't empty; character-strings up to the
-- end; bytes up to the end; and the bytes of a type without a form of its own, by its number.
pub data Field : Type 0 where
  Compressed : List (List ℕ) → Field
  Uncompressed : List (List ℕ) → Field
  U8 : ℕ → Field
  U16 : ℕ → Field
  U32 : ℕ → Field
  U128 : ℕ → Field
  CharString : List ℕ → Field
  NonEmpty : List ℕ → Field
  CharStrings : List (List ℕ) → Field
  Remainder : List ℕ → Field
  Unknown : ℕ → List ℕ → Field

-- The table of types: their numbers, and the fields of their data.

-- the number of a type
abbrev pub kind_of : Rdata → ℕ
kind_of (rdata.A addr) = kinds.A
kind_of (rdata.Ns name) = kinds.NS
kind_of (rdata.Cname name) = kinds.CNAME
kind_of (rdata.Soa soa) = kinds.SOA
kind_of (rdata.Ptr name) = kinds.PTR
kind_of (rdata.Hinfo cpu os) = kinds.HINFO
kind_of (rdata.Mx preference exchange) = kinds.MX
kind_of (rdata.Txt strings) = kinds.TXT
kind_of (rdata.Aaaa addr) = kinds.AAAA
kind_of (rdata.Srv priority weight port target) = kinds.SRV
kind_of (rdata.Caa flags tag value) = kinds.CAA
kind_of (rdata.Opaque kind bytes) = kind

-- the fields of the data, in their order
abbrev pub fields_of : Rdata → List Field
fields_of (rdata.A addr) = U32 addr ∷ []
fields_of (rdata.Ns name) = Compressed name ∷ []
fields_of (rdata.Cname name) = Compressed name ∷ []
fields_of (rdata.Soa soa) =
    Compressed soa.mname ∷ Compressed soa.rname ∷ U32 soa.serial ∷ U32 soa.refresh ∷ U32 soa.retry
    ∷ U32 soa.expire ∷ U32 soa.minimum ∷ []
fields_of (rdata.Ptr name) = Compressed name ∷ []
fields_of (rdata.Hinfo cpu os) = CharString cpu ∷ CharString os ∷ []
fields_of (rdata.Mx preference exchange) = U16 preference ∷ Compressed exchange ∷ []
fields_of (rdata.Txt strings) = CharStrings strings ∷ []
fields_of (rdata.Aaaa addr) = U128 addr ∷ []
fields_of (rdata.Srv priority weight port target) =
    U16 priority ∷ U16 weight ∷ U16 port ∷ Uncompressed target ∷ []
fields_of (rdata.Caa flags tag value) = U8 flags ∷ NonEmpty tag ∷ Remainder value ∷ []
fields_of (rdata.Opaque kind bytes) = Unknown kind bytes ∷ []

-- whether a type has a form of its own, OPT (41) among them, so that no record of it is opaque
unfoldable pub is_known_type : ℕ → Bool
is_known_type kind =
    kind == kinds.A || kind == kinds.NS || kind == kinds.CNAME || kind == kinds.SOA
    || kind == kinds.PTR || kind == kinds.HINFO || kind == kinds.MX || kind == kinds.TXT
    || kind == kinds.AAAA || kind == kinds.SRV || kind == kinds.OPT || kind == kinds.CAA

-- strings, each behind its length byte
abbrev pub strings_length : List (List ℕ) → ℕ
strings_length [] = 0
strings_length (string ∷ strings) = length string + 1 + strings_length strings

-- how many bytes a field takes, a name aside
abbrev pub text_length : Field → ℕ
text_length (Compressed labels) = 0
text_length (Uncompressed labels) = 0
text_length (U8 number) = 1
text_length (U16 number) = 2
text_length (U32 number) = 4
text_length (U128 number) = 16
text_length (CharString text) = length text + 1
text_length (NonEmpty text) = length text + 1
text_length (CharStrings texts) = strings_length texts
text_length (Remainder text) = length text
text_length (Unknown kind text) = length text

abbrev pub texts_length : List Field → ℕ
texts_length [] = 0
texts_length (field ∷ fields) = text_length field + texts_length fields

-- the names among fields
abbrev pub names_among : List Field → List (List (List ℕ))
names_among [] = []
names_among (Compressed labels ∷ fields) = labels ∷ names_among fields
names_among (Uncompressed labels ∷ fields) = labels ∷ names_among fields
names_among (field ∷ fields) = names_among fields

-- how many bytes names take that are written whole
abbrev pub names_length : List (List (List ℕ)) → ℕ
names_length [] = 0
names_length (name ∷ names) = wire_length name + names_length names

-- the names that the data holds
abbrev pub names_in : Rdata → List (List (List ℕ))
names_in d = names_among (fields_of d)

-- how many bytes the data takes with its names written whole
abbrev pub data_length : Rdata → ℕ
data_length d = names_length (names_in d) + texts_length (fields_of d)

-- a string's length stands in a byte
abbrev pub IsCharacterString : List ℕ → Type 0
IsCharacterString string = length string ≤ 255

-- strings have their form, a tag has at least one byte (RFC 8659, section 4.1), and bytes without a
-- form are those of a type that has none
abbrev pub HasForm : Field → Type 0
HasForm (CharString text) = IsCharacterString text
HasForm (NonEmpty text) = (1 ≤ length text) × IsCharacterString text
HasForm (CharStrings texts) = AllByRecursion IsCharacterString texts
HasForm (Unknown kind text) = is_known_type kind ≡ false
HasForm field = Unit {0}

pub record AreFormed (fields : List Field) : Type 0 where
  pub each : AllByRecursion HasForm fields
  pub short : texts_length fields ≤ 65535

-- the strings and bytes have the form of the type. Names and numbers always have.
abbrev pub IsFormed : Rdata → Type 0
IsFormed d = AreFormed (fields_of d)

-- a number fits its size
abbrev pub NumberFits : Field → Type 0
NumberFits (U8 number) = number < 2 ^ 8
NumberFits (U16 number) = number < 2 ^ 16
NumberFits (U32 number) = number < 2 ^ 32
NumberFits (U128 number) = number < 2 ^ 128
NumberFits (Unknown kind text) = kind < 2 ^ 16
NumberFits field = Unit {0}

-- the numbers fit the form of the type
abbrev pub NumbersFit : Rdata → Type 0
NumbersFit d = AllByRecursion NumberFits (fields_of d)

-- the data has the form of its type, and takes at most 65,535 bytes with its names written whole
pub record IsData (d : Rdata) : Type 0 where
  pub form : IsFormed d
  pub numbers : NumbersFit d
  pub names : AllByRecursion IsName (names_in d)
  pub short : data_length d ≤ 65535

-- a TTL is below 2^31 (RFC 2181, section 8)
pub record IsProper (r : RecordData) : Type 0 where
  pub owner : IsName r.owner
  pub class : r.class < 2 ^ 16
  pub ttl : r.ttl < 2 ^ 31
  pub rdata : IsData r.rdata

-- a record with another owner and TTL
abbrev pub owned_by : List (List ℕ) → ℕ → RecordData → RecordData
owned_by owner ttl r = record { owner = owner; class = r.class; ttl = ttl; rdata = r.rdata }

-- the record at an index is changed, and no other
abbrev pub Changes : (RecordData → RecordData) → ℕ → List RecordData → List RecordData → Type 0
Changes f index old new =
    (r : RecordData) → slice_get old index ≡ Some r → new ≡ slice_set old index (f r)

-- the data of an A or AAAA record
abbrev pub address_data : Addr → Rdata
address_data (V4 bits) = rdata.A bits
address_data (V6 bits) = rdata.Aaaa bits

-- the record of an address (class IN)
abbrev pub address_record : List (List ℕ) → ℕ → Addr → RecordData
address_record owner ttl addr =
    record { owner = owner; class = classes.IN; ttl = ttl; rdata = address_data addr }

-- the SRV record of a port (class IN), with priority 0, weight 0 and the root for its target
abbrev pub service_record : List (List ℕ) → ℕ → ℕ → RecordData
service_record owner ttl port =
    record { owner = owner; class = classes.IN; ttl = ttl; rdata = rdata.Srv 0 0 port [] }
