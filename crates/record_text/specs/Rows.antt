-- The table of types: which words spell the data of each (RFC 1035, section 3.3; AAAA by RFC 3596,
-- SRV by RFC 2782, CAA by RFC 8659, other types by RFC 3597, section 5). Bytes by number: 35 `#`,
-- 92 `\`.
use Rattle.std.specs.Prelude.{ℕ, ◌^◌, ◌==◌, nat_lt, Bool, false, ◌&&◌, ◌||◌, List, [], ◌∷◌, length}
use Rattle.std.specs.Prelude.{Option, Some, None, option_map, option_and_then, if◌then◌else◌}
use Rattle.std.specs.List.{flat_map}
use Rattle.dns_data.specs.declared.kind.TheConstants as kinds
use Rattle.dns_data.specs.declared.limit.TheConstants as limits
use Rattle.dns_data.specs.declared.record.Rdata.{Rdata}
use Rattle.dns_data.specs.declared.record.Rdata.TheVariants as rdata
use Rattle.dns_data.specs.Record.{strings_length}
use Rattle.record_text.specs.Fields.{PlaceData, ended, name_in, string_in, tag_in, taking, ttl_in}
use Rattle.record_text.specs.Fields.{u16_in, u32_in, u8_in, v4_in, v6_in}
use Rattle.record_text.specs.Strings.{hex_of}
use Rattle.record_text.specs.Words.{WordData}
use Rattle.numbers.specs.{number_below}

-- an address
abbrev pub a_row : List WordData → Option Rdata
a_row = taking v4_in (λ addr. ended (rdata.A addr))

-- an address
abbrev pub aaaa_row : List WordData → Option Rdata
aaaa_row = taking v6_in (λ addr. ended (rdata.Aaaa addr))

-- a name, of the type that is made of it
abbrev pub name_row : (List (List ℕ) → Rdata) → PlaceData → List WordData → Option Rdata
name_row made place = taking (name_in place) (λ name. ended (made name))

-- the four TTLs at the end of an SOA
abbrev pub times_row : List (List ℕ) → List (List ℕ) → ℕ → List WordData → Option Rdata
times_row mname rname serial =
    taking ttl_in (λ refresh. taking ttl_in (λ retry. taking ttl_in (λ expire. taking ttl_in
    (λ minimum. ended (rdata.Soa (record {
      mname = mname;
      rname = rname;
      serial = serial;
      refresh = refresh;
      retry = retry;
      expire = expire;
      minimum = minimum;
    }))))))

-- two names, a serial, and refresh, retry, expire and minimum
abbrev pub soa_row : PlaceData → List WordData → Option Rdata
soa_row place =
    taking (name_in place) (λ mname. taking (name_in place) (λ rname. taking u32_in
    (λ serial. times_row mname rname serial)))

-- CPU and OS
abbrev pub hinfo_row : List WordData → Option Rdata
hinfo_row = taking string_in (λ cpu. taking string_in (λ os. ended (rdata.Hinfo cpu os)))

-- preference and exchange
abbrev pub mx_row : PlaceData → List WordData → Option Rdata
mx_row place =
    taking u16_in (λ preference. taking (name_in place) (λ name. ended (rdata.Mx preference name)))

-- priority, weight, port and target
abbrev pub srv_row : PlaceData → List WordData → Option Rdata
srv_row place =
    taking u16_in (λ priority. taking u16_in (λ weight. taking u16_in (λ port.
    taking (name_in place) (λ target. ended (rdata.Srv priority weight port target)))))

-- flags, tag and value
abbrev pub caa_row : List WordData → Option Rdata
caa_row =
    taking u8_in (λ flags. taking tag_in (λ tag. taking string_in
    (λ value. ended (rdata.Caa flags tag value))))

-- each word as a character-string
abbrev pub strings_of : List WordData → Option (List (List ℕ))
strings_of [] = Some []
strings_of (word ∷ words) =
    option_and_then (λ string. option_map (λ others. string ∷ others) (strings_of words))
    (string_in word)

-- character-strings that fit the data of a record
abbrev pub if_short : List (List ℕ) → Option Rdata
if_short strings =
    if nat_lt limits.RDATA_BYTES (strings_length strings) then None else Some (rdata.Txt strings)

-- one or more character-strings
abbrev pub txt_row : List WordData → Option Rdata
txt_row [] = None
txt_row (word ∷ words) = option_and_then if_short (strings_of (word ∷ words))

-- whether a text is `\#`
abbrev pub is_mark : List ℕ → Bool
is_mark [] = false
is_mark (byte ∷ []) = false
is_mark (byte ∷ second ∷ []) = byte == 92 && second == 35
is_mark (byte ∷ second ∷ third ∷ bytes) = false

-- bytes of this number
abbrev pub if_sized : ℕ → ℕ → List ℕ → Option Rdata
if_sized kind size bytes = if length bytes == size then Some (rdata.Opaque kind bytes) else None

-- the bytes of words, one word behind the other
abbrev pub digits_in : List WordData → List ℕ
digits_in words = flat_map (λ word. word.text) words

-- a length below 65,536, and that many bytes in hexadecimal, in any number of words
abbrev pub bytes_row : ℕ → List WordData → Option Rdata
bytes_row kind [] = None
bytes_row kind (size ∷ digits) =
    option_and_then (λ n. option_and_then (if_sized kind n) (hex_of (digits_in digits)))
    (number_below (2 ^ 16) size.text)

-- the form for types that have none of their own: `\#`, and the bytes
abbrev pub opaque_row : ℕ → List WordData → Option Rdata
opaque_row kind [] = None
opaque_row kind (mark ∷ words) = if is_mark mark.text then bytes_row kind words else None

-- the data of a type that its words spell. OPT and ANY have no records.
unfoldable pub data_of : PlaceData → ℕ → List WordData → Option Rdata
data_of place kind words =
    if kind == kinds.A then a_row words
    else if kind == kinds.NS then name_row rdata.Ns place words
    else if kind == kinds.CNAME then name_row rdata.Cname place words
    else if kind == kinds.SOA then soa_row place words
    else if kind == kinds.PTR then name_row rdata.Ptr place words
    else if kind == kinds.HINFO then hinfo_row words
    else if kind == kinds.MX then mx_row place words
    else if kind == kinds.TXT then txt_row words
    else if kind == kinds.AAAA then aaaa_row words
    else if kind == kinds.SRV then srv_row place words
    else if kind == kinds.CAA then caa_row words
    else if kind == kinds.OPT || kind == kinds.ANY then None
    else opaque_row kind words
