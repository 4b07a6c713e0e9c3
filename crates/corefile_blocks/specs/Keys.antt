-- The keys of a block: `[dns://]ZONE[:PORT]` or `[dns://]ADDRESS/BITS[:PORT]`. Bytes by number:
-- 44 `,`, 47 `/`, 58 `:`.
use Rattle.std.specs.Prelude.{ℕ, ◌+◌, ◌-◌, ◌*◌, ◌==◌, nat_le, Bool, ◌&&◌, ◌||◌, List, []}
use Rattle.std.specs.Prelude.{◌∷◌, ◌++◌, length, codes, drop, take, Option, Some, None, option_map}
use Rattle.std.specs.Prelude.{option_and_then, Result, Ok, Err, if◌then◌else◌}
use Rattle.std.specs.List.{flat_map, list_any}
use Rattle.std.specs.Char.{is_ascii_digit}
use Rattle.corefile_words.specs.declared.word.Word.{Word}
use Rattle.zone_words.specs.{has_byte, name_zone, net_zone}
use Rattle.dns_data.specs.{same_labels}
use Rattle.dns_data.specs.declared.block.Block.{Block}
use Rattle.dns_data.specs.declared.block.BlockKey.{BlockKey}
use Rattle.corefile_blocks.specs.declared.fault.BlockWhy.{BlockWhy}
use Rattle.corefile_blocks.specs.declared.fault.BlockWhy.TheVariants as why
use Rattle.corefile_blocks.specs.LineForms.{same_text}

-- a byte in front of the first piece
abbrev pub with_first : ℕ → List (List ℕ) → List (List ℕ)
with_first byte [] = (byte ∷ []) ∷ []
with_first byte (piece ∷ pieces) = (byte ∷ piece) ∷ pieces

-- the text cut at each comma
abbrev pub cut_at_commas : List ℕ → List (List ℕ)
cut_at_commas [] = [] ∷ []
cut_at_commas (byte ∷ text) =
    if byte == 44 then [] ∷ cut_at_commas text else with_first byte (cut_at_commas text)

-- a piece that has bytes
abbrev pub unless_empty : List ℕ → List (List ℕ)
unless_empty [] = []
unless_empty (byte ∷ text) = (byte ∷ text) ∷ []

-- the pieces of a word between its commas, without empty ones
unfoldable pub pieces_of : List ℕ → List (List ℕ)
pieces_of text = flat_map unless_empty (cut_at_commas text)

-- whether a text begins with these bytes
abbrev pub begins_with : List ℕ → List ℕ → Bool
begins_with mark text = same_text mark (take (length mark) text)

-- how many bytes stand before the first `://`
abbrev pub scheme_at : List ℕ → Option ℕ
scheme_at [] = None
scheme_at (byte ∷ text) =
    if begins_with (codes "://") (byte ∷ text) then Some 0
    else option_map (λ at. at + 1) (scheme_at text)

-- a key without its scheme, of which `dns` is the only one
abbrev pub behind_scheme : List ℕ → Option ℕ → Option (List ℕ)
behind_scheme text None = Some text
behind_scheme text (Some at) =
    if same_text (take at text) (codes "dns") then Some (drop (at + 3) text) else None

-- whether a colon or a `/` is in the text
abbrev pub has_mark : List ℕ → Bool
has_mark text = list_any (λ byte. byte == 58 || byte == 47) text

-- how many bytes stand before the last colon, unless a `/` stands behind that
abbrev pub port_at : List ℕ → Option ℕ
port_at [] = None
port_at (byte ∷ text) =
    if has_mark text then option_map (λ at. at + 1) (port_at text)
    else if byte == 58 then Some 0
    else None

-- a number in decimal behind the digits that were read
abbrev pub number_from : ℕ → List ℕ → Option ℕ
number_from number [] = Some number
number_from number (byte ∷ text) =
    if is_ascii_digit byte then number_from (10 * number + (byte - 48)) text else None

-- the number, if it is a port
abbrev pub if_port : ℕ → Option ℕ
if_port number = if nat_le 1 number && nat_le number 65535 then Some number else None

-- the port that one to five digits spell
unfoldable pub port_of : List ℕ → Option ℕ
port_of text =
    if nat_le 1 (length text) && nat_le (length text) 5
    then option_and_then if_port (number_from 0 text) else None

-- the port of a key, which may name none
abbrev pub port_or : ℕ → List ℕ → Option ℕ → Option ℕ
port_or port text None = Some port
port_or port text (Some at) = port_of (drop (at + 1) text)

-- a key without its port
abbrev pub before_port : List ℕ → Option ℕ → List ℕ
before_port text None = text
before_port text (Some at) = take at text

-- the zone, or why the text has none
abbrev pub zone_or : BlockWhy → Option (List (List ℕ)) → Result (List (List ℕ)) BlockWhy
zone_or fault None = Err fault
zone_or fault (Some zone) = Ok zone

-- the zone of a key without scheme and port
unfoldable pub key_zone : List ℕ → Result (List (List ℕ)) BlockWhy
key_zone text =
    if has_byte 47 text then zone_or why.Cidr (net_zone text) else zone_or why.Zone (name_zone text)

-- the key of a port and a zone, of which a bad port is told first
abbrev pub key_by : ℕ → Option ℕ → Result (List (List ℕ)) BlockWhy → Result BlockKey BlockWhy
key_by line None zone = Err why.Port
key_by line (Some port) (Err fault) = Err fault
key_by line (Some port) (Ok zone) = Ok (record { zone = zone; port = port; line = line })

-- the key of a text behind its scheme
abbrev pub key_behind : ℕ → ℕ → Option (List ℕ) → Result BlockKey BlockWhy
key_behind port line None = Err why.Scheme
key_behind port line (Some text) =
    key_by line (port_or port text (port_at text)) (key_zone (before_port text (port_at text)))

-- the key that a piece of a header in this line spells, with this port where it names none
unfoldable pub key_of : ℕ → ℕ → List ℕ → Result BlockKey BlockWhy
key_of port line text = key_behind port line (behind_scheme text (scheme_at text))

-- keys that were read up to the first piece that is none, and why that one is none
pub record HeaderData : Type 0 where
  pub keys : List BlockKey
  pub fault : Option BlockWhy

-- with one more key, or with the fault of a piece that is none
abbrev pub with_key : HeaderData → Result BlockKey BlockWhy → HeaderData
with_key header (Err fault) = record { keys = header.keys; fault = Some fault }
with_key header (Ok key) = record { keys = header.keys ++ key ∷ []; fault = None }

-- with the key of one more piece, by the fault of those before
abbrev pub add_by : ℕ → ℕ → HeaderData → List ℕ → Option BlockWhy → HeaderData
add_by port line header piece None = with_key header (key_of port line piece)
add_by port line header piece (Some fault) = header

-- with the key of one more piece, unless one before was none
abbrev pub add_key : ℕ → ℕ → HeaderData → List ℕ → HeaderData
add_key port line header piece = add_by port line header piece header.fault

-- with the keys of pieces, from left to right
abbrev pub add_keys : ℕ → ℕ → HeaderData → List (List ℕ) → HeaderData
add_keys port line header [] = header
add_keys port line header (piece ∷ pieces) =
    add_keys port line (add_key port line header piece) pieces

-- the pieces of words
abbrev pub all_pieces : List Word → List (List ℕ)
all_pieces words = flat_map (λ word. pieces_of word.text) words

-- no key was read yet
abbrev pub no_keys : HeaderData
no_keys = record { keys = []; fault = None }

-- what was read, where there is a key, or a piece that is none
abbrev pub or_no_key : List BlockKey → Option BlockWhy → HeaderData
or_no_key [] None = record { keys = []; fault = Some why.NoKey }
or_no_key [] (Some fault) = record { keys = []; fault = Some fault }
or_no_key (key ∷ keys) fault = record { keys = key ∷ keys; fault = fault }

-- the keys of the words before a header's `{`
unfoldable pub header_keys : ℕ → ℕ → List Word → HeaderData
header_keys port line words =
    let header = add_keys port line no_keys (all_pieces words) in
    or_no_key header.keys header.fault

-- whether two keys have one zone and one port
abbrev pub same_key : BlockKey → BlockKey → Bool
same_key a b = same_labels a.zone b.zone && a.port == b.port

-- the line of the first of these keys whose zone and port stood before it
abbrev pub double_behind : List BlockKey → List BlockKey → Option ℕ
double_behind before [] = None
double_behind before (key ∷ keys) =
    if list_any (same_key key) before then Some key.line
    else double_behind (before ++ key ∷ []) keys

-- the keys of blocks, in order
abbrev pub keys_of : List Block → List BlockKey
keys_of blocks = flat_map (λ block. block.keys) blocks

-- the line of the first key whose zone and port stood before, in its block or in an earlier one
unfoldable pub double_key : List Block → Option ℕ
double_key blocks = double_behind [] (keys_of blocks)
