-- Upstreams as words and files name them: `[dns://]ADDRESS`, `[dns://]IPV4:PORT` and
-- `[dns://][IPV6]:PORT`, or a file in the form of resolv.conf(5). This server's own rule, in the
-- manner of CoreDNS. Bytes by number: 9 tab, 32 space, 58 `:`, 91 `[`, 93 `]`.
use Rattle.std.specs.Prelude.{ℕ, ◌+◌, nat_lt, ◌==◌, Bool, true, false, ◌&&◌, ◌||◌, List, [], ◌∷◌, ◌++◌, take, drop, codes}
use Rattle.std.specs.Prelude.{Option, Some, None, option_map, option_and_then, if◌then◌else◌}
use Rattle.std.specs.List.{filter, slice_split}
use Rattle.std.specs.Bool.{beq}
use Rattle.corefile_words.specs.Lines.{lines_of}
use Rattle.dns_data.specs.{addr_of}
use Rattle.dns_data.specs.Addresses.{Addr, V4, V6}
use Rattle.numbers.specs.{number_of}
use Rattle.outside.specs.declared.datagram.Upstream.{Upstream}
use Rattle.plugin_api.specs.{is_word}

-- the text without `dns://` in front, where that stands there
abbrev pub without_scheme : List ℕ → List ℕ
without_scheme word =
    if is_word (take 6 word) (codes "dns://") then drop 6 word else word

abbrev pub upstream_at : Addr → ℕ → Upstream
upstream_at addr port = record { addr = addr; port = port }

-- port 53 (RFC 1035, section 4.2)
abbrev pub default_port : ℕ
default_port = 53

-- a port in one to five digits, not 0
abbrev pub if_port : ℕ → Option ℕ
if_port number = if nat_lt 0 number && nat_lt number 65536 then Some number else None

abbrev pub port_of : List ℕ → Option ℕ
port_of text = option_and_then if_port (number_of 5 text)

-- how many bytes stand before the first such byte
abbrev pub place_of : ℕ → List ℕ → Option ℕ
place_of mark [] = None
place_of mark (byte ∷ bytes) =
    if byte == mark then Some 0 else option_map (λ at. at + 1) (place_of mark bytes)

abbrev pub is_four : Addr → Bool
is_four (V4 addr) = true
is_four (V6 addr) = false

-- an address of IPv4, or of IPv6
abbrev pub if_family : Bool → Addr → Option Addr
if_family four addr = if beq four (is_four addr) then Some addr else None

abbrev pub if_placed : Option Addr → Option ℕ → Option Upstream
if_placed None port = None
if_placed (Some addr) None = None
if_placed (Some addr) (Some port) = Some (upstream_at addr port)

-- an address of a family, and a port
abbrev pub placed_at : Bool → List ℕ → List ℕ → Option Upstream
placed_at four addr port =
    if_placed (option_and_then (if_family four) (addr_of addr)) (port_of port)

-- behind `]` a colon and a port
abbrev pub behind_bracket : List ℕ → List ℕ → Option Upstream
behind_bracket addr [] = None
behind_bracket addr (byte ∷ port) = if byte == 58 then placed_at false addr port else None

abbrev pub bracketed : List ℕ → Option ℕ → Option Upstream
bracketed text None = None
bracketed text (Some at) = behind_bracket (take at text) (drop (at + 1) text)

abbrev pub with_port : List ℕ → Option ℕ → Option Upstream
with_port text None = None
with_port text (Some at) = placed_at true (take at text) (drop (at + 1) text)

-- an address alone, or an IPv4 address with a port
abbrev pub plain : List ℕ → Option Addr → Option Upstream
plain text (Some addr) = Some (upstream_at addr default_port)
plain text None = with_port text (place_of 58 text)

-- the upstream that a text names
abbrev pub upstream_in : List ℕ → Option Upstream
upstream_in [] = None
upstream_in (byte ∷ text) =
    if byte == 91 then bracketed text (place_of 93 text)
    else plain (byte ∷ text) (addr_of (byte ∷ text))

-- the upstream that a word names
unfoldable pub upstream_of : List ℕ → Option Upstream
upstream_of word = upstream_in (without_scheme word)

-- a space or a tab
abbrev pub is_blank : ℕ → Bool
is_blank byte = byte == 32 || byte == 9

abbrev pub is_filled : List ℕ → Bool
is_filled [] = false
is_filled (byte ∷ bytes) = true

-- the words of a line
unfoldable pub words_in : List ℕ → List (List ℕ)
words_in line = filter is_filled (slice_split is_blank line)

abbrev pub server_by : Option Addr → List Upstream
server_by None = []
server_by (Some addr) = upstream_at addr default_port ∷ []

-- `nameserver` and one address; another line names none
abbrev pub server_of : List (List ℕ) → List Upstream
server_of [] = []
server_of (first ∷ []) = []
server_of (first ∷ (second ∷ [])) =
    if is_word first (codes "nameserver") then server_by (addr_of second) else []
server_of (first ∷ (second ∷ (third ∷ words))) = []

abbrev pub servers_of : List (List ℕ) → List Upstream
servers_of [] = []
servers_of (line ∷ lines) = server_of (words_in line) ++ servers_of lines

-- the upstreams that a file names
unfoldable pub servers_in : List ℕ → List Upstream
servers_in text = servers_of (lines_of text)
