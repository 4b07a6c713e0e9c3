-- Addresses as text: IPv4 in decimal, IPv6 by RFC 4291, section 2.2, printed by RFC 5952. Bytes by
-- number: 46 `.`, 47 `/`, 48 `0`, 58 `:`.
use Rattle.std.specs.Prelude.{◌<◌, ℕ, zero, suc, ◌+◌, ◌-◌, ◌*◌, ◌/◌, ◌%◌, ◌^◌, ◌==◌, nat_lt, Bool, true, false, ◌&&◌, not, List, [], ◌∷◌, ◌++◌, length, max, take, drop, replicate, slice_index, Option, Some, None, option_map, option_and_then, if◌then◌else◌}
use Rattle.std.specs.Char.{is_ascii_digit}
use Rattle.std.specs.Fmt.{decimal, digits}
use Rattle.dns_addr.specs.declared.addr.Addr.{Addr}
use Rattle.dns_addr.specs.declared.addr.Addr.TheVariants.{V4, V6}
use Rattle.dns_addr.specs.declared.net.Net.{Net}
use Rattle.std.specs.Int.{is_in_range}

-- what stands before and behind the first byte of this value
abbrev pub cut_once : ℕ → List ℕ → Option (List ℕ × List ℕ)
cut_once byte [] = None
cut_once byte (first ∷ text) =
    if first == byte then Some ([], text)
    else option_map (λ cut. (first ∷ cut.0, cut.1)) (cut_once byte text)

-- the number below 256 of one to three digits, of which the first is no needless zero
abbrev pub octet_of : List ℕ → Option ℕ
octet_of [] = None
octet_of (a ∷ []) = if is_ascii_digit a then Some (a - 48) else None
octet_of (a ∷ b ∷ []) =
    if is_ascii_digit a && not (a == 48) && is_ascii_digit b
    then Some (10 * (a - 48) + (b - 48)) else None
octet_of (a ∷ b ∷ c ∷ []) =
    if is_ascii_digit a && not (a == 48) && is_ascii_digit b && is_ascii_digit c
    && nat_lt (100 * (a - 48) + 10 * (b - 48) + (c - 48)) 256
    then Some (100 * (a - 48) + 10 * (b - 48) + (c - 48)) else None
octet_of (a ∷ b ∷ c ∷ d ∷ text) = None

-- the numbers of a text, with so many dots between them
abbrev pub octets_of : ℕ → List ℕ → Option (List ℕ)
octets_of zero text = option_map (λ octet. octet ∷ []) (octet_of text)
octets_of (suc dots) text =
    option_and_then
    (λ cut. option_and_then
    (λ octet. option_map (λ others. octet ∷ others) (octets_of dots cut.1))
    (octet_of cut.0))
    (cut_once 46 text)

-- four bytes as a number, the first one highest
abbrev pub v4_number : List ℕ → ℕ
v4_number [] = 0
v4_number (octet ∷ octets) = octet * 256 ^ length octets + v4_number octets

-- the IPv4 address that a text spells: four numbers parted by dots
unfoldable pub v4_of : List ℕ → Option ℕ
v4_of text = option_map v4_number (octets_of 3 text)

-- an IPv4 address, printed
abbrev pub v4_text : ℕ → List ℕ
v4_text addr =
    decimal (addr / 2 ^ 24) ++ 46
    ∷ (decimal (addr / 2 ^ 16 % 256) ++ 46
    ∷ (decimal (addr / 2 ^ 8 % 256) ++ 46 ∷ decimal (addr % 256)))

-- what a hexadecimal digit stands for
abbrev pub hex_digit : ℕ → Option ℕ
hex_digit byte =
    if is_ascii_digit byte then Some (byte - 48)
    else if is_in_range 97 102 byte then Some (byte - 87)
    else if is_in_range 65 70 byte then Some (byte - 55)
    else None

-- a number in hexadecimal, with at most so many digits behind those that were read
abbrev pub hex_from : ℕ → ℕ → List ℕ → Option ℕ
hex_from digits number [] = Some number
hex_from zero number (byte ∷ text) = None
hex_from (suc digits) number (byte ∷ text) =
    option_and_then (λ digit. hex_from digits (16 * number + digit) text) (hex_digit byte)

-- the group of one to four hexadecimal digits
abbrev pub group_of : List ℕ → Option ℕ
group_of [] = None
group_of (byte ∷ text) = option_and_then (λ digit. hex_from 3 digit text) (hex_digit byte)

-- the last of the groups, or an IPv4 address in place of the last two, where so many groups may
-- stand
abbrev pub last_groups : ℕ → List ℕ → Option ℕ → Option (List ℕ)
last_groups room text None = option_map (λ group. group ∷ []) (group_of text)
last_groups room text (Some addr) =
    if nat_lt 1 room then Some ((addr / 65536) ∷ (addr % 65536) ∷ []) else None

-- an IPv4 address, where one may stand
abbrev pub v4_if : Bool → List ℕ → Option ℕ
v4_if true text = v4_of text
v4_if false text = None

-- what a text means by the cut at its first colon, or without one
abbrev pub by_cut : Option (List ℕ) → (List ℕ → List ℕ → Option (List ℕ))
    → Option (List ℕ × List ℕ) → Option (List ℕ)
by_cut last more None = last
by_cut last more (Some cut) = more cut.0 cut.1

-- the groups that colons part, at most so many; at the end of an address the last two may be an
-- IPv4 address
unfoldable pub groups_of : Bool → ℕ → List ℕ → Option (List ℕ)
groups_of tail zero text = None
groups_of tail (suc room) text =
    by_cut (last_groups (suc room) text (v4_if tail text))
    (λ piece behind. option_and_then
    (λ group. option_map (λ others. group ∷ others) (groups_of tail room behind))
    (group_of piece))
    (cut_once 58 text)

-- the groups at one side of `::`, where none may be
abbrev pub side_groups : Bool → List ℕ → Option (List ℕ)
side_groups tail [] = Some []
side_groups tail (first ∷ text) = groups_of tail 8 (first ∷ text)

-- eight groups, with zeros for one or more of them
abbrev pub filled_up : List ℕ → List ℕ → Option (List ℕ)
filled_up front back =
    if nat_lt (length front + length back) 8
    then Some (front ++ (replicate (8 - length front - length back) 0 ++ back)) else None

-- eight groups, of which none was left out
abbrev pub if_eight : List ℕ → Option (List ℕ)
if_eight groups = if length groups == 8 then Some groups else None

-- whether two colons stand first
abbrev pub begins_colons : List ℕ → Bool
begins_colons [] = false
begins_colons (first ∷ []) = false
begins_colons (first ∷ second ∷ text) = first == 58 && second == 58

-- how many bytes stand before the first two colons that stand together
abbrev pub colons_at : List ℕ → Option ℕ
colons_at [] = None
colons_at (first ∷ text) =
    if begins_colons (first ∷ text) then Some 0 else option_map (λ at. at + 1) (colons_at text)

-- the eight groups of an address: all of them, or some at both sides of `::`
abbrev pub eight_groups : List ℕ → Option ℕ → Option (List ℕ)
eight_groups text None = option_and_then if_eight (groups_of true 8 text)
eight_groups text (Some at) =
    option_and_then
    (λ front. option_and_then (filled_up front) (side_groups true (drop (at + 2) text)))
    (side_groups false (take at text))

-- eight groups as a number, the first one highest
abbrev pub v6_number : List ℕ → ℕ
v6_number groups =
    slice_index groups 0 * 2 ^ 112 + slice_index groups 1 * 2 ^ 96
    + slice_index groups 2 * 2 ^ 80 + slice_index groups 3 * 2 ^ 64
    + slice_index groups 4 * 2 ^ 48 + slice_index groups 5 * 2 ^ 32
    + slice_index groups 6 * 2 ^ 16 + slice_index groups 7

-- the IPv6 address that a text spells
unfoldable pub v6_of : List ℕ → Option ℕ
v6_of text = option_map v6_number (eight_groups text (colons_at text))

-- the address that a text spells
abbrev pub v4_or_v6 : List ℕ → Option ℕ → Option Addr
v4_or_v6 text (Some addr) = Some (V4 addr)
v4_or_v6 text None = option_map V6 (v6_of text)

unfoldable pub addr_of : List ℕ → Option Addr
addr_of text = v4_or_v6 text (v4_of text)

-- an address has 32 bits, or 128
abbrev pub IsAddr : Addr → Type 0
IsAddr (V4 addr) = addr < 2 ^ 32
IsAddr (V6 addr) = addr < 2 ^ 128

-- how many bits an address has
abbrev pub width : Addr → ℕ
width (V4 addr) = 32
width (V6 addr) = 128

-- a number in decimal behind the digits that were read
abbrev pub digits_from : ℕ → List ℕ → Option ℕ
digits_from number [] = Some number
digits_from number (byte ∷ text) =
    if is_ascii_digit byte then digits_from (10 * number + (byte - 48)) text else None

-- the number, if it is at most so much
abbrev pub at_most : ℕ → ℕ → Option ℕ
at_most most number = if nat_lt most number then None else Some number

-- a number in decimal, with leading zeros or without, and at most so much
abbrev pub bits_of : ℕ → List ℕ → Option ℕ
bits_of most [] = None
bits_of most (byte ∷ text) = option_and_then (at_most most) (digits_from 0 (byte ∷ text))

-- the net of an address and so many of its bits
abbrev pub net : Addr → ℕ → Net
net addr bits = record { addr = addr; bits = bits }

-- an address alone, with all its bits, or with `/` and how many of them
abbrev pub net_by : List ℕ → Option (List ℕ × List ℕ) → Option Net
net_by text None = option_map (λ addr. net addr (width addr)) (addr_of text)
net_by text (Some cut) =
    option_and_then (λ addr. option_map (net addr) (bits_of (width addr) cut.1)) (addr_of cut.0)

-- the net that a text spells
unfoldable pub net_of : List ℕ → Option Net
net_of text = net_by text (cut_once 47 text)

-- whether two addresses are of one family and agree in their first bits
abbrev pub agree : ℕ → Addr → Addr → Bool
agree bits (V4 a) (V4 b) = a / 2 ^ (32 - bits) == b / 2 ^ (32 - bits)
agree bits (V6 a) (V6 b) = a / 2 ^ (128 - bits) == b / 2 ^ (128 - bits)
agree bits (V4 a) (V6 b) = false
agree bits (V6 a) (V4 b) = false

-- the eight groups of an address, the highest first
abbrev pub v6_groups : ℕ → List ℕ
v6_groups addr =
    (addr / 2 ^ 112) ∷ (addr / 2 ^ 96 % 65536) ∷ (addr / 2 ^ 80 % 65536)
    ∷ (addr / 2 ^ 64 % 65536) ∷ (addr / 2 ^ 48 % 65536) ∷ (addr / 2 ^ 32 % 65536)
    ∷ (addr / 2 ^ 16 % 65536) ∷ (addr % 65536) ∷ []

-- how many zeros stand first
abbrev pub zeros : List ℕ → ℕ
zeros [] = 0
zeros (group ∷ groups) = if group == 0 then 1 + zeros groups else 0

-- how long the longest run of zeros is
abbrev pub longest : List ℕ → ℕ
longest [] = 0
longest (group ∷ groups) = max (zeros (group ∷ groups)) (longest groups)

-- where the first run of so many zeros begins
abbrev pub first_run : ℕ → List ℕ → ℕ
first_run size [] = 0
first_run size (group ∷ groups) =
    if zeros (group ∷ groups) == size then 0 else 1 + first_run size groups

-- groups behind another one, each with a colon in front
abbrev pub more_groups : List ℕ → List ℕ
more_groups [] = []
more_groups (group ∷ groups) = 58 ∷ (digits 16 false group ++ more_groups groups)

-- groups in small hexadecimal letters without leading zeros, with colons between them
abbrev pub groups_text : List ℕ → List ℕ
groups_text [] = []
groups_text (group ∷ groups) = digits 16 false group ++ more_groups groups

-- groups with `::` for so many of them from this place on
abbrev pub shortened : List ℕ → ℕ → ℕ → List ℕ
shortened groups at size =
    groups_text (take at groups) ++ 58 ∷ 58 ∷ groups_text (drop (at + size) groups)

-- eight groups, with `::` for the first of the longest runs of zeros, if it has two or more
abbrev pub v6_groups_text : List ℕ → List ℕ
v6_groups_text groups =
    if nat_lt (longest groups) 2 then groups_text groups
    else shortened groups (first_run (longest groups) groups) (longest groups)

-- an IPv6 address, printed (RFC 5952, section 4)
unfoldable pub v6_text : ℕ → List ℕ
v6_text addr = v6_groups_text (v6_groups addr)

-- an address, printed
abbrev pub addr_text : Addr → List ℕ
addr_text (V4 addr) = v4_text addr
addr_text (V6 addr) = v6_text addr
