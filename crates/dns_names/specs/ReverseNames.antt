-- The names that stand for addresses, under in-addr.arpa (RFC 1035, section 3.5) and ip6.arpa (RFC
-- 3596, section 2.5).
use Rattle.std.specs.Prelude.{◌≡◌, ℕ, zero, suc, ◌+◌, ◌*◌, ◌/◌, ◌%◌, ◌^◌, nat_eq, Bool, false, List, [], ◌∷◌, codes, Option, Some, None, option_map, option_and_then, if◌then◌else◌}
use Rattle.std.specs.Cmp.Lexicographic.{pointwise}
use Rattle.std.specs.Fmt.{decimal, digit_glyph}
use Rattle.dns_addr.specs.declared.addr.Addr.{Addr}
use Rattle.dns_addr.specs.declared.addr.Addr.TheVariants.{V4, V6}
use Rattle.dns_names.specs.Name.{spelled, lowered}
use Rattle.dns_addr.specs.AddrText.{IsAddr, hex_digit, octet_of}

abbrev pub in_addr_arpa : List (List ℕ)
in_addr_arpa = codes "in-addr" ∷ codes "arpa" ∷ []

abbrev pub ip6_arpa : List (List ℕ)
ip6_arpa = codes "ip6" ∷ codes "arpa" ∷ []

-- the four bytes in decimal, from the last to the first
abbrev pub v4_reverse : ℕ → List (List ℕ)
v4_reverse addr =
    decimal (addr % 256) ∷ decimal (addr / 2 ^ 8 % 256) ∷ decimal (addr / 2 ^ 16 % 256)
    ∷ decimal (addr / 2 ^ 24) ∷ in_addr_arpa

-- so many hexadecimal digits of a number, from the last to the first, as labels in front of others
abbrev pub nibbles : ℕ → ℕ → List (List ℕ) → List (List ℕ)
nibbles zero number others = others
nibbles (suc count) number others =
    (digit_glyph false (number % 16) ∷ []) ∷ nibbles count (number / 16) others

-- the 32 hexadecimal digits, from the last to the first
unfoldable pub v6_reverse : ℕ → List (List ℕ)
v6_reverse addr = nibbles 32 addr ip6_arpa

-- the name that stands for an address
abbrev pub reverse_of : Addr → List (List ℕ)
reverse_of (V4 addr) = v4_reverse addr
reverse_of (V6 addr) = v6_reverse addr

-- whether labels are those of a zone in small letters, ASCII case aside
abbrev pub is_zone : List (List ℕ) → List (List ℕ) → Bool
is_zone zone labels = pointwise nat_eq (spelled (lowered labels)) (spelled zone)

-- the number of four bytes of which the last is known
abbrev pub four_back : Option ℕ → Option ℕ → Option ℕ → Option ℕ → Option ℕ
four_back d c b a =
    option_and_then
    (λ d. option_and_then
    (λ c. option_and_then (λ b. option_map (λ a. a * 2 ^ 24 + b * 2 ^ 16 + c * 2 ^ 8 + d) a) b)
    c)
    d

-- the IPv4 address of four labels and a zone
abbrev pub v4_reversed : List (List ℕ) → Option ℕ
v4_reversed [] = None
v4_reversed (d ∷ []) = None
v4_reversed (d ∷ c ∷ []) = None
v4_reversed (d ∷ c ∷ b ∷ []) = None
v4_reversed (d ∷ c ∷ b ∷ a ∷ zone) =
    if is_zone in_addr_arpa zone
    then four_back (octet_of d) (octet_of c) (octet_of b) (octet_of a) else None

-- the digit of a label of one byte
abbrev pub nibble_of : List ℕ → Option ℕ
nibble_of [] = None
nibble_of (byte ∷ []) = hex_digit byte
nibble_of (byte ∷ second ∷ label) = None

-- the number of so many labels of one digit, the lowest first, in front of a zone
abbrev pub nibbles_back : ℕ → List (List ℕ) → Option ℕ
nibbles_back zero labels = if is_zone ip6_arpa labels then Some 0 else None
nibbles_back (suc count) [] = None
nibbles_back (suc count) (label ∷ labels) =
    option_and_then
    (λ digit. option_map (λ others. digit + 16 * others) (nibbles_back count labels))
    (nibble_of label)

-- the address of either family
abbrev pub v4_or_v6 : Option ℕ → Option ℕ → Option Addr
v4_or_v6 (Some addr) six = Some (V4 addr)
v4_or_v6 None six = option_map V6 six

-- the address whose name this is, ASCII case aside
unfoldable pub reversed_of : List (List ℕ) → Option Addr
reversed_of name = v4_or_v6 (v4_reversed name) (nibbles_back 32 name)

-- the address is the one whose name this is, ASCII case aside; or there is none
abbrev pub StandsFor : List (List ℕ) → Option Addr → Type 0
StandsFor name (Some addr) = lowered name ≡ reverse_of addr
StandsFor name None = (addr : Addr) → IsAddr addr → lowered name ≡ reverse_of addr → ⊥
