-- Zones as words name them: `ZONE`, or `ADDRESS/BITS` for the zone of the names of a net's
-- addresses. This server's own rule; reverse names are those of RFC 1035, section 3.5, and RFC
-- 3596, section 2.5. Byte 47 is `/`.
use Rattle.std.specs.Prelude.{ℕ, ◌-◌, ◌/◌, ◌%◌, ◌==◌, nat_le, Bool, ◌&&◌, List, [], ◌∷◌, ◌++◌}
use Rattle.std.specs.Prelude.{drop, Option, Some, None, option_map, option_and_then, if◌then◌else◌}
use Rattle.std.specs.List.{list_any}
use Rattle.dns_data.specs.Addresses.{Addr, V4, V6}
use Rattle.dns_data.specs.{is_within, lowered, name_of, net_of, reverse_of}

-- whether the byte is in the text
abbrev pub has_byte : ℕ → List ℕ → Bool
has_byte byte text = list_any (λ other. other == byte) text

-- the zone that a text names, in small letters; the root, where it is empty
abbrev pub name_zone : List ℕ → Option (List (List ℕ))
name_zone [] = Some []
name_zone (byte ∷ text) = option_map lowered (name_of (byte ∷ text) [])

-- the zone of the names of a net's addresses, where its bits are whole octets, or whole nibbles
abbrev pub reverse_zone : Addr → ℕ → Option (List (List ℕ))
reverse_zone (V4 addr) bits =
    if bits % 8 == 0 && nat_le bits 32
    then Some (drop (4 - bits / 8) (reverse_of (V4 addr))) else None
reverse_zone (V6 addr) bits =
    if bits % 4 == 0 && nat_le bits 128
    then Some (drop (32 - bits / 4) (reverse_of (V6 addr))) else None

-- the reverse zone of the net that a text spells
abbrev pub net_zone : List ℕ → Option (List (List ℕ))
net_zone text = option_and_then (λ net. reverse_zone net.addr net.bits) (net_of text)

-- the zone that a word names: that of a net, where it has a `/`
unfoldable pub word_zone : List ℕ → Option (List (List ℕ))
word_zone text = if has_byte 47 text then net_zone text else name_zone text

-- with the zone of one more word in front
abbrev pub with_zone : List (List ℕ) → Option (List (List (List ℕ))) → Option (List (List (List ℕ)))
with_zone zone zones = option_map (λ rest. zone ∷ rest) zones

-- the zones that words name, where each names one
abbrev pub zones_of : List (List ℕ) → Option (List (List (List ℕ)))
zones_of [] = Some []
zones_of (word ∷ words) =
    option_and_then (λ zone. with_zone zone (zones_of words)) (word_zone word)

-- zones behind those that were read before
abbrev pub with_zones : List (List (List ℕ)) → Option (List (List (List ℕ)))
    → Option (List (List (List ℕ)))
with_zones before zones = option_map (λ rest. before ++ rest) zones

-- the zones that words name, or these where there is no word
abbrev pub zones_or : List (List (List ℕ)) → List (List ℕ) → Option (List (List (List ℕ)))
zones_or default [] = Some default
zones_or default (word ∷ words) = zones_of (word ∷ words)

-- whether the name is within one of the zones
abbrev pub is_in : List (List ℕ) → List (List (List ℕ)) → Bool
is_in name zones = list_any (λ zone. is_within name zone) zones
