-- Character-strings, tags and bytes in hexadecimal, as words of a record's text.
use Rattle.std.specs.Prelude.{ℕ, zero, suc, ◌+◌, ◌*◌, nat_lt, Bool, ◌&&◌, List, [], ◌∷◌, length}
use Rattle.std.specs.Prelude.{Option, Some, None, option_map, option_and_then, if◌then◌else◌}
use Rattle.std.specs.List.{list_all}
use Rattle.std.specs.Char.{is_ascii_alphanumeric}
use Rattle.dns_addr.specs.AddrText.{hex_digit}
use Rattle.dns_names.specs.NameText.{byte_at}
use Rattle.dns_data.specs.declared.limit.TheConstants as limits

-- a byte, and the bytes behind its spelling
abbrev pub byte_then : Option (ℕ × ℕ) → (ℕ → Option (List ℕ)) → Option (List ℕ)
byte_then None behind = None
byte_then (Some found) behind = option_map (λ others. found.0 ∷ others) (behind found.1)

-- the bytes that a text spells behind its first `skip` bytes, which belong to an escape; none where
-- a backslash means no byte
abbrev pub bytes_from : ℕ → List ℕ → Option (List ℕ)
bytes_from skip [] = Some []
bytes_from zero (first ∷ text) = byte_then (byte_at first text) (λ skip. bytes_from skip text)
bytes_from (suc skip) (first ∷ text) = bytes_from skip text

abbrev pub if_string : List ℕ → Option (List ℕ)
if_string bytes = if nat_lt limits.STRING_BYTES (length bytes) then None else Some bytes

-- the character-string that a text spells: at most 255 bytes. A backslash works as in a name, and a
-- dot is a byte.
unfoldable pub string_of : List ℕ → Option (List ℕ)
string_of text = option_and_then if_string (bytes_from 0 text)

-- whether a text is a tag of a CAA record: 1 to 15 letters and digits (RFC 8659, section 4.1)
abbrev pub is_tag : List ℕ → Bool
is_tag text =
    nat_lt 0 (length text) && nat_lt (length text) 16 && list_all is_ascii_alphanumeric text

unfoldable pub tag_of : List ℕ → Option (List ℕ)
tag_of text = if is_tag text then Some text else None

-- the byte of two hexadecimal digits
abbrev pub hex_byte : ℕ → ℕ → Option ℕ
hex_byte high low =
    option_and_then (λ h. option_map (λ l. 16 * h + l) (hex_digit low)) (hex_digit high)

-- the bytes of hexadecimal digits, two for each
abbrev pub hex_of : List ℕ → Option (List ℕ)
hex_of [] = Some []
hex_of (high ∷ []) = None
hex_of (high ∷ low ∷ digits) =
    option_and_then (λ byte. option_map (λ bytes. byte ∷ bytes) (hex_of digits)) (hex_byte high low)
