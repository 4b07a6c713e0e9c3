-- Bytes as fields: two digits a byte, and `-` for none.
use Rattle.std.specs.Prelude.{ℕ, nat_eq, List, [], ◌∷◌, codes, length, Option, Some, None, Result, Ok}
use Rattle.std.specs.Prelude.{Err, if◌then◌else◌}
use Rattle.std.specs.Cmp.Lexicographic.{pointwise}
use Rattle.hex.specs.declared.error.FromHexError.{FromHexError}
use Rattle.hex.specs.Hex.{decode_of, encode_lower}

-- the bytes that digits spell
abbrev pub decoded : Result (List ℕ) FromHexError → Option (List ℕ)
decoded (Ok bytes) = Some bytes
decoded (Err fault) = None

-- the bytes of a field; an empty one is none, and neither is one that is no pairs of digits
unfoldable pub field_bytes : List ℕ → Option (List ℕ)
field_bytes field =
    if pointwise nat_eq field (codes "-") then Some []
    else if nat_eq (length field) 0 then None
    else decoded (decode_of field)

-- the field of bytes, in small letters
abbrev pub field_of : List ℕ → List ℕ
field_of [] = codes "-"
field_of (byte ∷ bytes) = encode_lower (byte ∷ bytes)
