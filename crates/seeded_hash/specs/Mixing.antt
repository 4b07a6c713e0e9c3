-- Bytes mixed into a state, eight at a time, by a factor. This server's own rule.
use Rattle.std.specs.Prelude.{ℕ, zero, suc, ◌+◌, ◌-◌, ◌*◌, ◌/◌, ◌%◌, ◌^◌, if◌then◌else◌, nat_lt}
use Rattle.std.specs.Prelude.{List, [], ◌∷◌, length, slice_range}
use Rattle.std.specs.Int.{w64, from_le_bytes}

-- the eight bytes from an offset on, the lowest first, as a number
unfoldable pub word_at : List ℕ → ℕ → ℕ
word_at bytes at = from_le_bytes w64 (slice_range bytes at (at + 8))

-- a word is added to the state, and the sum multiplied
unfoldable pub product_of : ℕ → ℕ → ℕ → ℕ
product_of factor state word = (state + word) % 2 ^ 64 * factor

-- both halves of the product, added
unfoldable pub mixed : ℕ → ℕ → ℕ → ℕ
mixed factor state word =
    (product_of factor state word / 2 ^ 64 + product_of factor state word % 2 ^ 64) % 2 ^ 64

-- the state behind so many words
unfoldable pub words_to : ℕ → ℕ → ℕ → List ℕ → ℕ
words_to factor begun zero bytes = begun
words_to factor begun (suc i) bytes =
    mixed factor (words_to factor begun i bytes) (word_at bytes (8 * i))

-- bytes as the digits of a number, the highest first, behind others
abbrev pub number_of : ℕ → List ℕ → ℕ
number_of number [] = number
number_of number (byte ∷ bytes) = number_of ((number * 256 % 2 ^ 64 + byte) % 2 ^ 64) bytes

unfoldable pub begun : ℕ → List ℕ → ℕ
begun state bytes = (state + length bytes) % 2 ^ 64

-- the state behind bytes: fewer than eight are one number; of others whole words are mixed in, and
-- then the last eight bytes, which may overlap them
unfoldable pub written : ℕ → ℕ → List ℕ → ℕ
written factor state bytes =
    if nat_lt (length bytes) 8 then mixed factor (begun state bytes) (number_of 0 bytes)
    else mixed factor (words_to factor (begun state bytes) ((length bytes - 1) / 8) bytes)
    (word_at bytes (length bytes - 8))
