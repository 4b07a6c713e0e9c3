-- A hash of the wire format of a name, ASCII case aside: eight bytes at a time. This server's own
-- rule.
use Rattle.std.specs.Prelude.{ℕ, zero, suc, ◌+◌, ◌-◌, ◌*◌, ◌/◌, ◌%◌, ◌^◌, cond, nat_lt}
use Rattle.std.specs.Prelude.{List, length, map, slice_index, slice_range}
use Rattle.std.specs.Int.{w64, from_le_bytes}
use Rattle.std.specs.Int.Bits.{bit_or}
use Rattle.name_table.specs.declared.hash.TheConstants.{FACTOR}

-- a byte with the bit set by which a small letter differs from its capital
abbrev pub small : ℕ → ℕ
small byte = bit_or byte 32

-- the eight bytes from an offset on, each so, as a number
unfoldable pub word_at : List ℕ → ℕ → ℕ
word_at bytes at = from_le_bytes w64 (map small (slice_range bytes at (at + 8)))

-- the product of what is added with the factor, of which both halves are of 32 bits
unfoldable pub product_of : ℕ → ℕ → ℕ
product_of hash word = (hash + word) % 2 ^ 64 * FACTOR % 2 ^ 64

-- one more word: add it, multiply, and swap the halves
unfoldable pub mixed : ℕ → ℕ → ℕ
mixed hash word = product_of hash word / 2 ^ 32 + product_of hash word % 2 ^ 32 * 2 ^ 32

-- after so many words
unfoldable pub words_to : ℕ → List ℕ → ℕ
words_to zero bytes = length bytes
words_to (suc i) bytes = mixed (words_to i bytes) (word_at bytes (8 * i))

-- after so many bytes
unfoldable pub bytes_to : ℕ → List ℕ → ℕ
bytes_to zero bytes = length bytes
bytes_to (suc i) bytes = mixed (bytes_to i bytes) (small (slice_index bytes i))

-- of eight bytes or more: whole words, and the last eight bytes, which may overlap them
unfoldable pub sum_of : List ℕ → ℕ
sum_of bytes = cond (nat_lt (length bytes) 8) (bytes_to (length bytes) bytes)
    (mixed (words_to (length bytes / 8) bytes) (word_at bytes (length bytes - 8)))

-- the hash has 32 bits
unfoldable pub hash_of : List ℕ → ℕ
hash_of bytes = sum_of bytes % 2 ^ 32

-- its place among so many buckets
unfoldable pub place_of : ℕ → ℕ → ℕ
place_of hash count = hash * count / 2 ^ 32
