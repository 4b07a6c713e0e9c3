-- The variables of a word, `{$NAME}`, and what the environment puts in their place. Bytes by
-- number: 36 `$`, 95 `_`, 123 `{`, 125 `}`.
use Rattle.std.specs.Prelude.{◌≡◌, ℕ, zero, suc, ◌+◌, ◌<◌, ◌==◌, nat_eq, nat_lt, Bool, ◌&&◌, not, List, [], ◌∷◌, ◌++◌, length, drop, slice_index, Option, Some, None, if◌then◌else◌}
use Rattle.std.specs.Char.{is_ascii_alphanumeric}
use Rattle.std.specs.Cmp.Lexicographic.{pointwise}
use Rattle.corefile_words.specs.declared.word.Pair.{Pair}
use Rattle.corefile_words.specs.Lines.{before, begins_with}

-- a byte that no name has: neither a letter nor a digit nor `_`
abbrev pub is_other : ℕ → Bool
is_other byte = not (is_ascii_alphanumeric byte) && not (byte == 95)

-- the name where it isn't empty and a `}` stands behind it
abbrev pub closed : List ℕ → List ℕ → Option (List ℕ)
closed name behind = if nat_lt 0 (length name) && begins_with 125 behind then Some name else None

-- the name at the head, where a `}` ends it
abbrev pub name_in : List ℕ → Option (List ℕ)
name_in bytes = closed (before is_other bytes) (drop (length (before is_other bytes)) bytes)

-- the NAME of a `{$NAME}` at the head
abbrev pub variable_at : List ℕ → Option (List ℕ)
variable_at [] = None
variable_at (byte ∷ []) = None
variable_at (byte ∷ second ∷ bytes) = if byte == 123 && second == 36 then name_in bytes else None

-- a `}` stands there
pub record IsClosedAt (bytes : List ℕ) (at : ℕ) : Type 0 where
  pub inside : at < length bytes
  pub brace : slice_index bytes at ≡ 125

-- the value of the first pair of this name, or nothing
abbrev pub value_of : List Pair → List ℕ → List ℕ
value_of [] name = []
value_of (pair ∷ env) name =
    if pointwise nat_eq pair.name name then pair.value else value_of env name

-- the value of a variable and what comes behind it, or, without a variable, the byte and what comes
-- behind that
abbrev pub put : List Pair → ℕ → Option (List ℕ) → (ℕ → List ℕ) → List ℕ
put env byte None behind = byte ∷ behind 0
put env byte (Some name) behind = value_of env name ++ behind (length name + 2)

-- the bytes behind the first `skip`, which belong to a variable that was read, with values for
-- variables
abbrev pub filled_from : List Pair → ℕ → List ℕ → List ℕ
filled_from env skip [] = []
filled_from env zero (byte ∷ bytes) =
    put env byte (variable_at (byte ∷ bytes)) (λ skip. filled_from env skip bytes)
filled_from env (suc skip) (byte ∷ bytes) = filled_from env skip bytes

-- a word with the environment's values in place of its variables, from left to right
unfoldable pub filled : List Pair → List ℕ → List ℕ
filled env word = filled_from env 0 word
