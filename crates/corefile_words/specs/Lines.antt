-- The lines of a Corefile's text. Bytes by number: 10 LF, 13 CR.
use Rattle.std.specs.Prelude.{ℕ, ◌==◌, Bool, false, ◌&&◌, List, [], ◌∷◌, if◌then◌else◌}

-- the byte that ends a line
abbrev pub is_line_end : ℕ → Bool
is_line_end byte = byte == 10

-- the bytes before the first that passes, or all
abbrev pub before : (ℕ → Bool) → List ℕ → List ℕ
before passes [] = []
before passes (byte ∷ bytes) = if passes byte then [] else byte ∷ before passes bytes

-- whether a byte stands at the head
abbrev pub begins_with : ℕ → List ℕ → Bool
begins_with mark [] = false
begins_with mark (byte ∷ bytes) = byte == mark

-- the bytes without each `dropped` that stands right before a `mark`
abbrev pub without_before : ℕ → ℕ → List ℕ → List ℕ
without_before dropped mark [] = []
without_before dropped mark (byte ∷ bytes) =
    if byte == dropped && begins_with mark bytes then without_before dropped mark bytes
    else byte ∷ without_before dropped mark bytes

-- a byte in front of the first line
abbrev pub with_first : ℕ → List (List ℕ) → List (List ℕ)
with_first byte [] = (byte ∷ []) ∷ []
with_first byte (line ∷ lines) = (byte ∷ line) ∷ lines

-- the text cut at each LF; where nothing stands behind the last LF, there is no further line
abbrev pub cut : List ℕ → List (List ℕ)
cut [] = []
cut (byte ∷ bytes) = if is_line_end byte then [] ∷ cut bytes else with_first byte (cut bytes)

-- the lines of a text: each ends in LF or where the text ends, and a CR before a LF belongs to no
-- line
unfoldable pub lines_of : List ℕ → List (List ℕ)
lines_of text = cut (without_before 13 10 text)
