-- Parts of a text that another one takes the place of, and groups of a pattern that are filled in.
-- This server's own rule, in the manner of CoreDNS. Bytes by number: 48 `0`, 123 `{`, 125 `}`.
use Rattle.std.specs.Prelude.{ℕ, zero, suc, ◌+◌, ◌-◌, ◌*◌, ◌==◌, nat_le, Bool, false, ◌&&◌}
use Rattle.std.specs.Prelude.{◌||◌, List, [], ◌∷◌, ◌++◌, length, take, drop, slice_range}
use Rattle.std.specs.Prelude.{Option, Some, None, if◌then◌else◌}
use Rattle.std.specs.Char.{is_ascii_digit}
use Rattle.plugin_api.specs.{is_word}

-- whether a text begins with another one
abbrev pub begins : List ℕ → List ℕ → Bool
begins front text =
    nat_le (length front) (length text) && is_word (take (length front) text) front

-- whether it ends with another one
abbrev pub ends : List ℕ → List ℕ → Bool
ends end text =
    nat_le (length end) (length text) && is_word (drop (length text - length end) text) end

-- whether another one stands in it
abbrev pub has_part : List ℕ → List ℕ → Bool
has_part part [] = false
has_part part (byte ∷ text) = begins part (byte ∷ text) || has_part part text

-- where another one stands at the front of a text: how many bytes behind the first belong to it
abbrev pub part_at : List ℕ → List ℕ → Option ℕ
part_at part text = if begins part text then Some (length part - 1) else None

-- a byte, or what stands in the place of the part that begins with it, and what stands behind
abbrev pub replaced_at : List ℕ → ℕ → Option ℕ → (ℕ → List ℕ) → List ℕ
replaced_at to byte None behind = byte ∷ behind 0
replaced_at to byte (Some skip) behind = to ++ behind skip

-- a text behind its first `skip` bytes, which belong to a part
abbrev pub replaced_from : List ℕ → List ℕ → ℕ → List ℕ → List ℕ
replaced_from part to skip [] = []
replaced_from part to (suc skip) (byte ∷ text) = replaced_from part to skip text
replaced_from part to zero (byte ∷ text) =
    replaced_at to byte (part_at part (byte ∷ text)) (λ skip. replaced_from part to skip text)

-- a text with another one in place of each part that is so, from the left
unfoldable pub replaced : List ℕ → List ℕ → List ℕ → List ℕ
replaced part to text = replaced_from part to 0 text

-- the number of two digits behind `{`, and how many bytes stand behind it with its `}`
abbrev pub two_digits : ℕ → ℕ → List ℕ → Option (ℕ × ℕ)
two_digits first second [] = None
two_digits first second (third ∷ text) =
    if is_ascii_digit second && third == 125
    then Some (10 * (first - 48) + (second - 48), 3) else None

-- the number of one or two digits behind `{`, and how many bytes it takes with its `}`
abbrev pub place_behind : List ℕ → Option (ℕ × ℕ)
place_behind [] = None
place_behind (first ∷ []) = None
place_behind (first ∷ second ∷ text) =
    if is_ascii_digit first
    then (if second == 125 then Some (first - 48, 2) else two_digits first second text)
    else None

-- the place `{n}` at a byte, with the text behind it: the number of a group, and how many bytes
-- behind the byte belong to the place
abbrev pub place_at : ℕ → List ℕ → Option (ℕ × ℕ)
place_at byte text = if byte == 123 then place_behind text else None

-- what a span has of a text; nothing, where there is none
abbrev pub spanned : List ℕ → Option (ℕ × ℕ) → List ℕ
spanned text None = []
spanned text (Some s) = slice_range text s.0 s.1

-- a byte, or the group that a place at it names, and what stands behind
abbrev pub filled_at : (ℕ → Option (ℕ × ℕ)) → List ℕ → ℕ → Option (ℕ × ℕ) → (ℕ → List ℕ) → List ℕ
filled_at span text byte None behind = byte ∷ behind 0
filled_at span text byte (Some place) behind = spanned text (span place.0) ++ behind place.1

-- the bytes of `to` behind its first `skip`, which belong to a place
abbrev pub filled_from : (ℕ → Option (ℕ × ℕ)) → List ℕ → ℕ → List ℕ → List ℕ
filled_from span text skip [] = []
filled_from span text (suc skip) (byte ∷ to) = filled_from span text skip to
filled_from span text zero (byte ∷ to) =
    filled_at span text byte (place_at byte to) (λ skip. filled_from span text skip to)

-- `to` with each place `{n}` filled in: by what group n spans of the text, or by nothing
unfoldable pub filled : (ℕ → Option (ℕ × ℕ)) → List ℕ → List ℕ → List ℕ
filled span text to = filled_from span text 0 to
