-- What stands in a text of `template`: bytes, and places that are filled in for each query. A place
-- is `{{`, a word, or `index .Match` and a number, between spaces, and `}}`. This server's own
-- rule, in the manner of CoreDNS. Bytes by number: 32 space, 95 `_`, 123 `{`, 125 `}`.
use Rattle.std.specs.Prelude.{ℕ, zero, suc, ◌+◌, ◌==◌, nat_lt, Bool, false, ◌&&◌, ◌||◌}
use Rattle.std.specs.Prelude.{List, [], ◌∷◌, length, take, drop, codes, Option, Some, None}
use Rattle.std.specs.Prelude.{option_map, option_and_then, if◌then◌else◌}
use Rattle.std.specs.Char.{is_ascii_alphanumeric}
use Rattle.std.specs.List.{list_all}
use Rattle.corefile_words.specs.Lines.{before}
use Rattle.numbers.specs.{number_of}
use Rattle.plugin_api.specs.{is_word}
use Rattle.template_plugin.specs.declared.piece.Piece.{Piece}
use Rattle.template_plugin.specs.declared.piece.Piece.TheVariants as piece
use Rattle.template_plugin.specs.declared.piece.Place.{Place}
use Rattle.template_plugin.specs.declared.piece.Place.TheVariants as place

-- whether a text begins with a byte twice
abbrev pub begins_twice : ℕ → List ℕ → Bool
begins_twice byte [] = false
begins_twice byte (first ∷ []) = false
begins_twice byte (first ∷ second ∷ text) = first == byte && second == byte

-- how many bytes stand before the first place at which a byte stands twice
abbrev pub twice_at : ℕ → List ℕ → Option ℕ
twice_at byte [] = None
twice_at byte (first ∷ text) =
    if begins_twice byte (first ∷ text) then Some 0
    else option_map (λ at. at + 1) (twice_at byte text)

-- what stands before two bytes, and behind them
abbrev pub cut_at : List ℕ → ℕ → List ℕ × List ℕ
cut_at text at = (take at text, drop (at + 2) text)

-- what stands before the first place at which a byte stands twice, and behind it
abbrev pub cut_twice : ℕ → List ℕ → Option (List ℕ × List ℕ)
cut_twice byte text = option_map (cut_at text) (twice_at byte text)

abbrev pub is_space : ℕ → Bool
is_space byte = byte == 32

-- a text without the spaces with which it begins
abbrev pub trimmed : List ℕ → List ℕ
trimmed [] = []
trimmed (byte ∷ bytes) = if is_space byte then trimmed bytes else byte ∷ bytes

-- the first word of a text, and what stands behind it and behind the spaces there
abbrev pub word_of : List ℕ → List ℕ
word_of text = before is_space text

abbrev pub rest_of : List ℕ → List ℕ
rest_of text = trimmed (drop (length (before is_space text)) text)

-- a byte that the name of a group may have: a letter, a digit or `_`
abbrev pub is_name_byte : ℕ → Bool
is_name_byte byte = is_ascii_alphanumeric byte || byte == 95

-- what stands behind a text with which another one begins
abbrev pub behind : List ℕ → List ℕ → Option (List ℕ)
behind [] text = Some text
behind (first ∷ front) [] = None
behind (first ∷ front) (byte ∷ text) = if first == byte then behind front text else None

-- whether a text is the name of a group: one or more such bytes
abbrev pub is_group_name : List ℕ → Bool
is_group_name name = nat_lt 0 (length name) && list_all is_name_byte name

abbrev pub named : List ℕ → Option Place
named name = if is_group_name name then Some (place.Named name) else None

-- the place of a word
abbrev pub word_place : List ℕ → Option Place
word_place word =
    if is_word word (codes ".Name") then Some place.Name
    else if is_word word (codes ".Zone") then Some place.Zone
    else if is_word word (codes ".Type") then Some place.Type
    else if is_word word (codes ".Class") then Some place.Class
    else if is_word word (codes ".Remote") then Some place.Remote
    else option_and_then named (behind (codes ".Group.") word)

-- the place of a number of one to ten digits, where nothing stands behind it
abbrev pub number_place : List ℕ → List ℕ → Option Place
number_place digits [] = option_map place.Number (number_of 10 digits)
number_place digits (byte ∷ bytes) = None

-- the place of words of which the first is `index`
abbrev pub match_place : List ℕ → Option Place
match_place text =
    if is_word (word_of text) (codes ".Match")
    then number_place (word_of (rest_of text)) (rest_of (rest_of text)) else None

-- the place of a word, by what stands behind it
abbrev pub place_by : List ℕ → List ℕ → Option Place
place_by word [] = word_place word
place_by word (byte ∷ bytes) =
    if is_word word (codes "index") then match_place (byte ∷ bytes) else None

-- the place that a text between `{{` and `}}` names
abbrev pub place_in : List ℕ → Option Place
place_in text = place_by (word_of (trimmed text)) (rest_of (trimmed text))

-- pieces behind some bytes and a place
abbrev pub pieces_behind : List ℕ → List Piece → Place → List Piece
pieces_behind front pieces place = piece.Bytes front ∷ piece.Place place ∷ pieces

-- the pieces behind `{{`, where `next` gives those behind its `}}`
abbrev pub pieces_opened : (List ℕ → Option (List Piece)) → List ℕ → Option (List ℕ × List ℕ)
    → Option (List Piece)
pieces_opened next front None = None
pieces_opened next front (Some (inside, rest)) =
    option_and_then
    (λ pieces. option_map (pieces_behind front pieces) (place_in inside)) (next rest)

abbrev pub pieces_cut : (List ℕ → Option (List Piece)) → List ℕ → Option (List ℕ × List ℕ)
    → Option (List Piece)
pieces_cut next text None = Some (piece.Bytes text ∷ [])
pieces_cut next text (Some (front, behind)) = pieces_opened next front (cut_twice 125 behind)

-- the pieces of a text of at most so many bytes
abbrev pub pieces_within : ℕ → List ℕ → Option (List Piece)
pieces_within zero text = Some (piece.Bytes text ∷ [])
pieces_within (suc most) text = pieces_cut (pieces_within most) text (cut_twice 123 text)

-- the pieces of a text; none, where what stands behind a `{{` is no place
unfoldable pub pieces_of : List ℕ → Option (List Piece)
pieces_of text = pieces_within (length text) text
