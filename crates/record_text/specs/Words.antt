-- The words of a record's text (RFC 1035, section 5.1). Bytes by number: 9 tab, 32 space, 34 `"`,
-- 40 `(`, 41 `)`, 59 `;`, 92 `\`.
use Rattle.std.specs.Prelude.{ℕ, zero, suc, ◌+◌, ◌==◌, Bool, true, false, ◌&&◌, ◌||◌, not, List, []}
use Rattle.std.specs.Prelude.{◌∷◌, take, drop, Option, Some, None, option_map, if◌then◌else◌}
use Rattle.record_text.specs.declared.form.Form.{Form}
use Rattle.record_text.specs.declared.form.Form.TheVariants.{Alone, ZoneFile}

-- a word, without the quotes in which it stood
pub record WordData : Type 0 where
  pub text : List ℕ
  pub quoted : Bool

-- a space or a tab
abbrev pub is_blank : ℕ → Bool
is_blank byte = byte == 32 || byte == 9

-- a byte that ends a word without quotes. In a zone file comments and parentheses end it too.
abbrev pub ends : Form → ℕ → Bool
ends Alone byte = is_blank byte
ends ZoneFile byte = is_blank byte || byte == 59 || byte == 40 || byte == 41

-- how many bytes of the head belong to a word without quotes. A backslash takes the byte behind it
-- along; `taken` says that one stands in front.
abbrev pub plain_size : Form → Bool → List ℕ → ℕ
plain_size form taken [] = 0
plain_size form taken (byte ∷ bytes) =
    if not taken && ends form byte then 0
    else 1 + plain_size form (not taken && byte == 92) bytes

-- how many bytes stand before the first quote that has no backslash in front; `front` stands in
-- front of the first byte
abbrev pub closing_quote : ℕ → List ℕ → Option ℕ
closing_quote front [] = None
closing_quote front (byte ∷ bytes) =
    if byte == 34 && not (front == 92) then Some 0
    else option_map (λ size. size + 1) (closing_quote byte bytes)

-- a quoted word can end here
abbrev pub is_ended : Form → List ℕ → Bool
is_ended form [] = true
is_ended form (byte ∷ bytes) = ends form byte

-- behind an opening quote: the word up to the closing one, and how many bytes both take
abbrev pub quoted_word : Form → List ℕ → Option ℕ → Option (WordData × ℕ)
quoted_word form bytes None = None
quoted_word form bytes (Some size) =
    if is_ended form (drop (size + 1) bytes)
    then Some (record { text = take size bytes; quoted = true }, size + 1)
    else None

abbrev pub plain_word : ℕ → List ℕ → ℕ → WordData × ℕ
plain_word first bytes size = (record { text = first ∷ take size bytes; quoted = false }, size)

-- the word that begins with this byte, and how many of the bytes behind it are its own: none where
-- a quote isn't closed, or where the word doesn't end behind the closing quote
abbrev pub word_at : Form → ℕ → List ℕ → Option (WordData × ℕ)
word_at form first bytes =
    if first == 34 then quoted_word form bytes (closing_quote 34 bytes)
    else Some (plain_word first bytes (plain_size form (first == 92) bytes))

-- the first word of a text that doesn't begin with a blank
abbrev pub word_in : Form → List ℕ → Option (WordData × ℕ)
word_in form [] = None
word_in form (byte ∷ bytes) = word_at form byte bytes

-- a word, and those behind it
abbrev pub word_then : Option (WordData × ℕ) → (ℕ → Option (List WordData)) → Option (List WordData)
word_then None behind = None
word_then (Some found) behind = option_map (λ words. found.0 ∷ words) (behind found.1)

-- the words behind the first `skip` bytes, which belong to a word that was read
abbrev pub words_from : ℕ → List ℕ → Option (List WordData)
words_from skip [] = Some []
words_from zero (byte ∷ bytes) =
    if is_blank byte then words_from 0 bytes
    else word_then (word_at Alone byte bytes) (λ skip. words_from skip bytes)
words_from (suc skip) (byte ∷ bytes) = words_from skip bytes

-- the words of a record's text that stands alone; none where a quoted word doesn't end
unfoldable pub words_of : List ℕ → Option (List WordData)
words_of text = words_from 0 text
