-- The words of a Corefile, line by line. Bytes by number: 9 tab, 32 space, 34 `"`, 35 `#`, 92 `\`,
-- 123 `{`, 125 `}`.
use Rattle.std.specs.Prelude.{◌≡◌, ℕ, zero, suc, ◌+◌, ◌==◌, Bool, true, false, ◌&&◌, ◌||◌, not, List, [], ◌∷◌, ◌++◌, length, take, drop, Option, Some, None, option_map, Result, Ok, Err, if◌then◌else◌}
use Rattle.std.specs.Str.{is_utf8}
use Rattle.corefile_words.specs.declared.word.Pair.{Pair}
use Rattle.corefile_words.specs.declared.word.Word.{Word}
use Rattle.corefile_words.specs.declared.word.WordLine.{WordLine}
use Rattle.corefile_words.specs.declared.fault.WordsFault.{WordsFault}
use Rattle.corefile_words.specs.declared.fault.WordsFault.TheVariants.{NotText, OpenQuote, QuoteTail, NoMemory}
use Rattle.corefile_words.specs.Lines.{before, without_before, lines_of}
use Rattle.corefile_words.specs.Variables.{filled}

-- a space or a tab
abbrev pub is_blank : ℕ → Bool
is_blank byte = byte == 32 || byte == 9

-- a word can end here: before a blank, or at the line's end
abbrev pub ends_word : List ℕ → Bool
ends_word [] = true
ends_word (byte ∷ bytes) = is_blank byte

-- a `{` or a `}` and nothing else
abbrev pub is_brace : List ℕ → Bool
is_brace [] = false
is_brace (byte ∷ []) = byte == 123 || byte == 125
is_brace (byte ∷ second ∷ bytes) = false

-- the word, unless it is empty
abbrev pub unless_empty : List ℕ → Bool → List Word
unless_empty [] brace = []
unless_empty (byte ∷ bytes) brace = record { text = byte ∷ bytes; brace = brace } ∷ []

-- a word that stands without quotes
abbrev pub plain_word : List Pair → List ℕ → List Word
plain_word env bytes = unless_empty (filled env bytes) (is_brace bytes)

-- a word that stands within quotes, in which `\"` means `"`
abbrev pub quoted_word : List Pair → List ℕ → List Word
quoted_word env bytes =
    record { text = filled env (without_before 92 34 bytes); brace = false } ∷ []

-- how many bytes stand before the first quote that has no backslash in front; `front` stands in
-- front of the first byte
abbrev pub closing_quote : ℕ → List ℕ → Option ℕ
closing_quote front [] = None
closing_quote front (byte ∷ bytes) =
    if byte == 34
    && not (front == 92) then Some 0 else option_map (λ size. size + 1)
    (closing_quote byte bytes)

-- words in front of the others of a line
abbrev pub join : List Word → Result (List Word) WordsFault → Result (List Word) WordsFault
join words (Ok others) = Ok (words ++ others)
join words (Err fault) = Err fault

-- behind an opening quote: a word of that size up to the closing one, and what the line says behind
-- that
abbrev pub quoted_then : List Pair → ℕ → List ℕ → Option ℕ → (ℕ → Result (List Word) WordsFault)
    → Result (List Word) WordsFault
quoted_then env number bytes None behind = Err (OpenQuote number)
quoted_then env number bytes (Some size) behind =
    if ends_word (drop (size + 1) bytes) then join (quoted_word env (take size bytes))
    (behind (size + 1))
    else Err (QuoteTail number)

-- the words of a line behind its first `skip` bytes, which belong to a word that was read, or the
-- first fault there
abbrev pub words_from : List Pair → ℕ → ℕ → List ℕ → Result (List Word) WordsFault
words_from env number skip [] = Ok []
words_from env number zero (byte ∷ bytes) =
    if is_blank byte then words_from env number 0 bytes
    else if byte == 35 then Ok []
    else if byte == 34 then quoted_then env number bytes (closing_quote 34 bytes)
    (λ skip. words_from env number skip bytes)
    else join (plain_word env (byte ∷ before is_blank bytes))
    (words_from env number (length (before is_blank bytes)) bytes)
words_from env number (suc skip) (byte ∷ bytes) = words_from env number skip bytes

-- the words of the line of this number, or its fault
unfoldable pub line_words : List Pair → ℕ → List ℕ → Result (List Word) WordsFault
line_words env number line =
    if is_utf8 line then words_from env number 0 line else Err (NotText number)

-- the answer is what the line says; want of memory can come at any time
abbrev pub ReadsLine : List Pair → ℕ → List ℕ → Result (List Word) WordsFault → Type 0
ReadsLine env number line (Ok words) = line_words env number line ≡ Ok words
ReadsLine env number line (Err (NotText at)) = line_words env number line ≡ Err (NotText at)
ReadsLine env number line (Err (OpenQuote at)) = line_words env number line ≡ Err (OpenQuote at)
ReadsLine env number line (Err (QuoteTail at)) = line_words env number line ≡ Err (QuoteTail at)
ReadsLine env number line (Err NoMemory) = Unit {0}

-- a line in front of others: it is left out where it has no words, and its fault comes before
-- theirs
abbrev pub put_line : ℕ → Result (List Word) WordsFault → Result (List WordLine) WordsFault
    → Result (List WordLine) WordsFault
put_line number (Err fault) others = Err fault
put_line number (Ok []) others = others
put_line number (Ok (word ∷ words)) (Err fault) = Err fault
put_line number (Ok (word ∷ words)) (Ok lines) =
    Ok (record { words = word ∷ words; number = number } ∷ lines)

-- the lines of words, where the first line has this number, or the fault of the first line that has
-- one
abbrev pub numbered : List Pair → ℕ → List (List ℕ) → Result (List WordLine) WordsFault
numbered env number [] = Ok []
numbered env number (line ∷ lines) =
    put_line number (line_words env number line) (numbered env (number + 1) lines)

-- the lines of words of a text, or the fault of the first line that has one
unfoldable pub words_of : List Pair → List ℕ → Result (List WordLine) WordsFault
words_of env text = numbered env 1 (lines_of text)

-- the answer is what the text says; want of memory can come at any time
abbrev pub ReadsWords : List ℕ → List Pair → Result (List WordLine) WordsFault → Type 0
ReadsWords bytes env (Ok lines) = words_of env bytes ≡ Ok lines
ReadsWords bytes env (Err (NotText line)) = words_of env bytes ≡ Err (NotText line)
ReadsWords bytes env (Err (OpenQuote line)) = words_of env bytes ≡ Err (OpenQuote line)
ReadsWords bytes env (Err (QuoteTail line)) = words_of env bytes ≡ Err (QuoteTail line)
ReadsWords bytes env (Err NoMemory) = Unit {0}
