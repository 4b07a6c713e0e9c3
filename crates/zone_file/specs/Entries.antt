-- The entries of a zone file: the words of each record or `$` line, with parentheses and comments
-- out of the way (RFC 1035, section 5.1). Bytes by number: 40 `(`, 41 `)`, 59 `;`.
use Rattle.std.specs.Prelude.{◌≡◌, ℕ, zero, suc, ◌+◌, ◌-◌, ◌==◌, Bool, true, false, List, [], ◌∷◌}
use Rattle.std.specs.Prelude.{◌++◌, Option, Some, None, option_map, Result, Ok, Err, nat_lt}
use Rattle.std.specs.Prelude.{if◌then◌else◌}
use Rattle.std.specs.Str.{is_utf8}
use Rattle.corefile_words.specs.Lines.{lines_of}
use Rattle.record_text.specs.declared.fault.RecordFault.{RecordFault}
use Rattle.record_text.specs.declared.fault.RecordFault.TheVariants.{Bad, NoMemory}
use Rattle.record_text.specs.declared.form.Form.TheVariants.{ZoneFile}
use Rattle.record_text.specs.Words.{WordData, is_blank, word_at}
use Rattle.zone_file.specs.declared.entry.End.{End}
use Rattle.zone_file.specs.declared.entry.End.TheVariants.{Ended, Broken}
use Rattle.zone_file.specs.declared.entry.Open.{Open}

-- words, and how many parentheses are open behind them
pub record ScannedData : Type 0 where
  pub words : List WordData
  pub depth : ℕ

-- a word in front of others
abbrev pub with_word : WordData → ScannedData → ScannedData
with_word word s = record { words = word ∷ s.words; depth = s.depth }

abbrev pub word_then : Option (WordData × ℕ) → (ℕ → Option ScannedData) → Option ScannedData
word_then None behind = None
word_then (Some found) behind = option_map (with_word found.0) (behind found.1)

-- the words of a line behind its first `skip` bytes, which belong to a word that was read, where so
-- many parentheses are open; none where a quote isn't closed, a word doesn't end behind one, or a
-- parenthesis closes nothing
abbrev pub scan : ℕ → ℕ → List ℕ → Option ScannedData
scan depth skip [] = Some (record { words = []; depth = depth })
scan depth zero (byte ∷ bytes) =
    if is_blank byte then scan depth 0 bytes
    else if byte == 59 then Some (record { words = []; depth = depth })
    else if byte == 40 then scan (depth + 1) 0 bytes
    else if byte == 41 then (if depth == 0 then None else scan (depth - 1) 0 bytes)
    else word_then (word_at ZoneFile byte bytes) (λ skip. scan depth skip bytes)
scan depth (suc skip) (byte ∷ bytes) = scan depth skip bytes

abbrev pub scanned_data : List WordData → ℕ → ScannedData
scanned_data words depth = record { words = words; depth = depth }

-- with words in front
abbrev pub behind : List WordData → ScannedData → ScannedData
behind words s = record { words = words ++ s.words; depth = s.depth }

-- the answer is the words of the line behind these; want of memory can come at any time
abbrev pub Scans : List WordData → ℕ → List ℕ → Result (List WordData × ℕ) RecordFault → Type 0
Scans words depth line (Ok s) =
    option_map (behind words) (scan depth 0 line) ≡ Some (scanned_data s.0 s.1)
Scans words depth line (Err Bad) = scan depth 0 line ≡ None
Scans words depth line (Err NoMemory) = Unit {0}

-- an entry: its words, the line of the first one, and whether a blank stands in front of it
pub record EntryData : Type 0 where
  pub line : ℕ
  pub indented : Bool
  pub words : List WordData

-- entries, and how their text ends
pub record EntriesData : Type 0 where
  pub entries : List EntryData
  pub end : End

abbrev pub begins_blank : List ℕ → Bool
begins_blank [] = false
begins_blank (byte ∷ bytes) = is_blank byte

-- whether there are no words
abbrev pub has_none : List WordData → Bool
has_none [] = true
has_none (word ∷ words) = false

-- an entry at the start of a line: its line is that of its first word, and where it has none yet,
-- that may be this line
abbrev pub begun : ℕ → List ℕ → Open → Bool → Open
begun number line opened is_first =
    if opened.depth == 0
    then record { depth = 0; first = number; line = number; indented = begins_blank line }
    else if is_first
    then record {
      depth = opened.depth;
      first = opened.first;
      line = number;
      indented = opened.indented;
    }
    else opened

-- an entry with so many parentheses open
abbrev pub deepened : Open → ℕ → Open
deepened opened depth = record {
  depth = depth;
  first = opened.first;
  line = opened.line;
  indented = opened.indented;
}

-- nothing is open
abbrev pub idle : Open
idle = record { depth = 0; first = 0; line = 0; indented = false }

-- entries in front of others
abbrev pub after : List EntryData → EntriesData → EntriesData
after entries others = record { entries = entries ++ others.entries; end = others.end }

-- the entry, where it has words
abbrev pub entry_in : Open → List WordData → List EntryData
entry_in opened [] = []
entry_in opened (word ∷ words) =
    record { line = opened.line; indented = opened.indented; words = word ∷ words } ∷ []

-- behind a line: the entry is over where no parenthesis is open
abbrev pub closed : Open → List WordData → (Open → List WordData → EntriesData) → EntriesData
closed opened words next =
    if opened.depth == 0 then after (entry_in opened words) (next idle []) else next opened words

abbrev pub broken : ℕ → EntriesData
broken line = record { entries = []; end = Broken line }

-- with the words of a line behind those of the entry that is open, or none where the line is bad
abbrev pub scanned : Open → List WordData → Option ScannedData
    → (Open → List WordData → EntriesData) → EntriesData
scanned opened words None next = broken opened.line
scanned opened words (Some s) next = closed (deepened opened s.depth) (words ++ s.words) next

-- the end of a text of so many lines, where an entry may be open. The last line of the empty text
-- is 1.
abbrev pub ended_by : ℕ → Open → Bool → EntriesData
ended_by lines opened is_empty =
    if nat_lt 0 opened.depth then broken (if is_empty then opened.first else opened.line)
    else record { entries = []; end = Ended (if lines == 0 then 1 else lines) }

-- the entries from a line on, where so many lines stand before it, and these words of an entry that
-- is open
abbrev pub entries_from : ℕ → Open → List WordData → List (List ℕ) → EntriesData
entries_from before opened words [] = ended_by before opened (has_none words)
entries_from before opened words (line ∷ lines) =
    if is_utf8 line
    then scanned (begun (before + 1) line opened (has_none words)) words (scan opened.depth 0 line)
    (λ opened words. entries_from (before + 1) opened words lines)
    else broken (before + 1)

-- the entries of a text
unfoldable pub entries_of : List ℕ → EntriesData
entries_of text = entries_from 0 idle [] (lines_of text)
