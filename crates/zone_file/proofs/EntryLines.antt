-- The entries of a text, line by line.
use Rattle.std.proofs.Common.{◌≡◌, ◌≢◌, ◌+◌, ℕ, List, [], ◌∷◌, ◌++◌, Option, Some, None, option_map, Bool, true, false, eqb, cond, refl, sym, ap, append_assoc, length, nat_eq, arith, ◌∙◌}
use Rattle.std.proofs.lemmas.Bool.{eqb-true, eq-eqb, ne_eqb}
use Rattle.std.specs.Str.{is_utf8}
use Rattle.corefile_words.specs.Lines.{lines_of}
use Rattle.record_text.specs.Words.{WordData}
use Rattle.zone_file.specs.declared.entry.End.{End}
use Rattle.zone_file.specs.declared.entry.Open.{Open}
use Rattle.zone_file.specs.Entries.{EntriesData, EntryData, ScannedData, after, begins_blank, begun, behind, broken, closed, deepened, ended_by, entries_from, entries_of, entry_in, has_none, idle, scan, scanned, scanned_data}

abbrev entries_data : List EntryData → End → EntriesData
entries_data entries end = record { entries = entries; end = end }

pub after-after : (a b : List EntryData) (others : EntriesData) → after (a ++ b) others ≡ after a (after b others)
after-after a b others = ap (λ (l : List EntryData). entries_data l others.end) (append_assoc a b others.entries)

with_first : (number : ℕ) (opened : Open) (b : Bool) → (cond {A = Open} b (record { depth = opened.depth; first = opened.first; line = number; indented = opened.indented }) opened).depth ≡ opened.depth
with_first number opened true = refl
with_first number opened false = refl

with_depth : (number : ℕ) (line : List ℕ) (opened : Open) (first : Bool) (b : Bool) → eqb opened.depth 0 ≡ b
    → (cond {A = Open} b (record { depth = 0; first = number; line = number; indented = begins_blank line })
    (cond {A = Open} first (record { depth = opened.depth; first = opened.first; line = number; indented = opened.indented }) opened)).depth ≡ opened.depth
with_depth number line opened first true e = sym (eqb-true opened.depth 0 e)
with_depth number line opened first false e = with_first number opened first

-- an entry at the start of a line has as many parentheses open as before
pub begun_depth : (number : ℕ) (line : List ℕ) (opened : Open) (first : Bool) → (begun number line opened first).depth ≡ opened.depth
begun_depth number line opened first = with_depth number line opened first (eqb opened.depth 0) refl

some_data : (a b : ScannedData) → Some a ≡ Some b → a ≡ b
some_data a b e = ap (λ o. Rattle.std.specs.Option.unwrap_or o a) e

pub scanned_by : (opened : Open) (words : List WordData) (found : Option ScannedData) (read : ScannedData) (next : Open → List WordData → EntriesData)
    → option_map (behind words) found ≡ Some read → scanned opened words found next ≡ closed (deepened opened read.depth) read.words next
scanned_by opened words None read next e = absurd cc
scanned_by opened words (Some s) read next e = ap (λ (t : ScannedData). closed (deepened opened t.depth) t.words next) (some_data (behind words s) read e)

-- what follows a line
pub line_step : (before : ℕ) (opened : Open) (words : List WordData) (rest line others : List ℕ) → lines_of rest ≡ line ∷ lines_of others → is_utf8 line ≡ true
    → entries_from before opened words (lines_of rest)
    ≡ scanned (begun (before + 1) line opened (has_none words)) words (scan opened.depth 0 line) (λ opened words. entries_from (before + 1) opened words (lines_of others))
line_step before opened words rest line others is text = ap (entries_from before opened words) is ∙ rw text refl

pub bad_line : (before : ℕ) (opened : Open) (words : List WordData) (rest line others : List ℕ) → lines_of rest ≡ line ∷ lines_of others → is_utf8 line ≡ false
    → entries_from before opened words (lines_of rest) ≡ broken (before + 1)
bad_line before opened words rest line others is text = ap (entries_from before opened words) is ∙ rw text refl

pub no_lines : lines_of [] ≡ []
unfolding lines_of
no_lines = refl

pub whole_text : (text : List ℕ) → entries_of text ≡ entries_from 0 idle [] (lines_of text)
unfolding entries_of
whole_text text = refl

pub has_none_is : (words : List WordData) → nat_eq (length words) 0 ≡ has_none words
has_none_is [] = refl
has_none_is (word ∷ words) = ne_eqb (length (word ∷ words)) 0 (λ e. absurd (omega (arith, e)))

-- a line that isn't UTF-8
pub at_bad : (before : ℕ) (opened : Open) (words : List WordData) (rest line others text : List ℕ) (entries : List EntryData)
    → after entries (entries_from before opened words (lines_of rest)) ≡ entries_from 0 idle [] (lines_of text)
    → lines_of rest ≡ line ∷ lines_of others → is_utf8 line ≡ false → after entries (broken (before + 1)) ≡ entries_of text
at_bad before opened words rest line others text entries says is utf =
    ap (after entries) (sym (bad_line before opened words rest line others is utf)) ∙ says ∙ sym (whole_text text)

-- a line that can't be scanned
pub at_broken : (before : ℕ) (opened : Open) (words : List WordData) (rest line others text : List ℕ) (entries : List EntryData)
    → after entries (entries_from before opened words (lines_of rest)) ≡ entries_from 0 idle [] (lines_of text)
    → lines_of rest ≡ line ∷ lines_of others → is_utf8 line ≡ true → scan opened.depth 0 line ≡ None
    → after entries (broken (begun (before + 1) line opened (has_none words)).line) ≡ entries_of text
at_broken before opened words rest line others text entries says is utf none =
    let step = line_step before opened words rest line others is utf
    ∙ ap (λ o. scanned (begun (before + 1) line opened (has_none words)) words o (λ opened words. entries_from (before + 1) opened words (lines_of others))) none in
    ap (after entries) (sym step) ∙ says ∙ sym (whole_text text)

-- what follows a line that was scanned
goes_on : (before : ℕ) (opened : Open) (words : List WordData) (rest line others : List ℕ) (read : ScannedData)
    → lines_of rest ≡ line ∷ lines_of others → is_utf8 line ≡ true → option_map (behind words) (scan opened.depth 0 line) ≡ Some read
    → entries_from before opened words (lines_of rest)
    ≡ closed (deepened (begun (before + 1) line opened (has_none words)) read.depth) read.words (λ opened words. entries_from (before + 1) opened words (lines_of others))
goes_on before opened words rest line others read is utf scans =
    line_step before opened words rest line others is utf
    ∙ scanned_by (begun (before + 1) line opened (has_none words)) words (scan opened.depth 0 line) read (λ opened words. entries_from (before + 1) opened words (lines_of others)) scans

-- the entry is over behind the line
pub closes : (before depth : ℕ) (opened : Open) (words more : List WordData) (rest line others text : List ℕ) (entries new : List EntryData)
    → after entries (entries_from before opened words (lines_of rest)) ≡ entries_from 0 idle [] (lines_of text)
    → lines_of rest ≡ line ∷ lines_of others → is_utf8 line ≡ true → option_map (behind words) (scan opened.depth 0 line) ≡ Some (scanned_data more depth)
    → depth ≡ 0 → new ≡ entries ++ entry_in (deepened (begun (before + 1) line opened (has_none words)) depth) more
    → after new (entries_from (before + 1) idle [] (lines_of others)) ≡ entries_from 0 idle [] (lines_of text)
closes before depth opened words more rest line others text entries new says is utf scans zero push =
    let test : eqb depth 0 ≡ true = eq-eqb depth 0 zero in
    let next = entries_from (before + 1) idle [] (lines_of others) in
    let entry = entry_in (deepened (begun (before + 1) line opened (has_none words)) depth) more in
    let step : entries_from before opened words (lines_of rest) ≡ after entry next =
    goes_on before opened words rest line others (scanned_data more depth) is utf scans ∙ rw test refl in
    ap (λ (l : List EntryData). after l next) push ∙ after-after entries entry next ∙ ap (after entries) (sym step) ∙ says

-- the entry goes on in the next line
pub stays : (before depth : ℕ) (opened : Open) (words more : List WordData) (rest line others text : List ℕ) (entries : List EntryData)
    → after entries (entries_from before opened words (lines_of rest)) ≡ entries_from 0 idle [] (lines_of text)
    → lines_of rest ≡ line ∷ lines_of others → is_utf8 line ≡ true → option_map (behind words) (scan opened.depth 0 line) ≡ Some (scanned_data more depth)
    → depth ≢ 0
    → after entries (entries_from (before + 1) (deepened (begun (before + 1) line opened (has_none words)) depth) more (lines_of others)) ≡ entries_from 0 idle [] (lines_of text)
stays before depth opened words more rest line others text entries says is utf scans ne =
    let test : eqb depth 0 ≡ false = ne_eqb depth 0 ne in
    let step = goes_on before opened words rest line others (scanned_data more depth) is utf scans ∙ rw test refl in
    ap (after entries) (sym step) ∙ says

-- the text ends
pub ends_text : (before : ℕ) (opened : Open) (words : List WordData) (rest text : List ℕ) (entries : List EntryData)
    → after entries (entries_from before opened words (lines_of rest)) ≡ entries_from 0 idle [] (lines_of text) → rest ≡ []
    → after entries (ended_by before opened (has_none words)) ≡ entries_of text
ends_text before opened words rest text entries says none =
    ap (λ l. after entries (entries_from before opened words l)) (sym (ap lines_of none ∙ no_lines)) ∙ says ∙ sym (whole_text text)
