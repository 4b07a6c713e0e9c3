-- The blocks of a bundle: the lines of the Corefile in order, with those of an import in its place.
use Rattle.std.specs.Prelude.{◌≡◌, ℕ, zero, suc, ◌+◌, nat_le, List, [], ◌∷◌, ◌++◌, length, drop}
use Rattle.std.specs.Prelude.{map, Option, Some, None, option_map, option_and_then, unwrap_or}
use Rattle.std.specs.Prelude.{is_some, Result, Ok, Err, if◌then◌else◌}
use Rattle.std.specs.List.{find}
use Rattle.corefile_words.specs.{words_of}
use Rattle.corefile_words.specs.declared.word.Word.{Word}
use Rattle.corefile_words.specs.declared.word.WordLine.{WordLine}
use Rattle.corefile_words.specs.declared.fault.WordsFault.{WordsFault}
use Rattle.corefile_words.specs.declared.fault.WordsFault.TheVariants as words
use Rattle.dns_data.specs.declared.limit.TheConstants as limits
use Rattle.dns_data.specs.declared.limit.Limit.TheVariants as limit
use Rattle.dns_data.specs.declared.block.Block.{Block}
use Rattle.dns_data.specs.declared.directive.Directive.{Directive}
use Rattle.dns_data.specs.declared.directive.Line.{Line}
use Rattle.dns_data.specs.declared.file.FileText.{FileText}
use Rattle.corefile_blocks.specs.declared.bundle.Bundle.{Bundle}
use Rattle.corefile_blocks.specs.declared.fault.CorefileFault.{CorefileFault}
use Rattle.corefile_blocks.specs.declared.fault.CorefileFault.TheVariants as fault
use Rattle.corefile_blocks.specs.declared.fault.BlockWhy.TheVariants as why
use Rattle.corefile_blocks.specs.declared.place.Place.{Place}
use Rattle.corefile_blocks.specs.declared.place.Place.TheVariants as place
use Rattle.corefile_blocks.specs.declared.place.LineForm.{LineForm}
use Rattle.corefile_blocks.specs.declared.place.LineForm.TheVariants as form
use Rattle.corefile_blocks.specs.declared.shared.Snippet.{Snippet}
use Rattle.corefile_blocks.specs.PlacedLines.{PlacedLine, own_lines, placed}
use Rattle.corefile_blocks.specs.Keys.{HeaderData, double_key, header_keys}
use Rattle.corefile_blocks.specs.LineForms.{form_at, opened, same_text, snippet_name}
use Rattle.corefile_blocks.specs.WantedFiles.{each_once, files_of}

-- what was read so far: where the next line stands, the blocks that were begun, the snippets that
-- were defined, the one whose lines are being read, and the files that were named
pub record Reading : Type 0 where
  pub place : Place
  pub blocks : List Block
  pub snippets : List Snippet
  pub kept : Snippet
  pub named : List (List ℕ)

-- what follows from a line: what was read with it, the lines that stand in its place, and the fault
-- that ends the reading
pub record Step : Type 0 where
  pub reading : Reading
  pub put : List PlacedLine
  pub fault : Option CorefileFault

-- all that was read, and the fault that ended it
pub record EndedData : Type 0 where
  pub blocks : List Block
  pub named : List (List ℕ)
  pub fault : Option CorefileFault

-- the line is good, and the next one follows
abbrev pub goes_on : Reading → Step
goes_on reading = record { reading = reading; put = []; fault = None }

-- these lines stand in the place of the line
abbrev pub puts : Reading → List PlacedLine → Step
puts reading lines = record { reading = reading; put = lines; fault = None }

-- the reading ends
abbrev pub stops : Reading → CorefileFault → Step
stops reading fault = record { reading = reading; put = []; fault = Some fault }

-- the last of a list, changed
abbrev pub on_last : {A : Type 0} → (A → A) → List A → List A
on_last change [] = []
on_last change (x ∷ []) = change x ∷ []
on_last change (x ∷ second ∷ xs) = x ∷ on_last change (second ∷ xs)

-- the texts of words
abbrev pub texts : List Word → List (List ℕ)
texts words = map (λ word. word.text) words

-- the text of the word at the head
abbrev pub first_text : List Word → List ℕ
first_text [] = []
first_text (word ∷ words) = word.text

-- the name that a line `import NAME` imports
abbrev pub import_name : List Word → List ℕ
import_name words = first_text (drop 1 words)

-- a directive without a body
abbrev pub directive : ℕ → List Word → Directive
directive line words =
    record { name = first_text words; args = texts (drop 1 words); body = []; line = line }

-- a block with one more directive
abbrev pub with_directive : Directive → Block → Block
with_directive directive block =
    record { keys = block.keys; directives = block.directives ++ directive ∷ [] }

-- a directive with one more line in its body
abbrev pub with_line : Line → Directive → Directive
with_line line directive =
    record {
      name = directive.name;
      args = directive.args;
      body = directive.body ++ line ∷ [];
      line = directive.line;
    }

-- a block whose last directive has one more line in its body
abbrev pub with_body_line : Line → Block → Block
with_body_line line block =
    record { keys = block.keys; directives = on_last (with_line line) block.directives }

-- a snippet without name and lines, which stands where none is being read
abbrev pub no_snippet : Snippet
no_snippet = record { name = []; lines = [] }

-- a snippet with one more line
abbrev pub with_kept : WordLine → Snippet → Snippet
with_kept line snippet =
    record { name = snippet.name; lines = snippet.lines ++ line ∷ [] }

-- how many directives the last block has
abbrev pub directive_count : List Block → ℕ
directive_count [] = 0
directive_count (block ∷ []) = length block.directives
directive_count (block ∷ second ∷ blocks) = directive_count (second ∷ blocks)

-- the snippet of a name
abbrev pub snippet_of : List ℕ → List Snippet → Option Snippet
snippet_of name snippets = find (λ snippet. same_text name snippet.name) snippets

-- the bytes of the file of a name; none where it is missing
abbrev pub file_of : List ℕ → List FileText → Option (List ℕ)
file_of name files =
    option_and_then (λ file. file.bytes) (find (λ file. same_text name file.name) files)

-- a fault of words, told at the line of the import
abbrev pub at_line : ℕ → WordsFault → WordsFault
at_line line (words.NotText own) = words.NotText line
at_line line (words.OpenQuote own) = words.OpenQuote line
at_line line (words.QuoteTail own) = words.QuoteTail line
at_line line words.NoMemory = words.NoMemory

-- what follows from an import by the words of its file
abbrev pub import_words : Reading → PlacedLine → Result (List WordLine) WordsFault → Step
import_words reading line (Ok lines) =
    puts reading (placed line.number (line.depth + 1) lines)
import_words reading line (Err broken) =
    stops reading (fault.Words (at_line line.number broken))

-- what follows from an import that names no snippet, by the bytes of its file
abbrev pub import_file : Bundle → Reading → PlacedLine → Option (List ℕ) → Step
import_file bundle reading line None = stops reading (fault.NoSnippet line.number)
import_file bundle reading line (Some bytes) =
    import_words reading line (words_of bundle.env bytes)

-- with one more file that is named
abbrev pub naming : Reading → List ℕ → Reading
naming reading name = record reading { named = reading.named ++ name ∷ [] }

-- what follows from an import, by the snippet that it names
abbrev pub import_by : Bundle → Reading → PlacedLine → Option Snippet → Step
import_by bundle reading line (Some snippet) =
    puts reading (placed line.number (line.depth + 1) snippet.lines)
import_by bundle reading line None =
    import_file bundle (naming reading (import_name line.line.words)) line
    (file_of (import_name line.line.words) bundle.files)

-- what follows from an import: it may not stand too deep
abbrev pub import : Bundle → Reading → PlacedLine → Step
import bundle reading line =
    if nat_le limits.IMPORT_DEPTH line.depth then stops reading (fault.ImportLoop line.number)
    else import_by bundle reading line (snippet_of (import_name line.line.words) reading.snippets)

-- what follows from the first line of a snippet, by its name
abbrev pub begin_snippet : Reading → ℕ → Option (List ℕ) → Step
begin_snippet reading line None = stops reading (fault.Block line why.SnippetName)
begin_snippet reading line (Some []) = stops reading (fault.Block line why.SnippetName)
begin_snippet reading line (Some (byte ∷ name)) =
    if is_some (snippet_of (byte ∷ name) reading.snippets)
    then stops reading (fault.Block line why.SnippetName)
    else goes_on (record reading {
      place = place.Snippet line 0;
      kept = record { name = byte ∷ name; lines = [] };
    })

-- what follows from a header, by its keys
abbrev pub begin_block : Reading → ℕ → HeaderData → Step
begin_block reading line header =
    record {
      reading = record reading {
        place = place.Block line;
        blocks = reading.blocks ++ record { keys = header.keys; directives = [] } ∷ [];
      };
      put = [];
      fault = option_map (fault.Block line) header.fault;
    }

-- what follows from a header: there may be only so many
abbrev pub header : Reading → ℕ → ℕ → List Word → Step
header reading port line words =
    if nat_le limits.BLOCKS (length reading.blocks)
    then stops reading (fault.TooMany limit.Blocks (limits.BLOCKS + 1))
    else begin_block reading line (header_keys port line words)

-- what follows from a directive: a block may have only so many
abbrev pub add_directive : Reading → Place → Directive → Step
add_directive reading place directive =
    if nat_le limits.DIRECTIVES (directive_count reading.blocks)
    then stops reading (fault.TooMany limit.Directives (limits.DIRECTIVES + 1))
    else goes_on (record reading {
      place = place;
      blocks = on_last (with_directive directive) reading.blocks;
      named = reading.named ++ files_of directive.name directive.args;
    })

-- the line that opened the block of this place
abbrev pub block_line : Place → ℕ
block_line place.Top = 0
block_line (place.Block line) = line
block_line (place.Body block line) = block
block_line (place.Snippet line nested) = line

-- the line that opened what this place is in
abbrev pub opening_line : Place → ℕ
opening_line place.Top = 0
opening_line (place.Block line) = line
opening_line (place.Body block line) = line
opening_line (place.Snippet line nested) = line

-- what follows from a line of a snippet, behind which so many `{` are open
abbrev pub keep_line : Reading → PlacedLine → ℕ → Step
keep_line reading line nested =
    goes_on (record reading {
      place = place.Snippet (opening_line reading.place) nested;
      kept = with_kept line.line reading.kept;
    })

-- what follows from the `}` of a snippet
abbrev pub end_snippet : Reading → Step
end_snippet reading =
    goes_on (record reading {
      place = place.Top;
      snippets = reading.snippets ++ reading.kept ∷ [];
      kept = no_snippet;
    })

-- what follows from a directive with a body
abbrev pub add_with_body : Reading → ℕ → List Word → Step
add_with_body reading line words =
    add_directive reading (place.Body (block_line reading.place) line)
    (directive line (unwrap_or (opened words) []))

-- what follows from a line of a body
abbrev pub add_body_line : Reading → ℕ → List Word → Step
add_body_line reading line words =
    goes_on (record reading {
      blocks =
          on_last (with_body_line (record { words = texts words; number = line })) reading.blocks;
    })

-- the next line stands there
abbrev pub go_to : Reading → Place → Step
go_to reading place = goes_on (record reading { place = place })

-- what follows from a line of this form
abbrev pub step_by : Bundle → ℕ → Reading → PlacedLine → LineForm → Step
step_by bundle port reading line (form.Refused why) = stops reading (fault.Block line.number why)
step_by bundle port reading line form.Import = import bundle reading line
step_by bundle port reading line form.SnippetHeader =
    begin_snippet reading line.number (snippet_name line.line.words)
step_by bundle port reading line (form.SnippetLine nested) = keep_line reading line nested
step_by bundle port reading line form.SnippetEnd = end_snippet reading
step_by bundle port reading line form.Header =
    header reading port line.number (unwrap_or (opened line.line.words) [])
step_by bundle port reading line form.BlockEnd = go_to reading place.Top
step_by bundle port reading line form.Directive =
    add_directive reading reading.place (directive line.number line.line.words)
step_by bundle port reading line form.DirectiveHeader =
    add_with_body reading line.number line.line.words
step_by bundle port reading line form.BodyLine =
    add_body_line reading line.number line.line.words
step_by bundle port reading line form.BodyEnd =
    go_to reading (place.Block (block_line reading.place))

-- what follows from a line
unfoldable pub step : Bundle → ℕ → Reading → PlacedLine → Step
step bundle port reading line =
    step_by bundle port reading line (form_at reading.place line.line.words)

-- the fault of lines that end here: what was opened must be closed
abbrev pub end_fault : Place → Option CorefileFault
end_fault place.Top = None
end_fault (place.Block line) = Some (fault.Block line why.OpenBlock)
end_fault (place.Body block line) = Some (fault.Block line why.OpenBlock)
end_fault (place.Snippet line nested) = Some (fault.Block line why.OpenBlock)

-- all that was read, and this fault
abbrev pub all_of : Reading → Option CorefileFault → EndedData
all_of reading fault =
    record { blocks = reading.blocks; named = reading.named; fault = fault }

-- a step, and what follows behind it
abbrev pub step_then : Step → (Reading → List PlacedLine → EndedData) → Option CorefileFault
    → EndedData
step_then done behind None = behind done.reading done.put
step_then done behind (Some fault) = all_of done.reading (Some fault)

-- reads lines, of which so many may still be taken
unfoldable pub read : ℕ → Bundle → ℕ → Reading → List PlacedLine → EndedData
read left bundle port reading [] = all_of reading (end_fault reading.place)
read zero bundle port reading (line ∷ lines) =
    all_of reading (Some (fault.TooMany limit.Lines (limits.LINES + 1)))
read (suc left) bundle port reading (line ∷ lines) =
    step_then (step bundle port reading line)
    (λ reading put. read left bundle port reading (put ++ lines))
    (step bundle port reading line).fault

-- nothing was read yet
abbrev pub beginning : Reading
beginning =
    record { place = place.Top; blocks = []; snippets = []; kept = no_snippet; named = [] }

-- what the lines of words say, or the fault of the words
abbrev pub read_lines : Bundle → ℕ → Result (List WordLine) WordsFault → EndedData
read_lines bundle port (Err broken) =
    record { blocks = []; named = []; fault = Some (fault.Words broken) }
read_lines bundle port (Ok lines) = read limits.LINES bundle port beginning (own_lines lines)

-- all that a bundle says, where keys without a port have this one
unfoldable pub reading_of : Bundle → ℕ → EndedData
reading_of bundle port = read_lines bundle port (words_of bundle.env bundle.conf)

-- the blocks, or the fault that ended them
abbrev pub if_good : List Block → Option CorefileFault → Result (List Block) CorefileFault
if_good blocks None = Ok blocks
if_good blocks (Some fault) = Err fault

-- the blocks, unless a key stands twice; the keys of a header stand before the fault that ended it
abbrev pub unless_double : EndedData → Option ℕ → Result (List Block) CorefileFault
unless_double ended (Some line) = Err (fault.DoubleKey line)
unless_double ended None = if_good ended.blocks ended.fault

-- the blocks of a bundle, or its first fault in the order of reading
unfoldable pub blocks_of : Bundle → ℕ → Result (List Block) CorefileFault
blocks_of bundle port =
    unless_double (reading_of bundle port) (double_key (reading_of bundle port).blocks)

-- the files that a bundle names before its first fault, each once, in order; a key that stands
-- twice is no fault here, so that the port of keys without one has no say
unfoldable pub wants_of : Bundle → List (List ℕ)
wants_of bundle = each_once (reading_of bundle 0).named

-- the answer is what the bundle says; want of memory can come at any time
abbrev pub ReadsBlocks : Bundle → ℕ → Result (List Block) CorefileFault → Type 0
ReadsBlocks bundle port (Ok blocks) = blocks_of bundle port ≡ Ok blocks
ReadsBlocks bundle port (Err fault.NoMemory) = Unit {0}
ReadsBlocks bundle port (Err (fault.Words broken)) =
    (blocks_of bundle port ≡ Err (fault.Words broken)) × (broken ≡ words.NoMemory → ⊥)
ReadsBlocks bundle port (Err (fault.Block line why)) =
    blocks_of bundle port ≡ Err (fault.Block line why)
ReadsBlocks bundle port (Err (fault.NoSnippet line)) =
    blocks_of bundle port ≡ Err (fault.NoSnippet line)
ReadsBlocks bundle port (Err (fault.ImportLoop line)) =
    blocks_of bundle port ≡ Err (fault.ImportLoop line)
ReadsBlocks bundle port (Err (fault.DoubleKey line)) =
    blocks_of bundle port ≡ Err (fault.DoubleKey line)
ReadsBlocks bundle port (Err (fault.TooMany what number)) =
    blocks_of bundle port ≡ Err (fault.TooMany what number)
