-- What a reader has read, and what it must keep.
use Rattle.std.specs.Prelude.{◌≡◌, ℕ, List, ◌++◌, Option, Some, IfSome, Ok}
use Rattle.corefile_words.specs.{words_of}
use Rattle.corefile_blocks.specs.declared.bundle.Bundle.{Bundle}
use Rattle.corefile_blocks.specs.declared.fault.CorefileFault.{CorefileFault}
use Rattle.corefile_blocks.specs.declared.fault.CorefileFault.TheVariants as fault
use Rattle.corefile_words.specs.declared.fault.WordsFault.TheVariants as words
use Rattle.corefile_blocks.specs.declared.reader.Reader.{Reader}
use Rattle.corefile_blocks.specs.declared.shared.Snippet.{Snippet}
use Rattle.corefile_blocks.specs.PlacedLines.{stream_of}
use Rattle.corefile_blocks.specs.Blocks.{Reading, Step, file_of, snippet_of}

-- what a reader has read
abbrev pub reading_of : Reader → Reading
reading_of reader =
    record {
      place = reader.place;
      blocks = reader.blocks;
      snippets = reader.snippets;
      kept = record { name = reader.kept.name; lines = reader.kept.lines };
      named = reader.named;
    }

-- the lines are those of the words of the bundle's file of this name
pub record IsText (bundle : Bundle) (name : List ℕ) (text : Snippet) : Type 0 where
  pub bytes : List ℕ
  pub file : file_of name bundle.files ≡ Some bytes
  pub words : words_of bundle.env bytes ≡ Ok text.lines

-- texts that were read before, each found by its file's name
abbrev pub AreTexts : Bundle → List Snippet → Type 0
AreTexts bundle texts = (name : List ℕ) → IfSome (snippet_of name texts) (IsText bundle name)

-- the fault is none of memory
abbrev pub IsTold : CorefileFault → Type 0
IsTold (fault.Words words.NoMemory) = ⊥
IsTold fault.NoMemory = ⊥
IsTold (fault.Words (words.NotText line)) = Unit {0}
IsTold (fault.Words (words.OpenQuote line)) = Unit {0}
IsTold (fault.Words (words.QuoteTail line)) = Unit {0}
IsTold (fault.Block line why) = Unit {0}
IsTold (fault.NoSnippet line) = Unit {0}
IsTold (fault.ImportLoop line) = Unit {0}
IsTold (fault.DoubleKey line) = Unit {0}
IsTold (fault.TooMany what number) = Unit {0}

-- the reader has done this step: what it has read, the fault, and the lines in front of those that
-- were still to be read
pub record Follows (s : Step) (before after : Reader) (met : Option CorefileFault) : Type 0 where
  pub reading : reading_of after ≡ s.reading
  pub fault : met ≡ s.fault
  pub told : IfSome met IsTold
  pub put : stream_of after.frames ≡ s.put ++ stream_of before.frames

-- the reader has done this step, which puts no lines
pub record Does (s : Step) (before after : Reader) (met : Option CorefileFault) : Type 0 where
  pub reading : reading_of after ≡ s.reading
  pub fault : met ≡ s.fault
  pub told : IfSome met IsTold
  pub frames : after.frames ≡ before.frames
  pub texts : after.texts ≡ before.texts
