-- The first file that a bundle wants and doesn't have, found while the bundle gets its files.
use Rattle.std.specs.Prelude.{◌≡◌, ℕ, ◌+◌, ◌<◌, ◌≤◌, nat_le, Bool, not, List, [], ◌∷◌, length, take}
use Rattle.std.specs.Prelude.{Option, Some, None, if◌then◌else◌}
use Rattle.std.specs.List.{find, list_any}
use Rattle.corefile_words.specs.declared.word.WordLine.{WordLine}
use Rattle.dns_data.specs.declared.limit.TheConstants as limits
use Rattle.dns_data.specs.declared.file.FileText.{FileText}
use Rattle.corefile_blocks.specs.declared.bundle.Bundle.{Bundle}
use Rattle.corefile_blocks.specs.declared.place.LineForm.{LineForm}
use Rattle.corefile_blocks.specs.declared.place.LineForm.TheVariants as form
use Rattle.corefile_blocks.specs.declared.seeking.Next.{Next}
use Rattle.corefile_blocks.specs.declared.seeking.Next.TheVariants as next
use Rattle.corefile_blocks.specs.declared.seeking.Seeker.{Seeker}
use Rattle.corefile_blocks.specs.declared.shared.Snippet.{Snippet}
use Rattle.corefile_blocks.specs.Blocks.{Reading, beginning, import_name, read, reading_of}
use Rattle.corefile_blocks.specs.Blocks.{snippet_of, wants_of}
use Rattle.corefile_blocks.specs.GrowingLaws.{with_one}
use Rattle.corefile_blocks.specs.LineForms.{form_at, nesting, same_text}
use Rattle.corefile_blocks.specs.PlacedLines.{PlacedLine, own_lines, stream_of}
use Rattle.corefile_blocks.specs.Reader.{AreTexts, reading_of as read_by}

-- whether a bundle has a file of this name, be it a missing one
abbrev pub has_file : Bundle → List ℕ → Bool
has_file bundle name = list_any (λ file. same_text name file.name) bundle.files

-- the first of these names under which a bundle has no file
abbrev pub first_missing : Bundle → List (List ℕ) → Option (List ℕ)
first_missing bundle names = find (λ name. not (has_file bundle name)) names

-- a bundle with more files
abbrev pub with_all : Bundle → List FileText → Bundle
with_all bundle [] = bundle
with_all bundle (file ∷ files) = with_all (with_one bundle file) files

-- the file that an import names, where it names no snippet and the bundle doesn't have it
abbrev pub lacked_by : Bundle → List ℕ → Option Snippet → Option (List ℕ)
lacked_by bundle name (Some snippet) = None
lacked_by bundle name None = if has_file bundle name then None else Some name

abbrev pub lacked_import : Bundle → Reading → PlacedLine → Option (List ℕ)
lacked_import bundle reading line =
    if nat_le limits.IMPORT_DEPTH line.depth then None
    else lacked_by bundle (import_name line.line.words)
    (snippet_of (import_name line.line.words) reading.snippets)

abbrev pub lacked_at : Bundle → Reading → PlacedLine → LineForm → Option (List ℕ)
lacked_at bundle reading line form.Import = lacked_import bundle reading line
lacked_at bundle reading line other = None

-- the file that a line imports, where the bundle doesn't have it
abbrev pub lacked : Bundle → Reading → PlacedLine → Option (List ℕ)
lacked bundle reading line =
    lacked_at bundle reading line (form_at reading.place line.line.words)

-- what a bundle names is what was read of it, and what is read of the lines that are left: of this
-- bundle, and of each with more files
pub record Seeks (bundle : Bundle) (seeker : Seeker) : Type 0 where
  pub says : (more : List FileText) → (reading_of (with_all bundle more) 0).named
      ≡ (read seeker.left (with_all bundle more) 0 (read_by seeker.reader)
      (stream_of seeker.reader.frames)).named
  pub texts : AreTexts bundle seeker.reader.texts
  pub nesting : nesting seeker.reader.place + seeker.left ≤ limits.LINES
  pub inside : seeker.seen ≤ length seeker.reader.named
  pub known : first_missing bundle (take seeker.seen seeker.reader.named) ≡ None

-- nothing was read of these lines
pub record Starts (lines : List WordLine) (seeker : Seeker) : Type 0 where
  pub reading : read_by seeker.reader ≡ beginning
  pub stream : stream_of seeker.reader.frames ≡ own_lines lines
  pub texts : seeker.reader.texts ≡ []
  pub left : seeker.left ≡ limits.LINES
  pub seen : seeker.seen ≡ 0

-- what comes of the next line
abbrev pub Comes : Bundle → Seeker → Seeker → Next → Type 0
Comes bundle before after next.Line = Seeks bundle after × (after.left < before.left)
Comes bundle before after (next.File name) =
    Seeks bundle after × (first_missing bundle (wants_of bundle) ≡ Some name)
Comes bundle before after next.End =
    Seeks bundle after × (first_missing bundle (wants_of bundle) ≡ None)
