-- A seeker of a bundle is one of the bundle with a file more, and a line whose file isn't lacking
-- means there what it meant.
use Rattle.std.proofs.Common.{◌≡◌, ◌⊎◌, ℕ, Bool, true, false, cond, not, ◌||◌, List, [], ◌∷◌, ◌++◌}
use Rattle.std.proofs.Common.{Option, Some, None, refl, sym, ap, ◌∙◌, inl, inr}
use Rattle.std.specs.Prelude.{if◌then◌else◌, IfSome, nat_le, take, option_and_then}
use Rattle.std.specs.List.{find, list_any}
use Rattle.std.proofs.lemmas.List.Folds.{list_any-append}
use Rattle.dns_data.specs.declared.limit.TheConstants as limits
use Rattle.dns_data.specs.declared.file.FileText.{FileText}
use Rattle.corefile_blocks.specs.declared.bundle.Bundle.{Bundle}
use Rattle.corefile_blocks.specs.declared.fault.CorefileFault.TheVariants as fault
use Rattle.corefile_blocks.specs.declared.place.LineForm.{LineForm}
use Rattle.corefile_blocks.specs.declared.place.LineForm.TheVariants as form
use Rattle.corefile_blocks.specs.declared.seeking.Seeker.{Seeker}
use Rattle.corefile_blocks.specs.declared.shared.Snippet.{Snippet}
use Rattle.corefile_blocks.specs.Blocks.{Reading, Step, file_of, import_by, import_file, import_name}
use Rattle.corefile_blocks.specs.Blocks.{naming, snippet_of, step, step_by, stops}
use Rattle.corefile_blocks.specs.GrowingLaws.{found_more, with_one}
use Rattle.corefile_blocks.specs.LineForms.{form_at, same_text}
use Rattle.corefile_blocks.specs.PlacedLines.{PlacedLine}
use Rattle.corefile_blocks.specs.Reader.{AreTexts, IsText}
use Rattle.corefile_blocks.specs.Seeking.{Seeks, first_missing, has_file, lacked, lacked_at}
use Rattle.corefile_blocks.specs.Seeking.{lacked_by, with_all}

-- a file that is there stays
stays_there : (name : List ℕ) (files : List FileText) (file : FileText)
    → list_any (λ f. same_text name f.name) files ≡ true
    → list_any (λ f. same_text name f.name) (files ++ file ∷ []) ≡ true
stays_there name files file is =
    list_any-append (λ (f : FileText). same_text name f.name) files (file ∷ [])
    ∙ ap (λ b. b || list_any (λ (f : FileText). same_text name f.name) (file ∷ [])) is

-- and is found in front of the others
found_first : (name : List ℕ) (files : List FileText) (file : FileText)
    → list_any (λ f. same_text name f.name) files ≡ true
    → find (λ f. same_text name f.name) (files ++ file ∷ [])
    ≡ find (λ f. same_text name f.name) files
found_first name [] file is = absurd cc
found_first name (one ∷ files) file is =
    by (same_text name one.name) (found_first name files file) is
  where
    by : (b : Bool) → (list_any (λ (f : FileText). same_text name f.name) files ≡ true
        → find (λ (f : FileText). same_text name f.name) (files ++ file ∷ [])
        ≡ find (λ (f : FileText). same_text name f.name) files)
        → (b || list_any (λ (f : FileText). same_text name f.name) files) ≡ true
        → cond b (Some one) (find (λ (f : FileText). same_text name f.name) (files ++ file ∷ []))
        ≡ cond b (Some one) (find (λ (f : FileText). same_text name f.name) files)
    by true behind any = refl
    by false behind any = behind any

-- names under which files are there keep them
none_missing : (bundle : Bundle) (file : FileText) (names : List (List ℕ))
    → first_missing bundle names ≡ None → first_missing (with_one bundle file) names ≡ None
none_missing bundle file [] is = refl
none_missing bundle file (name ∷ names) is =
    by (has_file bundle name) refl (none_missing bundle file names) is
  where
    by : (b : Bool) → has_file bundle name ≡ b
        → (first_missing bundle names ≡ None → first_missing (with_one bundle file) names ≡ None)
        → cond (not b) (Some name) (first_missing bundle names) ≡ None
        → first_missing (with_one bundle file) (name ∷ names) ≡ None
    by true e behind rest =
        ap (λ h. cond (not h) (Some name) (first_missing (with_one bundle file) names))
        (stays_there name bundle.files file e) ∙ behind rest
    by false e behind rest = absurd cc

-- the bytes of a file stay
file_more : (name : List ℕ) (files : List FileText) (file : FileText) (bytes : List ℕ)
    → file_of name files ≡ Some bytes → file_of name (files ++ file ∷ []) ≡ Some bytes
file_more name files file bytes is = by (found_more name files file)
  where
    by : (file_of name (files ++ file ∷ []) ≡ file_of name files) ⊎ (file_of name files ≡ None)
        → file_of name (files ++ file ∷ []) ≡ Some bytes
    by (inl same) = same ∙ is
    by (inr none) = absurd (let t = sym none ∙ is in cc)

text_more : (bundle : Bundle) (file : FileText) (name : List ℕ) (found : Option Snippet)
    → IfSome found (IsText bundle name) → IfSome found (IsText (with_one bundle file) name)
text_more bundle file name None is = tt
text_more bundle file name (Some text) is = record {
  bytes = is.bytes;
  file = file_more name bundle.files file is.bytes is.file;
  words = is.words;
}

texts_more : (bundle : Bundle) (file : FileText) (texts : List Snippet) → AreTexts bundle texts
    → AreTexts (with_one bundle file) texts
texts_more bundle file texts are =
    λ name. text_more bundle file name (snippet_of name texts) (are name)

-- the bundle gets a file
pub seeks-more : (bundle : Bundle) (file : FileText) (seeker : Seeker) → Seeks bundle seeker
    → Seeks (with_one bundle file) seeker
seeks-more bundle file seeker seeks = record {
  says = λ more. seeks.says (file ∷ more);
  texts = texts_more bundle file seeker.reader.texts seeks.texts;
  nesting = seeks.nesting;
  inside = seeks.inside;
  known = none_missing bundle file (take seeker.seen seeker.reader.named) seeks.known;
}

-- what isn't lacking is there in a longer bundle
lacked_by_more : (bundle : Bundle) (file : FileText) (name : List ℕ) (found : Option Snippet)
    → lacked_by bundle name found ≡ None → lacked_by (with_one bundle file) name found ≡ None
lacked_by_more bundle file name (Some snippet) is = refl
lacked_by_more bundle file name None is = by (has_file bundle name) refl is
  where
    by : (b : Bool) → has_file bundle name ≡ b → (if b then None else Some name) ≡ None
        → lacked_by (with_one bundle file) name None ≡ None
    by true e none =
        ap (λ (h : Bool). if h then None else Some name) (stays_there name bundle.files file e)
    by false e none = absurd cc

lacked_if : (b : Bool) (short long : Option (List ℕ)) → (short ≡ None → long ≡ None)
    → (if b then None else short) ≡ None → (if b then None else long) ≡ None
lacked_if true short long on is = refl
lacked_if false short long on is = on is

lacked_at_more : (bundle : Bundle) (file : FileText) (reading : Reading) (line : PlacedLine)
    (of : LineForm) → lacked_at bundle reading line of ≡ None
    → lacked_at (with_one bundle file) reading line of ≡ None
lacked_at_more bundle file reading line form.Import is =
    let name : List ℕ = import_name line.line.words in
    lacked_if (nat_le limits.IMPORT_DEPTH line.depth)
    (lacked_by bundle name (snippet_of name reading.snippets))
    (lacked_by (with_one bundle file) name (snippet_of name reading.snippets))
    (lacked_by_more bundle file name (snippet_of name reading.snippets)) is
lacked_at_more bundle file reading line other is = refl

-- and the import means the same
import_same : (bundle : Bundle) (file : FileText) (reading : Reading) (line : PlacedLine)
    (found : Option Snippet) → lacked_by bundle (import_name line.line.words) found ≡ None
    → import_by (with_one bundle file) reading line found ≡ import_by bundle reading line found
import_same bundle file reading line (Some snippet) is = refl
import_same bundle file reading line None is = by (has_file bundle name) refl is
  where
    name : List ℕ
    name = import_name line.line.words

    by : (b : Bool) → has_file bundle name ≡ b
        → (◌≡◌ {A = Option (List ℕ)} (if b then None else Some name) None)
        → import_by (with_one bundle file) reading line None ≡ import_by bundle reading line None
    by true e none =
        ap (λ (f : Option FileText).
        import_file bundle (naming reading name) line (option_and_then (λ one. one.bytes) f))
        (found_first name bundle.files file e)
    by false e none = absurd cc

import_if : (b : Bool) (stopped short long : Step) (lacks : Option (List ℕ))
    → (lacks ≡ None → long ≡ short) → (if b then None else lacks) ≡ None
    → (if b then stopped else long) ≡ (if b then stopped else short)
import_if true stopped short long lacks on is = refl
import_if false stopped short long lacks on is = on is

form_same : (bundle : Bundle) (file : FileText) (port : ℕ) (reading : Reading)
    (line : PlacedLine) (of : LineForm) → lacked_at bundle reading line of ≡ None
    → step_by (with_one bundle file) port reading line of ≡ step_by bundle port reading line of
form_same bundle file port reading line form.Import is =
    let name : List ℕ = import_name line.line.words in
    import_if (nat_le limits.IMPORT_DEPTH line.depth) (stops reading (fault.ImportLoop line.number))
    (import_by bundle reading line (snippet_of name reading.snippets))
    (import_by (with_one bundle file) reading line (snippet_of name reading.snippets))
    (lacked_by bundle name (snippet_of name reading.snippets))
    (import_same bundle file reading line (snippet_of name reading.snippets)) is
form_same bundle file port reading line other is = refl

step_same : (bundle : Bundle) (file : FileText) (port : ℕ) (reading : Reading)
    (line : PlacedLine) → lacked bundle reading line ≡ None
    → step (with_one bundle file) port reading line ≡ step bundle port reading line
unfolding step
step_same bundle file port reading line is =
    form_same bundle file port reading line (form_at reading.place line.line.words) is

-- a line whose file isn't lacking means the same in the bundle with more files
pub steps-same : (bundle : Bundle) (more : List FileText) (port : ℕ) (reading : Reading)
    (line : PlacedLine) → lacked bundle reading line ≡ None
    → step (with_all bundle more) port reading line ≡ step bundle port reading line
steps-same bundle [] port reading line is = refl
steps-same bundle (file ∷ more) port reading line is =
    steps-same (with_one bundle file) more port reading line
    (lacked_at_more bundle file reading line (form_at reading.place line.line.words) is)
    ∙ step_same bundle file port reading line is
