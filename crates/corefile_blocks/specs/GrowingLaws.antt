-- What a bundle with one more file names begins with what it names without it, since reading only
-- stops at an import whose file isn't there.
use Rattle.std.proofs.Common.{◌≡◌, ◌⊎◌, ℕ, zero, suc, Bool, true, false, cond, List, [], ◌∷◌, ◌++◌, refl}
use Rattle.std.proofs.Common.{Option, Some, None, Result, Ok, Err, sym, ap, subst, ◌∙◌, inl, inr}
use Rattle.std.proofs.Common.{append_assoc, append-nil}
use Rattle.std.specs.Prelude.{if◌then◌else◌, ◌+◌, is_some, length, nat_le, option_and_then}
use Rattle.std.specs.Prelude.{unwrap_or}
use Rattle.std.specs.List.{find, list_any}
use Rattle.dns_data.specs.declared.limit.TheConstants as limits
use Rattle.dns_data.specs.declared.limit.Limit.TheVariants as limit
use Rattle.dns_data.specs.declared.directive.Directive.{Directive}
use Rattle.dns_data.specs.declared.file.FileText.{FileText}
use Rattle.corefile_words.specs.{words_of}
use Rattle.corefile_words.specs.declared.word.Word.{Word}
use Rattle.corefile_words.specs.declared.word.WordLine.{WordLine}
use Rattle.corefile_words.specs.declared.fault.WordsFault.{WordsFault}
use Rattle.corefile_blocks.specs.declared.bundle.Bundle.{Bundle}
use Rattle.corefile_blocks.specs.declared.fault.CorefileFault.{CorefileFault}
use Rattle.corefile_blocks.specs.declared.fault.CorefileFault.TheVariants as fault
use Rattle.corefile_blocks.specs.declared.fault.BlockWhy.TheVariants as why
use Rattle.corefile_blocks.specs.declared.place.Place.{Place}
use Rattle.corefile_blocks.specs.declared.place.Place.TheVariants as place
use Rattle.corefile_blocks.specs.declared.place.LineForm.{LineForm}
use Rattle.corefile_blocks.specs.declared.place.LineForm.TheVariants as form
use Rattle.corefile_blocks.specs.declared.shared.Snippet.{Snippet}
use Rattle.corefile_blocks.specs.Keys.{header_keys}
use Rattle.corefile_blocks.specs.LineForms.{form_at, opened, same_text, snippet_name}
use Rattle.corefile_blocks.specs.PlacedLines.{PlacedLine, own_lines}
use Rattle.corefile_blocks.specs.WantedFiles.{add_all, add_once, each_once, files_of}
use Rattle.corefile_blocks.specs.Blocks.{EndedData, Reading, Step, add_directive}
use Rattle.corefile_blocks.specs.Blocks.{begin_block, begin_snippet, beginning, block_line}
use Rattle.corefile_blocks.specs.Blocks.{directive, directive_count, file_of, goes_on, header}
use Rattle.corefile_blocks.specs.Blocks.{import, import_by, import_file, import_name, import_words}
use Rattle.corefile_blocks.specs.Blocks.{naming, on_last, read, read_lines, reading_of}
use Rattle.corefile_blocks.specs.Blocks.{snippet_of, step, step_by, step_then, stops, wants_of}
use Rattle.corefile_blocks.specs.Blocks.{with_directive}

-- one list begins with another
pub record Begins (front whole : List (List ℕ)) : Type 0 where
  pub rest : List (List ℕ)
  pub is : whole ≡ front ++ rest

abbrev pub begins-same : (names : List (List ℕ)) → Begins names names
begins-same names = record { rest = []; is = sym (append-nil names) }

begins-more : (names more : List (List ℕ)) → Begins names (names ++ more)
begins-more names more = record { rest = more; is = refl }

begins-then : (a b c : List (List ℕ)) → Begins a b → Begins b c → Begins a c
begins-then a b c first second = record {
  rest = first.rest ++ second.rest;
  is = second.is ∙ ap (λ names. names ++ second.rest) first.is
      ∙ append_assoc a first.rest second.rest;
}

-- a bundle with one more file
abbrev pub with_one : Bundle → FileText → Bundle
with_one bundle file =
    record { conf = bundle.conf; env = bundle.env; files = bundle.files ++ file ∷ [] }

-- Names that were read stay.

keeps_if : (b : Bool) (one other : Step) (names : List (List ℕ)) → Begins names one.reading.named
    → Begins names other.reading.named → Begins names (if b then one else other).reading.named
keeps_if true one other names h k = h
keeps_if false one other names h k = k

-- what follows from a directive that isn't too many
abbrev added : Reading → Place → Directive → Step
added reading place d = goes_on (record reading {
  place = place;
  blocks = on_last (with_directive d) reading.blocks;
  named = reading.named ++ files_of d.name d.args;
})

-- what follows from a snippet's first line, where the name is free
abbrev begun : Reading → ℕ → List ℕ → Step
begun reading line name = goes_on (record reading {
  place = place.Snippet line 0;
  kept = record { name = name; lines = [] };
})

directive_keeps : (reading : Reading) (place : Place) (d : Directive)
    → Begins reading.named (add_directive reading place d).reading.named
directive_keeps reading place d =
    keeps_if (nat_le limits.DIRECTIVES (directive_count reading.blocks))
    (stops reading (fault.TooMany limit.Directives (limits.DIRECTIVES + 1)))
    (added reading place d) reading.named (begins-same reading.named)
    (begins-more reading.named (files_of d.name d.args))

snippet_keeps : (reading : Reading) (line : ℕ) (name : Option (List ℕ))
    → Begins reading.named (begin_snippet reading line name).reading.named
snippet_keeps reading line None = begins-same reading.named
snippet_keeps reading line (Some []) = begins-same reading.named
snippet_keeps reading line (Some (byte ∷ name)) =
    keeps_if (is_some (snippet_of (byte ∷ name) reading.snippets))
    (stops reading (fault.Block line why.SnippetName)) (begun reading line (byte ∷ name))
    reading.named (begins-same reading.named) (begins-same reading.named)

header_keeps : (reading : Reading) (port line : ℕ) (words : List Word)
    → Begins reading.named (header reading port line words).reading.named
header_keeps reading port line words =
    keeps_if (nat_le limits.BLOCKS (length reading.blocks))
    (stops reading (fault.TooMany limit.Blocks (limits.BLOCKS + 1)))
    (begin_block reading line (header_keys port line words)) reading.named
    (begins-same reading.named) (begins-same reading.named)

-- what is read of an import whose name stands so, whatever its file has
import_reads : (bundle : Bundle) (reading : Reading) (line : PlacedLine) (bytes : Option (List ℕ))
    → (import_file bundle reading line bytes).reading ≡ reading
import_reads bundle reading line None = refl
import_reads bundle reading line (Some bytes) = words_read (words_of bundle.env bytes)
  where
    words_read : (lines : Result (List WordLine) WordsFault)
        → (import_words reading line lines).reading ≡ reading
    words_read (Ok lines) = refl
    words_read (Err broken) = refl

import_keeps : (bundle : Bundle) (reading : Reading) (line : PlacedLine)
    → Begins reading.named (import bundle reading line).reading.named
import_keeps bundle reading line =
    keeps_if (nat_le limits.IMPORT_DEPTH line.depth)
    (stops reading (fault.ImportLoop line.number)) (import_by bundle reading line found)
    reading.named (begins-same reading.named) (by found)
  where
    found : Option Snippet
    found = snippet_of (import_name line.line.words) reading.snippets

    by : (found : Option Snippet)
        → Begins reading.named (import_by bundle reading line found).reading.named
    by (Some snippet) = begins-same reading.named
    by None =
        let named = naming reading (import_name line.line.words) in
        subst (λ (r : Reading). Begins reading.named r.named)
        (sym (import_reads bundle named line
        (file_of (import_name line.line.words) bundle.files)))
        (begins-more reading.named (import_name line.line.words ∷ []))

form_keeps : (bundle : Bundle) (port : ℕ) (reading : Reading) (line : PlacedLine) (of : LineForm)
    → Begins reading.named (step_by bundle port reading line of).reading.named
form_keeps bundle port reading line form.Import = import_keeps bundle reading line
form_keeps bundle port reading line form.SnippetHeader =
    snippet_keeps reading line.number (snippet_name line.line.words)
form_keeps bundle port reading line form.Header =
    header_keeps reading port line.number (unwrap_or (opened line.line.words) [])
form_keeps bundle port reading line form.Directive =
    directive_keeps reading reading.place (directive line.number line.line.words)
form_keeps bundle port reading line form.DirectiveHeader =
    directive_keeps reading (place.Body (block_line reading.place) line.number)
    (directive line.number (unwrap_or (opened line.line.words) []))
form_keeps bundle port reading line other = begins-same reading.named

pub step_keeps : (bundle : Bundle) (port : ℕ) (reading : Reading) (line : PlacedLine)
    → Begins reading.named (step bundle port reading line).reading.named
unfolding step
step_keeps bundle port reading line =
    form_keeps bundle port reading line (form_at reading.place line.line.words)

-- what follows a step, whose fault is told beside it
then_keeps : (done : Step) (behind : Reading → List PlacedLine → EndedData)
    (met : Option CorefileFault)
    → ((r : Reading) (put : List PlacedLine) → Begins r.named (behind r put).named)
    → Begins done.reading.named (step_then done behind met).named
then_keeps done behind None on = on done.reading done.put
then_keeps done behind (Some fault) on = begins-same done.reading.named

pub read_keeps : (left : ℕ) (bundle : Bundle) (port : ℕ) (reading : Reading)
    (lines : List PlacedLine) → Begins reading.named (read left bundle port reading lines).named
unfolding read
read_keeps zero bundle port reading [] = begins-same reading.named
read_keeps (suc left) bundle port reading [] = begins-same reading.named
read_keeps zero bundle port reading (line ∷ lines) = begins-same reading.named
read_keeps (suc left) bundle port reading (line ∷ lines) =
    let done : Step = step bundle port reading line in
    begins-then reading.named done.reading.named
    (read (suc left) bundle port reading (line ∷ lines)).named
    (step_keeps bundle port reading line)
    (then_keeps done (λ r put. read left bundle port r (put ++ lines)) done.fault
    (λ r put. read_keeps left bundle port r (put ++ lines)))

-- A file more changes a step only where it stopped without.

-- the step stopped, and the other one read no less
record Stopped (short long : Step) : Type 0 where
  pub fault : CorefileFault
  pub ends : short.fault ≡ Some fault
  pub read : long.reading ≡ short.reading

abbrev Alike : Step → Step → Type 0
Alike short long = (long ≡ short) ⊎ Stopped short long

alike_if : (b : Bool) (one short long : Step) → Alike short long
    → Alike (if b then one else short) (if b then one else long)
alike_if true one short long h = inl refl
alike_if false one short long h = h

-- a file more is found under its name, unless there was one
-- the bytes of a file that was found
abbrev bytes_in : Option FileText → Option (List ℕ)
bytes_in found = option_and_then (λ file. file.bytes) found

pub found_more : (name : List ℕ) (files : List FileText) (file : FileText)
    → (file_of name (files ++ file ∷ []) ≡ file_of name files) ⊎ (file_of name files ≡ None)
found_more name [] file = inr refl
found_more name (one ∷ files) file = here (same_text name one.name) (found_more name files file)
  where
    here : (same : Bool)
        → (file_of name (files ++ file ∷ []) ≡ file_of name files) ⊎ (file_of name files ≡ None)
        → (bytes_in (cond same (Some one) (find (λ f. same_text name f.name) (files ++ file ∷ [])))
        ≡ bytes_in (cond same (Some one) (find (λ f. same_text name f.name) files)))
        ⊎ (bytes_in (cond same (Some one) (find (λ f. same_text name f.name) files)) ≡ None)
    here true more = inl refl
    here false more = more

import_alike : (bundle : Bundle) (file : FileText) (reading : Reading) (line : PlacedLine)
    → Alike (import bundle reading line) (import (with_one bundle file) reading line)
import_alike bundle file reading line =
    alike_if (nat_le limits.IMPORT_DEPTH line.depth) (stops reading (fault.ImportLoop line.number))
    (import_by bundle reading line found) (import_by (with_one bundle file) reading line found)
    (by found)
  where
    name : List ℕ
    name = import_name line.line.words

    found : Option Snippet
    found = snippet_of name reading.snippets

    by : (found : Option Snippet) → Alike (import_by bundle reading line found)
        (import_by (with_one bundle file) reading line found)
    by (Some snippet) = inl refl
    by None = by_file (found_more name bundle.files file)
      where
        by_file : (file_of name (bundle.files ++ file ∷ []) ≡ file_of name bundle.files)
            ⊎ (file_of name bundle.files ≡ None)
            → Alike (import_by bundle reading line None)
            (import_by (with_one bundle file) reading line None)
        by_file (inl same) = inl (ap (import_file bundle (naming reading name) line) same)
        by_file (inr none) = inr (record {
          fault = fault.NoSnippet line.number;
          ends = ap (λ found. (import_file bundle (naming reading name) line found).fault) none;
          read = import_reads (with_one bundle file) (naming reading name) line
              (file_of name (bundle.files ++ file ∷ []))
              ∙ sym (import_reads bundle (naming reading name) line (file_of name bundle.files));
        })

form_alike : (bundle : Bundle) (file : FileText) (port : ℕ) (reading : Reading)
    (line : PlacedLine) (of : LineForm)
    → Alike (step_by bundle port reading line of) (step_by (with_one bundle file) port reading line of)
form_alike bundle file port reading line form.Import = import_alike bundle file reading line
form_alike bundle file port reading line other = inl refl

step_alike : (bundle : Bundle) (file : FileText) (port : ℕ) (reading : Reading)
    (line : PlacedLine)
    → Alike (step bundle port reading line) (step (with_one bundle file) port reading line)
unfolding step
step_alike bundle file port reading line =
    form_alike bundle file port reading line (form_at reading.place line.line.words)

-- what follows two steps that are alike
then_grows : (short long : Step) (behind more : Reading → List PlacedLine → EndedData)
    (met : Option CorefileFault) → met ≡ short.fault → Alike short long
    → ((r : Reading) (put : List PlacedLine) → Begins (behind r put).named (more r put).named)
    → ((r : Reading) (put : List PlacedLine) → Begins r.named (more r put).named)
    → Begins (step_then short behind met).named (step_then long more long.fault).named
then_grows short long behind more None is (inl same) on keeps =
    subst (λ (s : Step). Begins (behind short.reading short.put).named (step_then s more s.fault).named)
    (sym same)
    (subst (λ f. Begins (behind short.reading short.put).named (step_then short more f).named) is
    (on short.reading short.put))
then_grows short long behind more (Some fault) is (inl same) on keeps =
    subst (λ (s : Step). Begins short.reading.named (step_then s more s.fault).named) (sym same)
    (then_keeps short more short.fault keeps)
then_grows short long behind more None is (inr stopped) on keeps =
    absurd (let e = is ∙ stopped.ends in cc)
then_grows short long behind more (Some fault) is (inr stopped) on keeps =
    subst (λ (r : Reading). Begins r.named (step_then long more long.fault).named) stopped.read
    (then_keeps long more long.fault keeps)

read_grows : (left : ℕ) (bundle : Bundle) (file : FileText) (port : ℕ) (reading : Reading)
    (lines : List PlacedLine) → Begins (read left bundle port reading lines).named
    (read left (with_one bundle file) port reading lines).named
unfolding read
read_grows zero bundle file port reading [] = begins-same reading.named
read_grows (suc left) bundle file port reading [] = begins-same reading.named
read_grows zero bundle file port reading (line ∷ lines) = begins-same reading.named
read_grows (suc left) bundle file port reading (line ∷ lines) =
    then_grows (step bundle port reading line) (step (with_one bundle file) port reading line)
    (λ r put. read left bundle port r (put ++ lines))
    (λ r put. read left (with_one bundle file) port r (put ++ lines))
    (step bundle port reading line).fault refl (step_alike bundle file port reading line)
    (λ r put. read_grows left bundle file port r (put ++ lines))
    (λ r put. read_keeps left (with_one bundle file) port r (put ++ lines))

lines_grow : (bundle : Bundle) (file : FileText) (port : ℕ)
    (words : Result (List WordLine) WordsFault) → Begins (read_lines bundle port words).named
    (read_lines (with_one bundle file) port words).named
lines_grow bundle file port (Err broken) = begins-same []
lines_grow bundle file port (Ok lines) =
    read_grows limits.LINES bundle file port beginning (own_lines lines)

named_grow : (bundle : Bundle) (file : FileText) (port : ℕ)
    → Begins (reading_of bundle port).named (reading_of (with_one bundle file) port).named
unfolding reading_of
named_grow bundle file port = lines_grow bundle file port (words_of bundle.env bundle.conf)

-- Each once.

once_begins : (made : List (List ℕ)) (name : List ℕ) → Begins made (add_once made name)
once_begins made name = by (list_any (same_text name) made)
  where
    by : (b : Bool) → Begins made (if b then made else made ++ name ∷ [])
    by true = begins-same made
    by false = begins-more made (name ∷ [])

all_begin : (made more : List (List ℕ)) → Begins made (add_all made more)
all_begin made [] = begins-same made
all_begin made (name ∷ more) =
    begins-then made (add_once made name) (add_all made (name ∷ more)) (once_begins made name)
    (all_begin (add_once made name) more)

all_behind : (made front more : List (List ℕ))
    → add_all made (front ++ more) ≡ add_all (add_all made front) more
all_behind made [] more = refl
all_behind made (name ∷ front) more = all_behind (add_once made name) front more

once_grows : (names more : List (List ℕ)) → Begins names more
    → Begins (each_once names) (each_once more)
unfolding each_once
once_grows names more begins =
    subst (Begins (add_all [] names))
    (sym (ap (add_all []) begins.is ∙ all_behind [] names begins.rest))
    (all_begin (add_all [] names) begins.rest)

-- a bundle with one more file wants what it wants without it, and perhaps more behind it
pub wants_grow : (bundle : Bundle) (file : FileText)
    → Begins (wants_of bundle) (wants_of (with_one bundle file))
unfolding wants_of
wants_grow bundle file =
    once_grows (reading_of bundle 0).named (reading_of (with_one bundle file) 0).named
    (named_grow bundle file 0)

-- names of which none stands among these or in front of itself
abbrev pub Fresh : List (List ℕ) → List (List ℕ) → Type 0
Fresh seen [] = Unit
Fresh seen (name ∷ names) =
    (list_any (same_text name) seen ≡ false) × Fresh (seen ++ name ∷ []) names

fresh_behind : (seen names : List (List ℕ)) (last : List ℕ) → Fresh seen names
    → list_any (same_text last) (seen ++ names) ≡ false → Fresh seen (names ++ last ∷ [])
fresh_behind seen [] last fresh none =
    (subst (λ all. list_any (same_text last) all ≡ false) (append-nil seen) none, tt)
fresh_behind seen (name ∷ names) last fresh none = (
  fresh.0,
  fresh_behind (seen ++ name ∷ []) names last fresh.1
      (subst (λ all. list_any (same_text last) all ≡ false)
      (sym (append_assoc seen (name ∷ []) names)) none),
)

once_fresh : (made : List (List ℕ)) (name : List ℕ) → Fresh [] made
    → Fresh [] (add_once made name)
once_fresh made name fresh = by (list_any (same_text name) made) refl
  where
    by : (b : Bool) → list_any (same_text name) made ≡ b
        → Fresh [] (if b then made else made ++ name ∷ [])
    by true is = fresh
    by false is = fresh_behind [] made name fresh is

all_fresh : (made more : List (List ℕ)) → Fresh [] made → Fresh [] (add_all made more)
all_fresh made [] fresh = fresh
all_fresh made (name ∷ more) fresh =
    all_fresh (add_once made name) more (once_fresh made name fresh)

names_fresh : (names : List (List ℕ)) → Fresh [] (each_once names)
unfolding each_once
names_fresh names = all_fresh [] names tt

-- no file is wanted twice
pub wants_fresh : (bundle : Bundle) → Fresh [] (wants_of bundle)
unfolding wants_of
wants_fresh bundle = names_fresh (reading_of bundle 0).named
