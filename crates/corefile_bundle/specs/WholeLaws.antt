-- What is gathered is whole: its files are just those that it wants, in that order.
use Rattle.std.proofs.Common.{◌≡◌, ◌⊎◌, ℕ, ◌+◌, Bool, true, false, cond, not, ◌||◌, inl, inr}
use Rattle.std.proofs.Common.{List, [], ◌∷◌, ◌++◌, length, map, Option, Some, None, Result, Ok, Err}
use Rattle.std.proofs.Common.{refl, sym, ap, subst, ◌∙◌, append_assoc, append-nil}
use Rattle.std.specs.Prelude.{nat_eq}
use Rattle.std.specs.Bool.{Decides}
use Rattle.std.specs.List.{find, list_any}
use Rattle.std.specs.Cmp.{unsigned_Decides}
use Rattle.std.specs.Cmp.Lexicographic.{pointwise}
use Rattle.std.proofs.lemmas.List.Folds.{list_any-append}
use Rattle.std.proofs.lemmas.Slice.Eq.{slice_eq-Decides}
use Rattle.dns_data.specs.declared.file.FileText.{FileText}
use Rattle.outside.specs.declared.watch.ReadOut.{ReadOut}
use Rattle.outside.specs.declared.watch.ReadOut.TheVariants as readout
use Rattle.corefile_blocks.specs.declared.bundle.Bundle.{Bundle}
use Rattle.corefile_blocks.specs.{wants_of}
use Rattle.corefile_blocks.specs.GrowingLaws.{Begins, Fresh, wants_fresh, wants_grow, with_one}
use Rattle.corefile_blocks.specs.Seeking.{first_missing}
use Rattle.corefile_bundle.specs.declared.fault.GatherFault.{GatherFault}
use Rattle.corefile_bundle.specs.Gathering.{AreWanted, Gathers, GathersFrom, GoesOn, OneRead}
use Rattle.corefile_bundle.specs.Gathering.{Source, after_corefile, after_read, bare, bundle_bytes}
use Rattle.corefile_bundle.specs.Gathering.{file_names, next_file, over}
use Rattle.corefile_bundle.specs.Gathering.{unless_over, with_file}

-- the files so far are the first that the bundle wants
record Tracks (bundle : Bundle) : Type 0 where
  pub rest : List (List ℕ)
  pub is : wants_of bundle ≡ file_names bundle ++ rest

decides : (a b : List ℕ) → Decides (pointwise nat_eq a b) (a ≡ b)
decides a b = slice_eq-Decides unsigned_Decides a b (pointwise nat_eq a b) refl

-- a file of this name stands among files just where the name stands among theirs
among : (files : List FileText) (name : List ℕ)
    → list_any (λ file. pointwise nat_eq name file.name) files
    ≡ list_any (pointwise nat_eq name) (map (λ file. file.name) files)
among [] name = refl
among (file ∷ files) name = ap (λ b. pointwise nat_eq name file.name || b) (among files name)

-- a name in the middle stands nowhere in front of itself
fresh_at : (seen front rest : List (List ℕ)) (name : List ℕ)
    → Fresh seen (front ++ name ∷ rest) → list_any (pointwise nat_eq name) (seen ++ front) ≡ false
fresh_at seen [] rest name fresh =
    subst (λ all. list_any (pointwise nat_eq name) all ≡ false) (sym (append-nil seen)) fresh.0
fresh_at seen (one ∷ front) rest name fresh =
    subst (λ all. list_any (pointwise nat_eq name) all ≡ false) (append_assoc seen (one ∷ []) front)
    (fresh_at (seen ++ one ∷ []) front rest name fresh.1)

-- whether these files have one of a name
abbrev has : List FileText → List ℕ → Bool
has files name = list_any (λ file. pointwise nat_eq name file.name) files

has_own : (done todo : List FileText) (file : FileText) → has (done ++ file ∷ todo) file.name ≡ true
has_own done todo file =
    list_any-append (λ (f : FileText). pointwise nat_eq file.name f.name) done (file ∷ todo)
    ∙ ap (λ b. has done file.name || (b || has todo file.name))
    ((decides file.name file.name).1 refl)
    ∙ or_true (has done file.name)
  where
    or_true : (b : Bool) → (b || true) ≡ true
    or_true true = refl
    or_true false = refl

-- the names of files that are there are passed over
passed : (done todo : List FileText) (rest : List (List ℕ))
    → find (λ name. not (has (done ++ todo) name)) (map (λ file. file.name) todo ++ rest)
    ≡ find (λ name. not (has (done ++ todo) name)) rest
passed done [] rest = refl
passed done (file ∷ todo) rest =
    ap (λ b. cond (not b) (Some file.name)
    (find (λ name. not (has (done ++ file ∷ todo) name)) (map (λ file. file.name) todo ++ rest)))
    (has_own done todo file)
    ∙ subst (λ files. find (λ name. not (has files name)) (map (λ file. file.name) todo ++ rest)
    ≡ find (λ name. not (has files name)) rest) (append_assoc done (file ∷ []) todo)
    (passed (done ++ file ∷ []) todo rest)

-- the next file is the first of those behind
next_of : (bundle : Bundle) (rest : List (List ℕ)) → wants_of bundle ≡ file_names bundle ++ rest
    → next_file bundle ≡ first_missing bundle rest
unfolding next_file
next_of bundle rest is = ap (first_missing bundle) is ∙ passed [] bundle.files rest

-- none of those behind is there
next_is : (bundle : Bundle) (rest : List (List ℕ)) (name : List ℕ)
    → wants_of bundle ≡ file_names bundle ++ name ∷ rest → next_file bundle ≡ Some name
next_is bundle rest name is =
    next_of bundle (name ∷ rest) is
    ∙ ap (λ b. cond (not b) (Some name) (first_missing bundle rest))
    (among bundle.files name
    ∙ fresh_at [] (file_names bundle) rest name (subst (Fresh []) is (wants_fresh bundle)))

-- where no file is missing, all of them are there
whole_at : (bundle : Bundle) → Tracks bundle → next_file bundle ≡ None → AreWanted bundle
whole_at bundle tracks none = by tracks.rest tracks.is
  where
    by : (rest : List (List ℕ)) → wants_of bundle ≡ file_names bundle ++ rest → AreWanted bundle
    by [] is = sym (is ∙ append-nil (file_names bundle))
    by (name ∷ rest) is = absurd (let e = sym (next_is bundle rest name is) ∙ none in cc)

names_more : (files : List FileText) (file : FileText)
    → map (λ file. file.name) (files ++ file ∷ []) ≡ map (λ file. file.name) files ++ file.name ∷ []
names_more [] file = refl
names_more (one ∷ files) file = ap (λ names. one.name ∷ names) (names_more files file)

-- one file more, which is the next
tracks_on : (bundle : Bundle) (name : List ℕ) (bytes : Option (List ℕ)) → Tracks bundle
    → next_file bundle ≡ Some name → Tracks (with_file bundle name bytes)
tracks_on bundle name bytes tracks next = by tracks.rest tracks.is
  where
    file : FileText
    file = record { name = name; bytes = bytes }

    grows : Begins (wants_of bundle) (wants_of (with_one bundle file))
    grows = wants_grow bundle file

    by : (rest : List (List ℕ)) → wants_of bundle ≡ file_names bundle ++ rest
        → Tracks (with_file bundle name bytes)
    by [] is = absurd (let e = sym next ∙ next_of bundle [] is in cc)
    by (first ∷ rest) is =
        let same : first ≡ name = let e = sym (next_is bundle rest first is) ∙ next in cc in
        record {
          rest = rest ++ grows.rest;
          is = grows.is ∙ ap (λ names. names ++ grows.rest) is
              ∙ append_assoc (file_names bundle) (first ∷ rest) grows.rest
              ∙ ap (λ n. file_names bundle ++ (n ∷ (rest ++ grows.rest))) same
              ∙ sym (append_assoc (file_names bundle) (name ∷ []) (rest ++ grows.rest))
              ∙ ap (λ names. names ++ (rest ++ grows.rest)) (sym (names_more bundle.files file));
        }

tracks_bare : (bundle : Bundle) → bundle.files ≡ [] → Tracks bundle
tracks_bare bundle none = record {
  rest = wants_of bundle;
  is = ap (λ files. map (λ file. file.name) files ++ wants_of bundle) (sym none);
}

-- a bundle is no fault
pub not_both : {whole : Bundle} {one other : GatherFault}
    → (◌≡◌ {A = Result Bundle GatherFault} (Ok whole) (Err one))
    ⊎ (◌≡◌ {A = Result Bundle GatherFault} (Ok whole) (Err other)) → ⊥
not_both (inl e) = absurd cc
not_both (inr e) = absurd cc

-- what a read came to
pub over_goes : {P : Type 0} (bundle whole : Bundle) (met : Option GatherFault) (reads : List OneRead)
    → (Gathers bundle reads (Ok whole) → P)
    → GoesOn (λ behind. Gathers behind reads (Ok whole)) (unless_over bundle met) reads (Ok whole)
    → P
over_goes bundle whole None reads on gathers = on gathers
over_goes bundle whole (Some cause) reads on gathers = absurd (not_both gathers.1)

pub read_goes : {P : Type 0} (bundle whole : Bundle) (name : List ℕ) (reads : List OneRead)
    (out : ReadOut)
    → ((bytes : Option (List ℕ)) → Gathers (with_file bundle name bytes) reads (Ok whole) → P)
    → GoesOn (λ behind. Gathers behind reads (Ok whole)) (after_read bundle name out) reads (Ok whole)
    → P
read_goes bundle whole name reads (readout.Got bytes) on gathers =
    over_goes (with_file bundle name (Some bytes)) whole
    (over (length bytes) (bundle_bytes bundle + length bytes)) reads (on (Some bytes)) gathers
read_goes bundle whole name reads readout.Missing on gathers = on None gathers
read_goes bundle whole name reads readout.Failed on gathers = absurd (not_both gathers.1)
read_goes bundle whole name reads readout.NoMemory on gathers = absurd (not_both gathers.1)

gathers_whole : (bundle whole : Bundle) (reads : List OneRead) → Tracks bundle
    → Gathers bundle reads (Ok whole) → AreWanted whole
gathers_whole bundle whole [] tracks end =
    subst AreWanted (sym end.0) (whole_at bundle tracks end.1)
gathers_whole bundle whole (read ∷ reads) tracks gathers =
    read_goes bundle whole read.name reads read.out
    (λ bytes. gathers_whole (with_file bundle read.name bytes) whole reads
    (tracks_on bundle read.name bytes tracks gathers.0.wants)) gathers.1

-- reads that give a bundle give one whose files are just those that it wants
pub gathered-is-whole : (source : Source) (reads : List OneRead) (whole : Bundle)
    → GathersFrom source reads (Ok whole) → AreWanted whole
gathered-is-whole source [] whole none = absurd cc
gathered-is-whole source (read ∷ reads) whole gathers = goes read.out gathers.2
  where
    goes : (out : ReadOut)
        → GoesOn (λ behind. Gathers behind reads (Ok whole)) (after_corefile source out) reads
        (Ok whole) → AreWanted whole
    goes (readout.Got bytes) on =
        over_goes (bare source.env bytes) whole (over (length bytes) (length bytes)) reads
        (gathers_whole (bare source.env bytes) whole reads
        (tracks_bare (bare source.env bytes) refl)) on
    goes readout.Missing on = absurd (not_both on.1)
    goes readout.Failed on = absurd (not_both on.1)
    goes readout.NoMemory on = absurd (not_both on.1)
