-- How a bundle is read again, file by file.
use Rattle.std.proofs.Common.{◌≡◌, ◌<◌, ◌+◌, ℕ, List, [], ◌∷◌, ◌++◌, length, Option, Some, None, Result, Ok, Err, refl, sym, ap, subst, ◌∙◌, arith, append_assoc, append-nil}
use Rattle.std.specs.Prelude.{IfOk, slice_get}
use Rattle.std.proofs.lemmas.List.{get_or_push, length_push}
use Rattle.std.proofs.lemmas.Option.{same_Some, slice_get-get_or}
use Rattle.dns_data.specs.declared.file.FileText.{FileText}
use Rattle.outside.specs.declared.watch.ReadOut.{ReadOut}
use Rattle.outside.specs.declared.watch.ReadOut.TheVariants as readout
use Rattle.outside.specs.{WatchState}
use Rattle.corefile_blocks.specs.declared.bundle.Bundle.{Bundle}
use Rattle.corefile_bundle.specs.declared.fault.GatherFault.{GatherFault}
use Rattle.corefile_bundle.specs.declared.regathering.Regathered.{Regathered}
use Rattle.corefile_bundle.specs.declared.regathering.Regathered.TheVariants as again
use Rattle.corefile_bundle.specs.Again.{IfOther, InOrder, IsGathered, others, read_again, with_files}
use Rattle.corefile_bundle.specs.AgainLaws.{gathered-in-order}
use Rattle.corefile_bundle.specs.Gathering.{AreWanted, IsWhole, Source, TellsGathering, after_read, bundle_bytes, next_file, over, with_file}
use Rattle.corefile_bundle.specs.Steps.{TookOne}
use Rattle.corefile_bundle.specs.WholeLaws.{gathered-is-whole}
use Rattle.corefile_bundle.proofs.Gathered.{unless_by}

-- what was told gives a bundle that has just what it wants, each file in its turn
pub told_whole : (source : Source) (before after : WatchState) (result : Result Bundle GatherFault) → TellsGathering source before after result → IfOk result (λ bundle. AreWanted bundle)
told_whole source before after (Ok bundle) told = gathered-is-whole source told.reads bundle told.gathers
told_whole source before after (Err cause) told = tt

pub told_in_order : (source : Source) (before after : WatchState) (result : Result Bundle GatherFault) → TellsGathering source before after result → IfOk result (λ bundle. IsGathered bundle)
told_in_order source before after (Ok bundle) told = gathered-in-order source told.reads bundle told.gathers
told_in_order source before after (Err cause) told = tt

pub other_in_order : (source : Source) (before after : WatchState) (last : Bundle) (result : Result Regathered GatherFault) → TellsGathering source before after (read_again last result) → IfOther result (λ bundle. IsGathered bundle)
other_in_order source before after last (Ok again.Same) told = tt
other_in_order source before after last (Ok (again.Other bundle)) told = gathered-in-order source told.reads bundle told.gathers
other_in_order source before after last (Err cause) told = tt

-- another bundle is what was read
pub again_others : (last : Bundle) (result : Result Bundle GatherFault) → read_again last (others result) ≡ result
again_others last (Ok bundle) = refl
again_others last (Err cause) = refl

-- the next file of a bundle that was gathered before, and those behind it
pub next_here : (last bundle : Bundle) (rest others : List FileText) (file : FileText) (name : List ℕ) → bundle.conf ≡ last.conf → bundle.env ≡ last.env → rest ≡ file ∷ others → name ≡ file.name
    → InOrder last bundle.files rest → (next_file bundle ≡ Some name) × InOrder last (bundle.files ++ file ∷ []) others
next_here last bundle rest others file name conf env is named order =
    let here = subst (InOrder last bundle.files) is order in
    let same : bundle ≡ with_files last bundle.files = λ i. record { conf = conf i; env = env i; files = bundle.files } in
    (ap next_file same ∙ here.0 ∙ ap Some (sym named), here.1)

-- a read put one more file behind those of a bundle
pub record IsMore (bundle : Bundle) (name : List ℕ) (behind : Bundle) : Type 0 where
  pub bytes : Option (List ℕ)
  pub is : with_file bundle name bytes ≡ behind

more_read : (bundle behind : Bundle) (name : List ℕ) (out : ReadOut) → after_read bundle name out ≡ Ok behind → IsMore bundle name behind
more_read bundle behind name (readout.Got bytes) is = record {
  bytes = Some bytes;
  is = (unless_by (with_file bundle name (Some bytes)) behind (over (length bytes) (bundle_bytes bundle + length bytes)) is).1;
}
more_read bundle behind name readout.Missing is = record { bytes = None; is = cc }
more_read bundle behind name readout.Failed is = absurd cc
more_read bundle behind name readout.NoMemory is = absurd cc

pub one_more : (bundle behind : Bundle) (name : List ℕ) (mid now : WatchState) → TookOne name (after_read bundle name) mid now (Ok behind) → IsMore bundle name behind
one_more bundle behind name mid now took = more_read bundle behind name took.out took.is

-- where its bytes are those of a file of this name, it is that file
pub record IsAgain (bundle behind : Bundle) (file : FileText) : Type 0 where
  pub conf : behind.conf ≡ bundle.conf
  pub env : behind.env ≡ bundle.env
  pub files : behind.files ≡ bundle.files ++ file ∷ []

last_is : (files all : List FileText) (one read : FileText) (count : ℕ) → files ++ one ∷ [] ≡ all → count ≡ length files → slice_get all count ≡ Some read → one ≡ read
last_is files all one read count is here got =
    let long = length_push files one in
    let within : count < length (files ++ one ∷ []) = omega (arith, long, here) in
    same_Some one read
    (sym (slice_get-get_or (files ++ one ∷ []) count one within ∙ ap Some (get_or_push files one one count (sym here)))
    ∙ ap (λ (fs : List FileText). slice_get fs count) is ∙ got)

pub same_again : (bundle behind : Bundle) (name : List ℕ) (file read : FileText) (count : ℕ) → IsMore bundle name behind → count ≡ length bundle.files → slice_get behind.files count ≡ Some read → read.bytes ≡ file.bytes → name ≡ file.name
    → IsAgain bundle behind file
same_again bundle behind name file read count more here got bytes named =
    let one : FileText = record { name = name; bytes = more.bytes } in
    let is : one ≡ read = last_is bundle.files behind.files one read count (ap (λ b. b.files) more.is) here got in
    let same : more.bytes ≡ file.bytes = ap (λ f. f.bytes) is ∙ bytes in
    let file_is : one ≡ file = λ i. record { name = named i; bytes = same i } in
    record {
      conf = ap (λ b. b.conf) (sym more.is);
      env = ap (λ b. b.env) (sym more.is);
      files = ap (λ b. b.files) (sym more.is) ∙ ap (λ f. bundle.files ++ f ∷ []) file_is;
    }

-- what is left behind it
pub left_again : (bundle behind last : Bundle) (rest others : List FileText) (file : FileText) → IsAgain bundle behind file → rest ≡ file ∷ others → bundle.files ++ rest ≡ last.files → behind.files ++ others ≡ last.files
left_again bundle behind last rest others file again is all =
    ap (λ files. files ++ others) again.files ∙ append_assoc bundle.files (file ∷ []) others ∙ ap (λ files. bundle.files ++ files) (sym is) ∙ all

-- none is left
pub no_files : (files : List FileText) → length files ≡ 0 → files ≡ []
no_files [] none = refl
no_files (file ∷ files) none = absurd (omega (arith, none))

-- where all files are as they were, the bundle is
pub all_again : (bundle last : Bundle) (rest : List FileText) → bundle.conf ≡ last.conf → bundle.env ≡ last.env → rest ≡ [] → bundle.files ++ rest ≡ last.files → last ≡ bundle
all_again bundle last rest conf env none all =
    let files : last.files ≡ bundle.files = sym all ∙ ap (λ r. bundle.files ++ r) none ∙ append-nil bundle.files in
    λ i. record { conf = sym conf i; env = sym env i; files = files i }

pub whole_again : (bundle last : Bundle) (rest : List FileText) → bundle.conf ≡ last.conf → bundle.env ≡ last.env → rest ≡ [] → InOrder last bundle.files rest → IsWhole bundle
whole_again bundle last rest conf env none order =
    let same : bundle ≡ with_files last bundle.files = λ i. record { conf = conf i; env = env i; files = bundle.files } in
    ap next_file same ∙ subst (InOrder last bundle.files) none order
