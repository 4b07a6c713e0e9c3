-- The reads that give a bundle: that of the Corefile, and then one of each file that is wanted.
-- This server's own rule.
use Rattle.std.specs.Prelude.{◌≡◌, ◌≢◌, ◌<◌, ◌≤◌, ◌⊎◌, ℕ, ◌+◌, nat_lt}
use Rattle.std.specs.Prelude.{List, [], ◌∷◌, ◌++◌, length, map}
use Rattle.std.specs.Prelude.{Option, Some, None, Result, Ok, Err, if◌then◌else◌}
use Rattle.std.specs.List.{sum_by}
use Rattle.dns_data.specs.declared.limit.TheConstants as limits
use Rattle.dns_data.specs.declared.limit.Limit.{Limit}
use Rattle.dns_data.specs.declared.limit.Limit.TheVariants as limit
use Rattle.corefile_words.specs.declared.word.Pair.{Pair}
use Rattle.corefile_blocks.specs.declared.bundle.Bundle.{Bundle}
use Rattle.corefile_blocks.specs.{wants_of}
use Rattle.corefile_blocks.specs.Seeking.{first_missing}
use Rattle.outside.specs.declared.mark.WatchMark.{WatchMark}
use Rattle.outside.specs.declared.mark.WatchMark.TheVariants.{Read}
use Rattle.outside.specs.declared.watch.ReadOut.{ReadOut}
use Rattle.outside.specs.declared.watch.ReadOut.TheVariants as readout
use Rattle.outside.specs.{AddsWatch, WatchState}
use Rattle.corefile_bundle.specs.declared.fault.GatherFault.{GatherFault}
use Rattle.corefile_bundle.specs.declared.fault.GatherFault.TheVariants as fault

-- what a bundle is gathered from: the name of the Corefile, and the environment
pub record Source : Type 0 where
  pub conf : List ℕ
  pub env : List Pair

-- a read of a file, and what it gave
pub record OneRead : Type 0 where
  pub name : List ℕ
  pub out : ReadOut

-- the marks of reads
abbrev pub marks_of : List OneRead → List WatchMark
marks_of reads = map (λ read. Read read.name read.out) reads

-- how many bytes a file has; none where it is missing
abbrev pub size_of : Option (List ℕ) → ℕ
size_of None = 0
size_of (Some bytes) = length bytes

-- how many bytes a bundle has: those of the Corefile, and of the files
abbrev pub bundle_bytes : Bundle → ℕ
bundle_bytes bundle = length bundle.conf + sum_by (λ file. size_of file.bytes) bundle.files

-- the first file that a bundle wants and doesn't have
unfoldable pub next_file : Bundle → Option (List ℕ)
next_file bundle = first_missing bundle (wants_of bundle)

-- the names of the files that a bundle has
abbrev pub file_names : Bundle → List (List ℕ)
file_names bundle = map (λ file. file.name) bundle.files

-- the files of a bundle are just those that it wants, each once, in the order in which it names
-- them
abbrev pub AreWanted : Bundle → Type 0
AreWanted bundle = file_names bundle ≡ wants_of bundle

-- no file that a bundle wants is left to read
abbrev pub IsWhole : Bundle → Type 0
IsWhole bundle = next_file bundle ≡ None

-- the limit that a read passes: how many bytes it gave, and then how many the bundle has with them
abbrev pub over : ℕ → ℕ → Option GatherFault
over size total =
    if nat_lt limits.FILE_BYTES size
    then Some (fault.TooMany limit.FileBytes (limits.FILE_BYTES + 1))
    else if nat_lt limits.BUNDLE_BYTES total
    then Some (fault.TooMany limit.BundleBytes total)
    else None

-- a bundle, unless a limit was passed
abbrev pub unless_over : Bundle → Option GatherFault → Result Bundle GatherFault
unless_over bundle None = Ok bundle
unless_over bundle (Some cause) = Err cause

-- a bundle that has the Corefile alone
abbrev pub bare : List Pair → List ℕ → Bundle
bare env conf = record { conf = conf; env = env; files = [] }

-- a bundle with one more file
abbrev pub with_file : Bundle → List ℕ → Option (List ℕ) → Bundle
with_file bundle name bytes =
    record {
      conf = bundle.conf;
      env = bundle.env;
      files = bundle.files ++ record { name = name; bytes = bytes } ∷ [];
    }

-- what the read of the Corefile comes to
abbrev pub after_corefile : Source → ReadOut → Result Bundle GatherFault
after_corefile source (readout.Got bytes) =
    unless_over (bare source.env bytes) (over (length bytes) (length bytes))
after_corefile source readout.Missing = Err fault.NoCorefile
after_corefile source readout.Failed = Err (fault.ReadFailed source.conf)
after_corefile source readout.NoMemory = Err fault.NoMemory

-- what the read of a file comes to
abbrev pub after_read : Bundle → List ℕ → ReadOut → Result Bundle GatherFault
after_read bundle name (readout.Got bytes) =
    unless_over (with_file bundle name (Some bytes))
    (over (length bytes) (bundle_bytes bundle + length bytes))
after_read bundle name readout.Missing = Ok (with_file bundle name None)
after_read bundle name readout.Failed = Err (fault.ReadFailed name)
after_read bundle name readout.NoMemory = Err fault.NoMemory

-- the reads end with this fault, or with want of memory
abbrev pub EndsBy : GatherFault → List OneRead → Result Bundle GatherFault → Type 0
EndsBy cause reads result = (reads ≡ []) × ((result ≡ Err cause) ⊎ (result ≡ Err fault.NoMemory))

-- further reads go on from a bundle, or they end with a fault
abbrev pub GoesOn : (Bundle → Type 0) → Result Bundle GatherFault → List OneRead
    → Result Bundle GatherFault → Type 0
GoesOn P (Ok bundle) reads result = P bundle
GoesOn P (Err cause) reads result = EndsBy cause reads result

-- a bundle has as many files as it may, and wants another
pub record WantsTooMany (bundle : Bundle) (what : Limit) (number : ℕ) : Type 0 where
  pub wants : next_file bundle ≢ None
  pub full : limits.FILES ≤ length bundle.files
  pub what_is : what ≡ limit.Files
  pub number_is : number ≡ limits.FILES + 1

-- what stands at the end of the reads
abbrev pub IsEnd : Bundle → Result Bundle GatherFault → Type 0
IsEnd bundle (Ok whole) = (whole ≡ bundle) × IsWhole bundle
IsEnd bundle (Err fault.NoCorefile) = ⊥
IsEnd bundle (Err (fault.ReadFailed name)) = ⊥
IsEnd bundle (Err (fault.TooMany what number)) = WantsTooMany bundle what number
IsEnd bundle (Err fault.NoMemory) = Unit {0}

-- the next read of a bundle is of this file
pub record AsksFor (bundle : Bundle) (read : OneRead) : Type 0 where
  pub wants : next_file bundle ≡ Some read.name
  pub few : length bundle.files < limits.FILES
  pub told : read.out ≢ readout.NoMemory

-- the reads behind those that gave this bundle so far, and what they come to: each is of the first
-- wanted file that the bundle doesn't have
abbrev pub Gathers : Bundle → List OneRead → Result Bundle GatherFault → Type 0
Gathers bundle [] result = IsEnd bundle result
Gathers bundle (read ∷ reads) result =
    AsksFor bundle read × GoesOn (λ behind. Gathers behind reads result)
    (after_read bundle read.name read.out) reads result

-- the reads, the first of which is of the Corefile, and what they come to; want of memory may come
-- at any time
abbrev pub GathersFrom : Source → List OneRead → Result Bundle GatherFault → Type 0
GathersFrom source [] result = result ≡ Err fault.NoMemory
GathersFrom source (read ∷ reads) result =
    (read.name ≡ source.conf) × (read.out ≢ readout.NoMemory)
    × GoesOn (λ behind. Gathers behind reads result) (after_corefile source read.out) reads result

-- a watch tells the reads that come to this
pub record TellsGathering (source : Source) (before after : WatchState)
    (result : Result Bundle GatherFault) : Type 0 where
  pub reads : List OneRead
  pub told : AddsWatch before after (marks_of reads)
  pub gathers : GathersFrom source reads result

abbrev pub source_of : List ℕ → List Pair → Source
source_of conf env = record { conf = conf; env = env }
