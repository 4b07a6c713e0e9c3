-- How a gathering goes on, read by read.
use Rattle.std.proofs.Common.{Bool, true, false, nat_lt, length-append, ◌≡◌, ◌≤◌, ◌<◌, ◌^◌, ℕ, ◌+◌, List, [], ◌∷◌, ◌++◌, length, Option, Some, None, Result, Ok, Err, refl, sym, ap, subst, ◌∙◌, inl, inr, arith, append_assoc, append-nil}
use Rattle.std.specs.Prelude.{IfSome, OnSome, if◌then◌else◌}
use Rattle.dns_data.specs.declared.file.FileText.{FileText}
use Rattle.dns_data.specs.declared.limit.Limit.TheVariants as limit
use Rattle.corefile_words.specs.declared.word.Pair.{Pair}
use Rattle.std.proofs.lemmas.Bool.{ltb-false}
use Rattle.std.proofs.lemmas.List.Elements.{All-push}
use Rattle.std.proofs.lemmas.List.Sums.{sum_by-append}
use Rattle.dns_data.specs.declared.limit.TheConstants as limits
use Rattle.outside.specs.declared.mark.WatchMark.TheVariants.{Read}
use Rattle.outside.specs.declared.watch.ReadOut.{ReadOut}
use Rattle.outside.specs.declared.watch.ReadOut.TheVariants as readout
use Rattle.outside.specs.{AddsWatch, WatchState}
use Rattle.outside.specs.Journals.{watch-adds-then}
use Rattle.outside.specs.States.{WatchJournal}
use Rattle.outside.specs.WatchMarks.{watch_added}
use Rattle.corefile_blocks.specs.declared.bundle.Bundle.{Bundle}
use Rattle.corefile_blocks.specs.{Seeks}
use Rattle.corefile_blocks.specs.SeekingLaws.{seeks-more}
use Rattle.corefile_blocks.specs.declared.seeking.Seeker.{Seeker}
use Rattle.corefile_bundle.specs.declared.fault.GatherFault.{GatherFault}
use Rattle.corefile_bundle.specs.declared.fault.GatherFault.TheVariants as fault
use Rattle.corefile_bundle.specs.Gathering.{Source, OneRead, Gathers, GoesOn, TellsGathering, after_corefile, after_read, bare, bundle_bytes, unless_over, marks_of, next_file, over, size_of, with_file}
use Rattle.corefile_bundle.specs.Steps.{IsSmall, Starved, TakesOne, TellsRest, TookOne}

-- a read within the limits
pub record IsWithinLimits (size total : ℕ) : Type 0 where
  pub file : size ≤ limits.FILE_BYTES
  pub bundle : total ≤ limits.BUNDLE_BYTES

over_by : (a b : Bool) (size total : ℕ) → nat_lt limits.FILE_BYTES size ≡ a → nat_lt limits.BUNDLE_BYTES total ≡ b
    → (if a then Some (fault.TooMany limit.FileBytes (limits.FILE_BYTES + 1)) else if b then Some (fault.TooMany limit.BundleBytes total) else None) ≡ None → IsWithinLimits size total
over_by true b size total e f is = absurd cc
over_by false true size total e f is = absurd cc
over_by false false size total e f is = record { file = ltb-false limits.FILE_BYTES size e; bundle = ltb-false limits.BUNDLE_BYTES total f }

over_none : (size total : ℕ) → over size total ≡ None → IsWithinLimits size total
over_none size total is = over_by (nat_lt limits.FILE_BYTES size) (nat_lt limits.BUNDLE_BYTES total) size total refl refl is

-- what a read leaves
pub record IsBehind (bundle behind : Bundle) : Type 0 where
  pub small : IsSmall behind
  pub longer : length behind.files ≡ length bundle.files + 1

with_small : (bundle : Bundle) (name : List ℕ) (bytes : Option (List ℕ)) → IsSmall bundle → IfSome bytes (λ b. length b < 2 ^ 32) → bundle_bytes bundle + size_of bytes ≤ limits.BUNDLE_BYTES → IsBehind bundle (with_file bundle name bytes)
with_small bundle name bytes small few total =
    let sum = sum_by-append (λ (f : FileText). size_of f.bytes) bundle.files (record { name = name; bytes = bytes } ∷ []) in
    record {
      small = record {
        bytes = omega (arith, sum, total);
        readable = record {
          conf = small.readable.conf;
          files = All-push (λ f. IfSome f.bytes (λ b. length b < 2 ^ 32)) bundle.files (record { name = name; bytes = bytes }) small.readable.files few;
        };
      };
      longer = length-append bundle.files (record { name = name; bytes = bytes } ∷ []);
    }

pub unless_by : (bundle behind : Bundle) (met : Option GatherFault) → unless_over bundle met ≡ Ok behind → (met ≡ None) × (bundle ≡ behind)
unless_by bundle behind None is = (refl, cc)
unless_by bundle behind (Some cause) is = absurd cc

behind_read : (bundle behind : Bundle) (name : List ℕ) (out : ReadOut) → IsSmall bundle → after_read bundle name out ≡ Ok behind → IsBehind bundle behind
behind_read bundle behind name (readout.Got bytes) small is =
    let met = unless_by (with_file bundle name (Some bytes)) behind (over (length bytes) (bundle_bytes bundle + length bytes)) is in
    let within = over_none (length bytes) (bundle_bytes bundle + length bytes) met.0 in
    subst (IsBehind bundle) met.1 (with_small bundle name (Some bytes) small (let f = within.file in omega (arith, f)) within.bundle)
behind_read bundle behind name readout.Missing small is =
    let same : with_file bundle name None ≡ behind = cc in
    subst (IsBehind bundle) same (with_small bundle name None small tt (let b = small.bytes in omega (arith, b)))
behind_read bundle behind name readout.Failed small is = absurd cc
behind_read bundle behind name readout.NoMemory small is = absurd cc

-- the seeker goes on with what a read leaves
seeks_read : (bundle behind : Bundle) (seeker : Seeker) (name : List ℕ) (out : ReadOut) → Seeks bundle seeker → after_read bundle name out ≡ Ok behind → Seeks behind seeker
seeks_read bundle behind seeker name (readout.Got bytes) seeks is =
    let met = unless_by (with_file bundle name (Some bytes)) behind (over (length bytes) (bundle_bytes bundle + length bytes)) is in
    subst (λ b. Seeks b seeker) met.1 (seeks-more bundle (record { name = name; bytes = Some bytes }) seeker seeks)
seeks_read bundle behind seeker name readout.Missing seeks is =
    let same : with_file bundle name None ≡ behind = cc in
    subst (λ b. Seeks b seeker) same (seeks-more bundle (record { name = name; bytes = None }) seeker seeks)
seeks_read bundle behind seeker name readout.Failed seeks is = absurd cc
seeks_read bundle behind seeker name readout.NoMemory seeks is = absurd cc

pub seeks_behind : (bundle behind : Bundle) (seeker : Seeker) (name : List ℕ) (mid now : WatchState) → Seeks bundle seeker → TookOne name (after_read bundle name) mid now (Ok behind) → Seeks behind seeker
seeks_behind bundle behind seeker name mid now seeks took = seeks_read bundle behind seeker name took.out seeks took.is

bare_small : (env : List Pair) (conf : List ℕ) → IsWithinLimits (length conf) (length conf) → IsSmall (bare env conf)
bare_small env conf within = record {
  bytes = let b = within.bundle in omega (arith, b);
  readable = record { conf = let f = within.file in omega (arith, f); files = λ k d l. absurd (omega arith) };
}

behind_corefile : (source : Source) (behind : Bundle) (out : ReadOut) → after_corefile source out ≡ Ok behind → IsSmall behind
behind_corefile source behind (readout.Got bytes) is =
    let met = unless_by (bare source.env bytes) behind (over (length bytes) (length bytes)) is in
    subst IsSmall met.1 (bare_small source.env bytes (over_none (length bytes) (length bytes) met.0))
behind_corefile source behind readout.Missing is = absurd cc
behind_corefile source behind readout.Failed is = absurd cc
behind_corefile source behind readout.NoMemory is = absurd cc

pub first_small : (source : Source) (start now : WatchState) (behind : Bundle) → TookOne source.conf (after_corefile source) start now (Ok behind) → IsSmall behind
first_small source start now behind took = behind_corefile source behind took.out took.is

pub next_small : (bundle behind : Bundle) (name : List ℕ) (mid now : WatchState) → IsSmall bundle → TookOne name (after_read bundle name) mid now (Ok behind) → IsBehind bundle behind
next_small bundle behind name mid now small took = behind_read bundle behind name took.out small took.is

-- the reads so far: whatever follows from the bundle follows from the first by these reads
pub record HasGathered (first : Bundle) (start now : WatchState) (bundle : Bundle) : Type 0 where
  pub done : List OneRead
  pub told : AddsWatch start now (marks_of done)
  pub goes : (reads : List OneRead) (result : Result Bundle GatherFault) → Gathers bundle reads result → Gathers first (done ++ reads) result

marks-more : (done : List OneRead) (read : OneRead) → marks_of (done ++ read ∷ []) ≡ marks_of done ++ Read read.name read.out ∷ []
marks-more [] read = refl
marks-more (d ∷ done) read = ap (λ marks. Read d.name d.out ∷ marks) (marks-more done read)

marks-both : (done reads : List OneRead) → marks_of (done ++ reads) ≡ marks_of done ++ marks_of reads
marks-both [] reads = refl
marks-both (d ∷ done) reads = ap (λ marks. Read d.name d.out ∷ marks) (marks-both done reads)

-- nothing follows but want of memory
starved_behind : (behind : Result Bundle GatherFault) → GoesOn (λ bundle. Gathers bundle [] (Err fault.NoMemory)) behind [] (Err fault.NoMemory)
starved_behind (Ok bundle) = tt
starved_behind (Err cause) = (refl, inr refl)

nothing_told : (journal : WatchJournal) → OnSome journal (journal ≡ watch_added journal [])
nothing_told None = tt
nothing_told (Some marks) = ap Some (sym (append-nil marks))

-- nothing was read
pub begins : (first : Bundle) (start : WatchState) → HasGathered first start start first
begins first start = record { done = []; told = record { told = nothing_told start.journal }; goes = λ reads result gathers. gathers }

-- the Corefile was read, and what follows it
pub joins : (source : Source) (start mid now : WatchState) (bundle : Bundle) (result : Result Bundle GatherFault) → TookOne source.conf (after_corefile source) start mid (Ok bundle) → TellsRest bundle mid now result
    → TellsGathering source start now result
joins source start mid now bundle result took rest = record {
  reads = record { name = source.conf; out = took.out } ∷ rest.reads;
  told = watch-adds-then took.told rest.told;
  gathers = (refl, took.some, subst (λ behind. GoesOn (λ b. Gathers b rest.reads result) behind rest.reads result) (sym took.is) rest.gathers);
}

-- further reads, and what follows them
pub joins_rest : (first : Bundle) (start mid now : WatchState) (bundle : Bundle) (result : Result Bundle GatherFault) → HasGathered first start mid bundle → TellsRest bundle mid now result
    → TellsRest first start now result
joins_rest first start mid now bundle result h rest = record {
  reads = h.done ++ rest.reads;
  told = subst (AddsWatch start now) (sym (marks-both h.done rest.reads)) (watch-adds-then h.told rest.told);
  gathers = h.goes rest.reads result rest.gathers;
}

-- the Corefile gave no bundle
pub begins_not : (source : Source) (start now : WatchState) (cause : GatherFault) → TookOne source.conf (after_corefile source) start now (Err cause) → TellsGathering source start now (Err cause)
begins_not source start now cause took = record {
  reads = record { name = source.conf; out = took.out } ∷ [];
  told = took.told;
  gathers = (refl, took.some, subst (λ behind. GoesOn (λ b. Gathers b [] (Err cause)) behind [] (Err cause)) (sym took.is) (refl, inl refl));
}

pub begins_starved : (source : Source) (start now : WatchState) → Starved source.conf start now → TellsGathering source start now (Err fault.NoMemory)
begins_starved source start now (inl told) = record { reads = []; told = told; gathers = refl }
begins_starved source start now (inr one) = record {
  reads = record { name = source.conf; out = one.out } ∷ [];
  told = one.told;
  gathers = (refl, one.some, starved_behind (after_corefile source one.out));
}

pub no_bundle : (source : Source) (start now : WatchState) (cause : GatherFault) → TakesOne source.conf (after_corefile source) start now (Err cause) → TellsGathering source start now (Err cause)
no_bundle source start now fault.NoCorefile takes = begins_not source start now fault.NoCorefile takes
no_bundle source start now (fault.ReadFailed name) takes = begins_not source start now (fault.ReadFailed name) takes
no_bundle source start now (fault.TooMany what number) takes = begins_not source start now (fault.TooMany what number) takes
no_bundle source start now fault.NoMemory takes = begins_starved source start now takes

-- a further read
pub goes_on : (first : Bundle) (start mid now : WatchState) (bundle behind : Bundle) (name : List ℕ) → HasGathered first start mid bundle → next_file bundle ≡ Some name → length bundle.files < limits.FILES
    → TookOne name (after_read bundle name) mid now (Ok behind) → HasGathered first start now behind
goes_on first start mid now bundle behind name h wants few took =
    let read : OneRead = record { name = name; out = took.out } in
    record {
      done = h.done ++ read ∷ [];
      told = subst (AddsWatch start now) (sym (marks-more h.done read)) (watch-adds-then h.told took.told);
      goes = λ reads result gathers.
          subst (λ all. Gathers first all result) (sym (append_assoc h.done (read ∷ []) reads))
          (h.goes (read ∷ reads) result (record { wants = wants; few = few; told = took.some }, subst (λ b. GoesOn (λ b. Gathers b reads result) b reads result) (sym took.is) gathers));
    }

-- a further read that ends the gathering
ends_by : (first : Bundle) (start mid now : WatchState) (bundle : Bundle) (name : List ℕ) (cause : GatherFault) → HasGathered first start mid bundle → next_file bundle ≡ Some name → length bundle.files < limits.FILES
    → TookOne name (after_read bundle name) mid now (Err cause) → TellsRest first start now (Err cause)
ends_by first start mid now bundle name cause h wants few took =
    let read : OneRead = record { name = name; out = took.out } in
    record {
      reads = h.done ++ read ∷ [];
      told = subst (AddsWatch start now) (sym (marks-more h.done read)) (watch-adds-then h.told took.told);
      gathers = h.goes (read ∷ []) (Err cause)
          (record { wants = wants; few = few; told = took.some }, subst (λ b. GoesOn (λ b. Gathers b [] (Err cause)) b [] (Err cause)) (sym took.is) (refl, inl refl));
    }

starves : (first : Bundle) (start mid now : WatchState) (bundle : Bundle) (name : List ℕ) → HasGathered first start mid bundle → next_file bundle ≡ Some name → length bundle.files < limits.FILES
    → Starved name mid now → TellsRest first start now (Err fault.NoMemory)
starves first start mid now bundle name h wants few (inl told) = record {
  reads = h.done;
  told = subst (AddsWatch start now) (append-nil (marks_of h.done)) (watch-adds-then h.told told);
  gathers = subst (λ all. Gathers first all (Err fault.NoMemory)) (append-nil h.done) (h.goes [] (Err fault.NoMemory) tt);
}
starves first start mid now bundle name h wants few (inr one) =
    let read : OneRead = record { name = name; out = one.out } in
    record {
      reads = h.done ++ read ∷ [];
      told = subst (AddsWatch start now) (sym (marks-more h.done read)) (watch-adds-then h.told one.told);
      gathers = h.goes (read ∷ []) (Err fault.NoMemory) (record { wants = wants; few = few; told = one.some }, starved_behind (after_read bundle name one.out));
    }

pub read_ends : (first : Bundle) (start mid now : WatchState) (bundle : Bundle) (name : List ℕ) (cause : GatherFault) → HasGathered first start mid bundle → next_file bundle ≡ Some name → length bundle.files < limits.FILES
    → TakesOne name (after_read bundle name) mid now (Err cause) → TellsRest first start now (Err cause)
read_ends first start mid now bundle name fault.NoCorefile h wants few takes = ends_by first start mid now bundle name fault.NoCorefile h wants few takes
read_ends first start mid now bundle name (fault.ReadFailed other) h wants few takes = ends_by first start mid now bundle name (fault.ReadFailed other) h wants few takes
read_ends first start mid now bundle name (fault.TooMany what number) h wants few takes = ends_by first start mid now bundle name (fault.TooMany what number) h wants few takes
read_ends first start mid now bundle name fault.NoMemory h wants few takes = starves first start mid now bundle name h wants few takes

-- nothing more is read
pub ends : (first : Bundle) (start now : WatchState) (bundle : Bundle) (result : Result Bundle GatherFault) → HasGathered first start now bundle → Gathers bundle [] result → TellsRest first start now result
ends first start now bundle result h is =
    record { reads = h.done; told = h.told; gathers = subst (λ all. Gathers first all result) (append-nil h.done) (h.goes [] result is) }

-- a file more than a bundle may have
pub too_many : (first : Bundle) (start now : WatchState) (bundle : Bundle) (name : List ℕ) → HasGathered first start now bundle → next_file bundle ≡ Some name → limits.FILES ≤ length bundle.files
    → TellsRest first start now (Err (fault.TooMany limit.Files (limits.FILES + 1)))
too_many first start now bundle name h wants full =
    ends first start now bundle (Err (fault.TooMany limit.Files (limits.FILES + 1))) h (record { wants = λ none. absurd (let e = sym wants ∙ none in cc); full = full; what_is = refl; number_is = refl })
