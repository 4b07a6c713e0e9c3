-- One read of a gathering, and the reads behind a bundle.
use Rattle.std.specs.Prelude.{◌≡◌, ◌≢◌, ◌⊎◌, ◌≤◌, ℕ, List, [], ◌∷◌, Result, Ok, Err}
use Rattle.dns_data.specs.declared.limit.TheConstants as limits
use Rattle.corefile_blocks.specs.declared.bundle.Bundle.{Bundle}
use Rattle.outside.specs.declared.mark.WatchMark.TheVariants.{Read}
use Rattle.outside.specs.declared.watch.ReadOut.{ReadOut}
use Rattle.outside.specs.declared.watch.ReadOut.TheVariants as readout
use Rattle.outside.specs.{AddsWatch, WatchState}
use Rattle.corefile_blocks.specs.{IsReadable}
use Rattle.corefile_bundle.specs.declared.fault.GatherFault.{GatherFault}
use Rattle.corefile_bundle.specs.declared.fault.GatherFault.TheVariants as fault
use Rattle.corefile_bundle.specs.Gathering.{Gathers, OneRead, bundle_bytes, marks_of}

-- one read was told, and it comes to this
pub record TookOne (name : List ℕ) (after_read : ReadOut → Result Bundle GatherFault)
    (before after : WatchState) (result : Result Bundle GatherFault) : Type 0 where
  pub out : ReadOut
  pub some : out ≢ readout.NoMemory
  pub told : AddsWatch before after (Read name out ∷ [])
  pub is : after_read out ≡ result

-- a read was told
pub record ToldOne (name : List ℕ) (before after : WatchState) : Type 0 where
  pub out : ReadOut
  pub some : out ≢ readout.NoMemory
  pub told : AddsWatch before after (Read name out ∷ [])

-- want of memory came before a read was told, or behind it
abbrev pub Starved : List ℕ → WatchState → WatchState → Type 0
Starved name before after = AddsWatch before after [] ⊎ ToldOne name before after

-- a read of this file comes to this
abbrev pub TakesOne : List ℕ → (ReadOut → Result Bundle GatherFault) → WatchState → WatchState
    → Result Bundle GatherFault → Type 0
TakesOne name by before after (Ok bundle) = TookOne name by before after (Ok bundle)
TakesOne name by before after (Err fault.NoCorefile) =
    TookOne name by before after (Err fault.NoCorefile)
TakesOne name by before after (Err (fault.ReadFailed other)) =
    TookOne name by before after (Err (fault.ReadFailed other))
TakesOne name by before after (Err (fault.TooMany what number)) =
    TookOne name by before after (Err (fault.TooMany what number))
TakesOne name by before after (Err fault.NoMemory) = Starved name before after

-- a bundle within the limits of bytes
pub record IsSmall (bundle : Bundle) : Type 0 where
  pub bytes : bundle_bytes bundle ≤ limits.BUNDLE_BYTES
  pub readable : IsReadable bundle

-- a watch tells the reads behind a bundle, which come to this
pub record TellsRest (bundle : Bundle) (before after : WatchState)
    (result : Result Bundle GatherFault) : Type 0 where
  pub reads : List OneRead
  pub told : AddsWatch before after (marks_of reads)
  pub gathers : Gathers bundle reads result
