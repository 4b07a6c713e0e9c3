-- All looks of a watch: what its journal tells of them, and how they end. This server's own rule.
use Rattle.std.specs.Prelude.{◌≡◌, ◌⊎◌, false, List, [], ◌∷◌, ◌++◌, Result, Ok}
use Rattle.std.specs.List.{flat_map}
use Rattle.dns_data.specs.declared.block.Block.{Block}
use Rattle.outside.specs.declared.mark.WatchMark.{WatchMark}
use Rattle.outside.specs.declared.mark.WatchMark.TheVariants.{End, Published}
use Rattle.corefile_blocks.specs.declared.bundle.Bundle.{Bundle}
use Rattle.corefile_bundle.specs.declared.fault.GatherFault.{GatherFault}
use Rattle.corefile_bundle.specs.{GathersFrom, OneRead, Source, marks_of}
use Rattle.chain_meaning.specs.{IsAccepted, Terms}
use Rattle.run_meaning.specs.declared.watch_end.WatchEnd.{WatchEnd}
use Rattle.run_meaning.specs.declared.watch_end.WatchEnd.TheVariants as ends
use Rattle.run_meaning.specs.Reloads.{reloads}
use Rattle.run_meaning.specs.WatchTurn.{WatchTurn, bundles_of, watch_marks}

-- the reads of a gathering, whatever it came to
pub record IsReading (source : Source) (journal : List WatchMark) : Type 0 where
  pub reads : List OneRead
  pub gives : Result Bundle GatherFault
  pub gathers : GathersFrom source reads gives
  pub is : journal ≡ marks_of reads

-- the last bundle that was published is not to be looked at again
pub record StopsLooking (terms : Terms) (bundles : List Bundle) : Type 0 where
  pub before : List Bundle
  pub last : Bundle
  pub last_is : bundles ≡ before ++ last ∷ []
  pub blocks : List Block
  pub accepted : IsAccepted terms last blocks
  pub no_reload : reloads blocks ≡ false

-- how the looks end: the watch has ended, or what serves has no `reload`
abbrev pub EndsWatch : Terms → List Bundle → List WatchMark → Type 0
EndsWatch terms bundles marks =
    (marks ≡ End ∷ []) ⊎ ((marks ≡ []) × StopsLooking terms bundles)

-- the mark of each end
abbrev pub end_marks : WatchEnd → List WatchMark
end_marks ends.End = End ∷ []
end_marks ends.NoReload = []

-- the journal is the reads that gave the first bundle, its publication, these looks, and their end
pub record TellsLooks (source : Source) (terms : Terms) (first : Bundle)
    (looks : List WatchTurn) (journal : List WatchMark) : Type 0 where
  pub reads : List OneRead
  pub gathers : GathersFrom source reads (Ok first)
  pub ending : List WatchMark
  pub told : journal
      ≡ marks_of reads ++ Published 0 ∷ (flat_map watch_marks looks ++ ending)
  pub ends : EndsWatch terms (bundles_of first looks) ending
