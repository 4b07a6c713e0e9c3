-- What reading the first bundle answers. This server's own rule.
use Rattle.std.specs.Prelude.{◌≡◌, Result, Ok, Err}
use Rattle.outside.specs.Causes.{Rose}
use Rattle.outside.specs.States.{WatchState}
use Rattle.corefile_blocks.specs.declared.bundle.Bundle.{Bundle}
use Rattle.corefile_bundle.specs.declared.fault.GatherFault.{GatherFault}
use Rattle.corefile_bundle.specs.declared.fault.GatherFault.TheVariants as unread
use Rattle.corefile_bundle.specs.Gathering.{Source, TellsGathering}
use Rattle.chain_build.specs.{ArePlans, PlansData, ground_of}
use Rattle.reload_watch.specs.declared.fault.ReadFault.{ReadFault}
use Rattle.reload_watch.specs.declared.fault.ReadFault.TheVariants as fault
use Rattle.run_meaning.specs.Answers.{Refuses}
use Rattle.reload_watch.specs.States.{Footing, terms_of}

-- a gathering that was told, and a fact of what it came to
pub record GathersThat (source : Source) (before after : WatchState)
    (P : Result Bundle GatherFault → Type 0) : Type 0 where
  pub gives : Result Bundle GatherFault
  pub tells : TellsGathering source before after gives
  pub is : P gives

-- what the first bundle serves by, and the marks that its reading adds to the watch's journal
pub record ReadsPlans (source : Source) (footing : Footing) (old new : WatchState)
    (plans : PlansData) : Type 0 where
  pub tells : TellsGathering source old new (Ok plans.bundle)
  pub ground_is : ground_of plans ≡ footing.basis
  pub are : ArePlans footing.taken footing.said plans

-- what reading the first bundle answers
abbrev pub ReadsFirst : Source → Footing → WatchState → WatchState → Result PlansData ReadFault
    → Type 0
ReadsFirst source footing old new (Ok plans) = ReadsPlans source footing old new plans
ReadsFirst source footing old new (Err (fault.Refused why)) =
    GathersThat source old new
    (λ gives. Refuses (terms_of footing) gives why)
ReadsFirst source footing old new (Err (fault.ReadFailed name)) =
    TellsGathering source old new (Err (unread.ReadFailed name))
    × Rose old.counts.reads new.counts.reads
ReadsFirst source footing old new (Err fault.NoMemory) =
    GathersThat source old new (λ gives. Unit {0})
