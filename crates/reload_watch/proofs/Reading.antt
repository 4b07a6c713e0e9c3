-- What a gathering that gave no bundle comes to.
use Rattle.std.proofs.Common.{◌≡◌, ℕ, List, Result, Err, refl}
use Rattle.outside.specs.Causes.{Rose}
use Rattle.outside.specs.States.{WatchState}
use Rattle.corefile_blocks.specs.declared.bundle.Bundle.{Bundle}
use Rattle.corefile_bundle.specs.declared.fault.GatherFault.{GatherFault}
use Rattle.corefile_bundle.specs.declared.fault.GatherFault.TheVariants as unread
use Rattle.corefile_bundle.specs.Gathering.{Source, TellsGathering}
use Rattle.chain_build.specs.{PlansData}
use Rattle.plugin_api.specs.{Sayings, Takings}
use Rattle.reload_watch.specs.Faults.{answer_to, read_fault}
use Rattle.reload_watch.specs.Going.{kept_behind, refusals_first}
use Rattle.reload_watch.specs.Look.{AnswersKept}
use Rattle.reload_watch.specs.Opening.{ReadsFirst}
use Rattle.reload_watch.specs.States.{Footing}

-- of the first reading
pub first_fails : (source : Source) (footing : Footing) (old new : WatchState) (f : GatherFault) → TellsGathering source old new (Err f)
    → ((name : List ℕ) → ◌≡◌ {A = Result Bundle GatherFault} (Err f) (Err (unread.ReadFailed name)) → Rose old.counts.reads new.counts.reads)
    → ReadsFirst source footing old new (Err (read_fault f))
first_fails source footing old new unread.NoCorefile tells rose = record { gives = Err unread.NoCorefile; tells = tells; is = refl }
first_fails source footing old new (unread.ReadFailed name) tells rose = (tells, rose name refl)
first_fails source footing old new (unread.TooMany what number) tells rose = record { gives = Err (unread.TooMany what number); tells = tells; is = refl }
first_fails source footing old new unread.NoMemory tells rose = record { gives = Err unread.NoMemory; tells = tells; is = tt }

-- it refused no pattern
pub first_refuses : (f : GatherFault) (n : ℕ) → refusals_first {X = PlansData} (Err (read_fault f)) n ≡ n
first_refuses unread.NoCorefile n = refl
first_refuses (unread.ReadFailed name) n = refl
first_refuses (unread.TooMany what number) n = refl
first_refuses unread.NoMemory n = refl

-- of a look
pub look_fails : (taken : Takings) (said : Sayings) (current : PlansData) (f : GatherFault) → AnswersKept taken said current (Err f) (answer_to (read_fault f))
look_fails taken said current unread.NoCorefile = (refl, λ e. absurd cc)
look_fails taken said current (unread.ReadFailed name) = refl
look_fails taken said current (unread.TooMany what number) = (refl, λ e. absurd cc)
look_fails taken said current unread.NoMemory = tt

pub look_refuses : (f : GatherFault) (state : WatchState) → state ≡ kept_behind (answer_to (read_fault f)) state
look_refuses unread.NoCorefile state = refl
look_refuses (unread.ReadFailed name) state = refl
look_refuses (unread.TooMany what number) state = refl
look_refuses unread.NoMemory state = refl
