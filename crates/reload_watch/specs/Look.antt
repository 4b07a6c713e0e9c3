-- One look for a changed configuration: what it finds, and what serves behind it. This server's own
-- rule.
use Rattle.std.specs.Prelude.{◌≡◌, ◌≢◌, ◌<◌, ◌⊎◌, ℕ, ◌+◌, Bool, true, false}
use Rattle.std.specs.Prelude.{List, [], ◌∷◌, ◌++◌, Result, Ok, Err}
use Rattle.std.specs.List.{All}
use Rattle.pin_core.specs.declared.slots.TheConstants as pins
use Rattle.pin_table.specs.declared.free_slots.FreeSlot.{FreeSlot}
use Rattle.pin_table.specs.declared.free_slots.FreeSlot.TheVariants as found
use Rattle.pin_table.specs.declared.free_slots.Left.{Left}
use Rattle.pin_table.specs.declared.views.Plan.{Plan}
use Rattle.pin_table.specs.{IsFreed, IsPinnedSlot}
use Rattle.outside.specs.declared.mark.WatchMark.TheVariants.{Published}
use Rattle.outside.specs.Causes.{raised}
use Rattle.outside.specs.States.{WatchState}
use Rattle.outside.specs.WatchMarks.{AddsWatch}
use Rattle.corefile_blocks.specs.declared.bundle.Bundle.{Bundle}
use Rattle.corefile_bundle.specs.declared.fault.GatherFault.{GatherFault}
use Rattle.corefile_bundle.specs.Gathering.{GathersFrom, OneRead}
use Rattle.chain_build.specs.declared.chain.Chain.{Chain}
use Rattle.plugin_api.specs.declared.extra.Extra as extra
use Rattle.plugin_api.specs.declared.rulebook.Rulebook as rulebook
use Rattle.chain_build.specs.{ArePlans, PlansData, chain_extras, ground_of, plans_of, terms_in}
use Rattle.extra_stock.specs.{in_chains}
use Rattle.plugin_api.specs.{Sayings, Takings}
use Rattle.reload_watch.specs.declared.found.Found.{Found}
use Rattle.reload_watch.specs.declared.found.Found.TheVariants.{Kept, Next}
use Rattle.run_meaning.specs.declared.looking.Looking.{Looking}
use Rattle.run_meaning.specs.declared.looking.Looking.TheVariants as looking
use Rattle.run_meaning.specs.Messages.{look_text}
use Rattle.reload_watch.specs.Opening.{GathersThat}
use Rattle.reload_watch.specs.Publishing.{AddsGeneration}
use Rattle.run_meaning.specs.Reloads.{reloads}
use Rattle.reload_watch.specs.Shortage.{Around, TellsStock}
use Rattle.reload_watch.specs.States.{Serving}
use Rattle.reload_watch.specs.Stocked.{out_weighs}
use Rattle.run_meaning.specs.Answers.{AnswersLook, SamePorts, Standing, look_marks, note_marks}

abbrev pub standing_of : Takings → Sayings → PlansData → ℕ → Standing
standing_of taken said plans published = record {
  terms = terms_in taken said plans;
  bundle = plans.bundle;
  blocks = plans.blocks;
  published = published;
}

-- the line of an answer was noted
pub record IsNoted (before after : WatchState) (answer : Looking) : Type 0 where
  pub flag : Bool
  pub told : AddsWatch before after (note_marks (look_text answer) flag)

-- a line was noted, unless it is empty
pub record NotesLine (before after : WatchState) (line : List ℕ) : Type 0 where
  pub flag : Bool
  pub told : AddsWatch before after (note_marks line flag)

-- the line of an answer is noted; without memory for it the answer is want of memory
pub record NotesLook (before after : WatchState) (answer result : Looking) : Type 0 where
  pub either : ((result ≡ answer) × IsNoted before after answer)
      ⊎ ((result ≡ looking.NoMemory) × AddsWatch before after [])

-- what a gathering comes to before anything is published: an answer, or what is to serve next. No
-- answer here depends on how many generations were published, which is 0 for all of them.
abbrev pub AnswersKept : Takings → Sayings → PlansData → Result Bundle GatherFault → Looking
    → Type 0
AnswersKept taken said plans gives looking.NoReload = ⊥
AnswersKept taken said plans gives (looking.ReadFailed name) =
    AnswersLook (standing_of taken said plans 0) gives (looking.ReadFailed name)
AnswersKept taken said plans gives looking.Same = AnswersLook
    (standing_of taken said plans 0) gives looking.Same
AnswersKept taken said plans gives (looking.Refused why) =
    AnswersLook (standing_of taken said plans 0) gives (looking.Refused why)
AnswersKept taken said plans gives (looking.PortsDiffer kept read) =
    AnswersLook (standing_of taken said plans 0) gives (looking.PortsDiffer kept read)
AnswersKept taken said plans gives looking.SerialsSpent = ⊥
AnswersKept taken said plans gives (looking.AllPinned first second third) = ⊥
AnswersKept taken said plans gives (looking.StockShort name asked had) = ⊥
AnswersKept taken said plans gives (looking.Published serial) = ⊥
AnswersKept taken said plans gives looking.NoMemory = Unit {0}

-- the plans were made of the bundle that was read, which isn't what serves, and have the same ports
pub record IsNext (taken : Takings) (said : Sayings) (current : PlansData)
    (gives : Result Bundle GatherFault) (plans : PlansData) : Type 0 where
  pub got : gives ≡ Ok plans.bundle
  pub differs : plans.bundle ≢ current.bundle
  pub basis : ground_of plans ≡ ground_of current
  pub are : ArePlans taken said plans
  pub ports : SamePorts plans.blocks current.blocks

-- what a gathering comes to, beside what serves
abbrev pub Finds : {B : Type 0} → Takings → Sayings → PlansData → Result Bundle GatherFault
    → Found B → Type 0
Finds taken said current gives (Kept answer) = AnswersKept taken said current gives answer
Finds taken said current gives (Next plans) = IsNext taken said current gives plans

-- a search for a free slot came to this, whatever came home
abbrev pub Frees : {C : Type 0} → Plan C → FreeSlot → Plan C → Type 0
Frees {C} before answer after = (home : List C) × IsFreed before [] answer home after

module _ {B E : Type 0} {b : rulebook.Ghosts B} {e : extra.Ghosts E} where
  -- a search found this slot, and these chains were published behind it
  pub record FreesNext (before after : Plan (Chain B E b e)) : Type 0 where
    pub slot : ℕ
    pub mid : Plan (Chain B E b e)
    pub frees : Frees before (found.Free slot) mid
    pub chains : List (Chain B E b e)
    pub adds : AddsGeneration mid chains after
    pub weighs : (w : List ℕ → ℕ) → out_weighs w after
        ≡ out_weighs w mid + in_chains chain_extras w chains

  -- the slots are as they were, but for what one search for a free slot brought home, if there was
  -- one
  abbrev pub SweptOnly : Plan (Chain B E b e) → Plan (Chain B E b e) → Type 0
  SweptOnly before after = (after ≡ before) ⊎ ((found : FreeSlot) × Frees before found after)

  -- where no slot was free, that is what a search for one came to in this call. Where a slot was,
  -- and the stock was looked at, each other slot but the current one was swept before that. Want of
  -- memory left the slots as a search left them, and any other answer left them as they were.
  abbrev pub Searches : Plan (Chain B E b e) → Plan (Chain B E b e) → Looking → Type 0
  Searches before after (looking.AllPinned first second third) =
      Frees before (found.AllPinned first second third) after
  Searches before after (looking.StockShort name asked had) =
      (slot : ℕ) × Frees before (found.Free slot) after
  Searches before after (looking.Published serial) = FreesNext before after
  Searches before after looking.NoMemory = SweptOnly before after
  Searches before after answer = after ≡ before

  -- a look first sweeps each slot but the current one, whatever that finds, and goes on from there
  pub record SearchesFirst (before after : Plan (Chain B E b e)) (answer : Looking) : Type 0 where
    pub mid : Plan (Chain B E b e)
    pub swept : FreeSlot
    pub frees : Frees before swept mid
    pub searches : Searches mid after answer

  -- what a look that found a free slot leaves of what stands in the table, by its answer
  abbrev pub LeavesSlot : Plan (Chain B E b e) → Plan (Chain B E b e) → Looking → Type 0
  LeavesSlot before after (looking.StockShort name asked had) = after ≡ before
  LeavesSlot before after (looking.Published serial) =
      (chains : List (Chain B E b e)) × AddsGeneration before chains after
      × ((w : List ℕ → ℕ)
      → out_weighs w after ≡ out_weighs w before + in_chains chain_extras w chains)
  LeavesSlot before after looking.NoMemory = after ≡ before
  LeavesSlot before after answer = ⊥

-- how the count of looks that met want of memory goes on
abbrev pub starved_by : Looking → ℕ → ℕ
starved_by looking.NoMemory starved = raised starved
starved_by answer starved = starved

module _ {B E : Type 0} {b : rulebook.Ghosts B} {e : extra.Ghosts E} where
  -- a further generation serves: the bundle that was read, by a chain for each worker
  pub record Replaces (old new : Serving (Chain B E b e)) (bundle : Bundle) : Type 0 where
    pub published : new.published ≡ old.published + 1
    pub chains : List (Chain B E b e)
    pub filled : new.filled ≡ old.filled ++ chains ∷ []
    pub serve : All (λ chain. plans_of chain ≡ new.plans) chains
    pub bundle_is : new.plans.bundle ≡ bundle
    pub basis : ground_of new.plans ≡ ground_of old.plans
    pub are : ArePlans b.taken b.said new.plans

  -- what serves behind a gathering that is published
  abbrev pub ServesGathered : Serving (Chain B E b e) → Serving (Chain B E b e)
      → Result Bundle GatherFault → Type 0
  ServesGathered old new (Ok bundle) = Replaces old new bundle
  ServesGathered old new (Err fault) = ⊥

  -- what serves behind a look
  abbrev pub ServesBehind : Serving (Chain B E b e) → Serving (Chain B E b e)
      → Result Bundle GatherFault → Looking
      → Type 0
  ServesBehind old new gives (looking.Published serial) = ServesGathered old new gives
  ServesBehind old new gives other = new ≡ old

  -- a look by its answer, over what serves
  pub record LooksOver (around : Around) (old new : Serving (Chain B E b e))
      (before after : WatchState)
      (answer : Looking) : Type 0 where
    pub reads : List OneRead
    pub gives : Result Bundle GatherFault
    pub gathers : GathersFrom around.source reads gives
    pub flag : Bool
    pub told : AddsWatch before after (look_marks reads answer flag)
    pub answers : AnswersLook (standing_of b.taken b.said old.plans old.published) gives answer
    pub behind : ServesBehind old new gives answer
    pub stock : TellsStock (terms_in b.taken b.said old.plans) around gives answer
    pub again : reloads old.plans.blocks ≡ true

  -- a look that met want of memory
  pub record Starves (around : Around) (old new : Serving (Chain B E b e))
      (before after : WatchState)
      : Type 0 where
    pub gathered : GathersThat around.source before after (λ gives. Unit {0})
    pub same : new ≡ old
    pub again : reloads old.plans.blocks ≡ true

  -- the plans serve from now on under this serial, and that was noted
  pub record IsPublishedNext (old new : Serving (Chain B E b e)) (before after : WatchState)
      (plans : PlansData)
      (serial : ℕ) : Type 0 where
    pub few : old.published < pins.MOST_SERIALS
    pub serial_is : serial ≡ old.published
    pub replaces : Replaces old new plans.bundle
    pub flag : Bool
    pub told : AddsWatch before after (Published serial
        ∷ note_marks (look_text (looking.Published serial)) flag)

  -- no slot was free, and that was noted
  pub record IsPinnedNext (old : Serving (Chain B E b e)) (before after : WatchState)
      (first second third : Left)
      : Type 0 where
    pub few : old.published < pins.MOST_SERIALS
    pub one : IsPinnedSlot first
    pub two : IsPinnedSlot second
    pub three : IsPinnedSlot third
    pub noted : IsNoted before after (looking.AllPinned first second third)

  -- the next generation would serve in a free slot, but asks for more extras of a name than there
  -- are, and that was noted
  pub record IsShortNext (old : Serving (Chain B E b e)) (before after : WatchState)
      (answer : Looking)
      (asked had : ℕ) : Type 0 where
    pub few : old.published < pins.MOST_SERIALS
    pub short : had < asked
    pub noted : IsNoted before after answer

  abbrev pub PublishesNext : Serving (Chain B E b e) → Serving (Chain B E b e) → WatchState
      → WatchState → PlansData → Looking
      → Type 0
  PublishesNext old new before after plans looking.NoReload = ⊥
  PublishesNext old new before after plans (looking.ReadFailed name) = ⊥
  PublishesNext old new before after plans looking.Same = ⊥
  PublishesNext old new before after plans (looking.Refused why) = ⊥
  PublishesNext old new before after plans (looking.PortsDiffer kept read) = ⊥
  PublishesNext old new before after plans looking.SerialsSpent =
      (old.published ≡ pins.MOST_SERIALS) × (new ≡ old) × IsNoted before after looking.SerialsSpent
  PublishesNext old new before after plans (looking.AllPinned first second third) =
      (new ≡ old) × IsPinnedNext old before after first second third
  PublishesNext old new before after plans (looking.StockShort name asked had) =
      (new ≡ old) × IsShortNext old before after (looking.StockShort name asked had) asked had
  PublishesNext old new before after plans (looking.Published serial) =
      IsPublishedNext old new before after plans serial
  PublishesNext old new before after plans looking.NoMemory = (new ≡ old)
      × AddsWatch before after []

  -- no look is made
  pub record LooksNoMore (old new : Serving (Chain B E b e))
      (before after : WatchState) : Type 0 where
    pub told : AddsWatch before after []
    pub same : new ≡ old
    pub no_reload : reloads old.plans.blocks ≡ false

  -- what a look answers and leaves
  abbrev pub LooksOnce : Around → Serving (Chain B E b e) → Serving (Chain B E b e) → WatchState
      → WatchState
      → Looking → Type 0
  LooksOnce around old new before after looking.NoReload = LooksNoMore old new before after
  LooksOnce around old new before after (looking.ReadFailed name) =
      LooksOver around old new before after (looking.ReadFailed name)
  LooksOnce around old new before after looking.Same =
      LooksOver around old new before after looking.Same
  LooksOnce around old new before after (looking.Refused why) =
      LooksOver around old new before after (looking.Refused why)
  LooksOnce around old new before after (looking.PortsDiffer kept read) =
      LooksOver around old new before after (looking.PortsDiffer kept read)
  LooksOnce around old new before after looking.SerialsSpent =
      LooksOver around old new before after looking.SerialsSpent
  LooksOnce around old new before after (looking.AllPinned first second third) =
      LooksOver around old new before after (looking.AllPinned first second third)
  LooksOnce around old new before after (looking.StockShort name asked had) =
      LooksOver around old new before after (looking.StockShort name asked had)
  LooksOnce around old new before after (looking.Published serial) =
      LooksOver around old new before after (looking.Published serial)
  LooksOnce around old new before after looking.NoMemory = Starves around old new before after
