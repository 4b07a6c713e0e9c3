-- A watcher before and behind one look. This server's own rule.
use Rattle.std.specs.Prelude.{◌≡◌, ◌≢◌, ℕ, List}
use Rattle.outside.specs.Causes.{Rose}
use Rattle.outside.specs.States.{WatchState}
use Rattle.corefile_bundle.specs.Gathering.{Source}
use Rattle.pin_table.specs.{SamePublisher, plan_of}
use Rattle.run_meaning.specs.declared.looking.Looking.{Looking}
use Rattle.run_meaning.specs.declared.looking.Looking.TheVariants as looking
use Rattle.reload_watch.specs.declared.watcher.Watcher.{Watcher}
use Rattle.plugin_api.specs.declared.extra.Extra as extra
use Rattle.plugin_api.specs.declared.rulebook.Rulebook as rulebook
use Rattle.reload_watch.specs.Going.{CountsRefusals, WatchGoesOn}
use Rattle.reload_watch.specs.Look.{LooksOnce, Searches, SearchesFirst}
use Rattle.reload_watch.specs.Shortage.{around_of}
use Rattle.reload_watch.specs.States.{serving_of}
use Rattle.reload_watch.specs.Stocked.{KeepsStock}
use Rattle.reload_watch.specs.Sweeps.{KeepsSweeps}

module _ {W B E : Type 0} {b : rulebook.Ghosts B} {e : extra.Ghosts E} where
  -- a look with this answer: what it leaves, how it came to a slot, and how its watch goes on. Of
  -- how often a look met want of memory it says nothing.
  pub record Looks (state : W → WatchState) (source : Source) (Slots : Type 0)
      (old new : Watcher W B E b e) (answer : Looking) : Type 0 where
    pub own : SamePublisher old.publisher new.publisher
    pub workers : new.workers ≡ old.workers
    pub looks : LooksOnce (around_of source old new) (serving_of old) (serving_of new)
        (state old.watch) (state new.watch) answer
    pub searches : Slots
    pub extras : KeepsStock old new
    pub sweeps : KeepsSweeps (plan_of old.publisher).sweeps (plan_of new.publisher).sweeps
    pub goes : WatchGoesOn (state old.watch) (state new.watch)
    pub refusals : CountsRefusals answer (state old.watch).refusals (state new.watch).refusals
    pub read : (name : List ℕ) → answer ≡ looking.ReadFailed name
        → Rose (state old.watch).counts.reads (state new.watch).counts.reads

  -- the same of what follows the first sweep of a look
  abbrev pub LooksOn : (W → WatchState) → Source → Watcher W B E b e → Watcher W B E b e → Looking
      → Type 0
  LooksOn state source old new answer =
      Looks state source (Searches (plan_of old.publisher) (plan_of new.publisher) answer) old new
      answer

  -- the same of a whole look, which sweeps first unless what serves has no `reload`
  abbrev pub HasLooked : (W → WatchState) → Source → Watcher W B E b e → Watcher W B E b e → Looking
      → Type 0
  HasLooked state source old new answer = Looks state source
      (answer ≢ looking.NoReload
      → SearchesFirst (plan_of old.publisher) (plan_of new.publisher) answer) old new answer
