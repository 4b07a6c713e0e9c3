-- One step of the watcher: it waits for a look and makes it, or says why there is none. This
-- server's own rule.
use Rattle.std.specs.Prelude.{◌≡◌, ◌≢◌, ℕ, true, false, List, [], ◌∷◌, Option, Some, None, length}
use Rattle.std.specs.List.{All}
use Rattle.outside.specs.declared.mark.WatchMark.TheVariants.{Look, End}
use Rattle.outside.specs.States.{WatchState}
use Rattle.outside.specs.WatchMarks.{AddsWatch}
use Rattle.corefile_bundle.specs.Gathering.{Source}
use Rattle.run_meaning.specs.declared.looking.Looking.{Looking}
use Rattle.run_meaning.specs.declared.looking.Looking.TheVariants as looking
use Rattle.run_meaning.specs.declared.watch_end.WatchEnd.{WatchEnd}
use Rattle.run_meaning.specs.declared.watch_end.WatchEnd.TheVariants as ends
use Rattle.reload_watch.specs.Counted.{CountsFor}
use Rattle.reload_watch.specs.Look.{LooksOnce, starved_by}
use Rattle.reload_watch.specs.Going.{CountsRefusals}
use Rattle.run_meaning.specs.Reloads.{reloads, times_of}
use Rattle.reload_watch.specs.States.{WatcherState}
use Rattle.chain_build.specs.declared.chain.Chain.{Chain}
use Rattle.plugin_api.specs.declared.extra.Extra as extra
use Rattle.plugin_api.specs.declared.rulebook.Rulebook as rulebook
use Rattle.reload_watch.specs.Sweeps.{KeepsSweeps, SweptFor}

module _ {B E : Type 0} {b : rulebook.Ghosts B} {e : extra.Ghosts E} where
  -- a look was made, with the sweeps by which it found no free slot or came to the stock, and
  -- counted where it met want of memory
  pub record LooksAgain (source : Source)
      (before after : WatcherState (Chain B E b e)) : Type 0 where
    pub waited : WatchState
    pub looked : AddsWatch before.watch waited (Look (times_of before.serving.plans.blocks).interval
        (times_of before.serving.plans.blocks).jitter ∷ [])
    pub answer : Looking
    pub found : List ℕ → ℕ
    pub looks : LooksOnce (record {
      source = source;
      workers = before.workers;
      found = found;
    }) before.serving after.serving waited after.watch answer
    pub made : answer ≢ looking.NoReload
    pub starved_is : after.starved ≡ starved_by answer before.starved
    pub refused : CountsRefusals answer before.watch.refusals after.watch.refusals
    pub swept : SweptFor after.sweeps before.serving.published answer
    pub sweeps : KeepsSweeps before.sweeps after.sweeps
    pub counts : CountsFor after.sweeps before.serving before.extras found answer
    pub workers : after.workers ≡ before.workers
    pub extras : (name : List ℕ) → after.extras name ≡ before.extras name
    pub full : All (λ chains. length chains ≡ after.workers) after.serving.filled

  -- no look was made: what serves, what was swept and what was counted and refused stay
  pub record MakesNoLook (before after : WatcherState (Chain B E b e)) : Type 0 where
    pub serving : after.serving ≡ before.serving
    pub sweeps : after.sweeps ≡ before.sweeps
    pub starved : after.starved ≡ before.starved
    pub refused : after.watch.refusals ≡ before.watch.refusals

  -- the watch has ended
  pub record WatchEnds (before after : WatcherState (Chain B E b e)) : Type 0 where
    pub told : AddsWatch before.watch after.watch (End ∷ [])
    pub again : reloads before.serving.plans.blocks ≡ true
    pub stays : MakesNoLook before after

  -- what serves is not to be looked at again
  pub record ReloadsNoMore (before after : WatcherState (Chain B E b e)) : Type 0 where
    pub told : AddsWatch before.watch after.watch []
    pub no_reload : reloads before.serving.plans.blocks ≡ false
    pub stays : MakesNoLook before after

  abbrev pub TakesLook : Source → WatcherState (Chain B E b e) → WatcherState (Chain B E b e)
      → Option WatchEnd → Type 0
  TakesLook source before after None = LooksAgain source before after
  TakesLook source before after (Some ends.End) = WatchEnds before after
  TakesLook source before after (Some ends.NoReload) = ReloadsNoMore before after
