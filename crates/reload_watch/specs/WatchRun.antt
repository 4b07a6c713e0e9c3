-- All looks of a watcher: the turns of its watch, and what serves and is counted behind them. This
-- server's own rule.
use Rattle.std.specs.Prelude.{◌≡◌, List, [], ◌∷◌, ◌++◌, length}
use Rattle.std.specs.List.{flat_map}
use Rattle.outside.specs.declared.mark.WatchMark.{WatchMark}
use Rattle.outside.specs.Causes.{RoseJust}
use Rattle.outside.specs.WatchMarks.{AddsWatch}
use Rattle.corefile_blocks.specs.declared.bundle.Bundle.{Bundle}
use Rattle.corefile_bundle.specs.Gathering.{Source}
use Rattle.chain_build.specs.{ground_of, terms_in}
use Rattle.chain_build.specs.declared.chain.Chain.{Chain}
use Rattle.plugin_api.specs.declared.extra.Extra as extra
use Rattle.plugin_api.specs.declared.rulebook.Rulebook as rulebook
use Rattle.run_meaning.specs.declared.watch_end.WatchEnd.{WatchEnd}
use Rattle.reload_watch.specs.Filled.{AreFilledBy}
use Rattle.reload_watch.specs.Going.{RoseWithin}
use Rattle.reload_watch.specs.Standing.{SawOpen}
use Rattle.run_meaning.specs.Stocked.{AreStocked, Lending}
use Rattle.reload_watch.specs.States.{WatcherState}
use Rattle.reload_watch.specs.WatchTurn.{all_refused}
use Rattle.run_meaning.specs.WatchTurn.{WatchTurn, watch_marks, bundles_of}
use Rattle.reload_watch.specs.WatchTurn.{AreSwept}
use Rattle.run_meaning.specs.WatchTurn.{all_starved, AreLooks}
use Rattle.run_meaning.specs.WatchRun.{EndsWatch, end_marks}

module _ {B E : Type 0} {b : rulebook.Ghosts B} {e : extra.Ghosts E} where
  -- what a watcher has for the chains of its looks
  abbrev pub lending_of : WatcherState (Chain B E b e) → Lending
  lending_of state = record {
    terms = terms_in b.taken b.said state.serving.plans;
    workers = state.workers;
    all = state.extras;
  }

  -- looks until there are no more, behind the one generation that was published: what the watch
  -- told, the sweeps of each look that found no free slot, what those found that came to the stock,
  -- and which bundles the published chains serve. The watch's refusals rose by the looks that noted
  -- the refusal of a pattern at least, and at most by those that met want of memory too.
  pub record Watches (source : Source) (before after : WatcherState (Chain B E b e))
      (result : WatchEnd)
      : Type 0 where
    pub looks : List WatchTurn
    pub bundles : List Bundle
    pub bundles_are : bundles ≡ bundles_of before.serving.plans.bundle looks
    pub ending : List WatchMark
    pub ending_is : ending ≡ end_marks result
    pub told : AddsWatch before.watch after.watch (flat_map watch_marks looks ++ ending)
    pub are : AreLooks source (terms_in b.taken b.said before.serving.plans)
        (before.serving.plans.bundle ∷ []) looks
    pub stocked : AreStocked (lending_of before) (SawOpen after.sweeps)
        (before.serving.plans.bundle ∷ []) looks
    pub swept : AreSwept after.sweeps (before.serving.plans.bundle ∷ []) looks
    pub ends : EndsWatch (terms_in b.taken b.said before.serving.plans) bundles ending
    pub filled : AreFilledBy bundles (ground_of before.serving.plans) after.serving.filled
    pub count : length bundles ≡ after.serving.published
    pub starved : RoseJust (all_starved looks) before.starved after.starved
    pub refused : RoseWithin (all_refused looks) (all_starved looks) before.watch.refusals
        after.watch.refusals
