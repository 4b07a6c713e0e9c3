-- What a watcher is at a moment, and what configurations are read from. Relations speak of these
-- records, before and after.
use Rattle.std.specs.Prelude.{ℕ, List}
use Rattle.std.specs.Arc.{arc_value}
use Rattle.outside.specs.States.{WatchState}
use Rattle.corefile_bundle.specs.Gathering.{Source}
use Rattle.chain_build.specs.declared.chain.Chain.{Chain}
use Rattle.plugin_api.specs.declared.extra.Extra as extra
use Rattle.plugin_api.specs.declared.rulebook.Rulebook as rulebook
use Rattle.chain_build.specs.{PlansData}
use Rattle.chain_meaning.specs.{Ground, Terms, terms_on}
use Rattle.plugin_api.specs.{Sayings, Takings}
use Rattle.pin_table.specs.declared.views.Sweep.{Sweep}
use Rattle.pin_table.specs.{count_of, plan_of}
use Rattle.reload_watch.specs.declared.source.Source as declared
use Rattle.reload_watch.specs.declared.watcher.Watcher.{Watcher}
use Rattle.extra_stock.specs.{is_named}
use Rattle.reload_watch.specs.Stocked.{all_weigh}

-- what a program brings, as far as reading depends on it: what its rulebook says, and the ground of
-- its runs
pub record Footing : Type 0 where
  pub taken : Takings
  pub said : Sayings
  pub basis : Ground

abbrev pub footing_on : Takings → Sayings → Ground → Footing
footing_on taken said basis = record { taken = taken; said = said; basis = basis }

abbrev pub terms_of : Footing → Terms
terms_of footing = terms_on footing.taken footing.said footing.basis

-- what a configuration is read from
abbrev pub source_data : declared.Source → Source
source_data source = record { conf = source.conf.now; env = source.env.now }

-- how many generations were published, the chains of each by worker, and what the last serves by
pub record Serving (C : Type 0) : Type 0 where
  pub published : ℕ
  pub filled : List (List C)
  pub plans : PlansData

-- what a watcher has published
abbrev pub serving_of : {W B E : Type 0} {b : rulebook.Ghosts B} {e : extra.Ghosts E}
    → Watcher W B E b e → Serving (Chain B E b e)
serving_of watcher = record {
  published = count_of (plan_of watcher.publisher);
  filled = (plan_of watcher.publisher).past.filled;
  plans = arc_value watcher.current;
}

-- a watcher: its watch, what it has published, the sweeps of its table's slots, the last one first,
-- how many looks met want of memory, how many workers there are, and how many extras of each name,
-- spare and in chains
pub record WatcherState (C : Type 0) : Type 0 where
  pub watch : WatchState
  pub serving : Serving C
  pub sweeps : List Sweep
  pub starved : ℕ
  pub workers : ℕ
  pub extras : List ℕ → ℕ

abbrev pub watcher_state : {W B E : Type 0} {b : rulebook.Ghosts B} {e : extra.Ghosts E}
    → (W → WatchState) → Watcher W B E b e → WatcherState (Chain B E b e)
watcher_state state watcher = record {
  watch = state watcher.watch;
  serving = serving_of watcher;
  sweeps = (plan_of watcher.publisher).sweeps;
  starved = watcher.starved;
  workers = watcher.workers;
  extras = λ name. all_weigh (is_named name) watcher;
}
