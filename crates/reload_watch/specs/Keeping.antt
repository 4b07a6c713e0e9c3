-- What a watcher has between its looks. This server's own rule.
use Rattle.std.specs.Prelude.{◌≡◌, ◌≤◌, ◌<◌, ◌*◌, [], length, map}
use Rattle.std.specs.Arc.{arc_value}
use Rattle.std.specs.Vec.{vec_len, vec_capacity}
use Rattle.pin_core.specs.declared.slots.TheConstants.{MOST_SERIALS, WORKERS}
use Rattle.pin_table.specs.declared.table.PinTable.{PinTable}
use Rattle.pin_table.specs.{AreFilled, IsPublisherOf, IsStanding, count_of, plan_of}
use Rattle.chain_build.specs.declared.chain.Chain.{Chain}
use Rattle.plugin_api.specs.declared.extra.Extra as extra
use Rattle.plugin_api.specs.declared.rulebook.Rulebook as rulebook
use Rattle.chain_build.specs.{ArePlans, chain_identity, chain_log}
use Rattle.chain_build.specs.Naming.{PlansServed}
use Rattle.chain_build.specs.Workers.{chain_lents}
use Rattle.all_home.specs.AllHome.{AreAccounted}
use Rattle.lent_caches.specs.Held.{caches_data}
use Rattle.corefile_bundle.specs.{IsGathered}
use Rattle.plugin_api.specs.{Obey}
use Rattle.reload_watch.specs.declared.watcher.Watcher.{Watcher}
use Rattle.reload_watch.specs.Filled.{EndsWith}
use Rattle.reload_watch.specs.Homes.{KeepsCaches}
use Rattle.reload_watch.specs.Named.{AreNamed}
use Rattle.reload_watch.specs.Placing.{IsPlaced}
use Rattle.reload_watch.specs.Stocked.{HasPlaces}

module _ {B E : Type 0} {b : rulebook.Ghosts B} {e : extra.Ghosts E} where
  -- no chain waits for its extras to be brought home, and there is room for the chains of four
  -- generations
  pub record IsCleared {W : Type 0} (watcher : Watcher W B E b e) : Type 0 where
    pub none : watcher.home.items ≡ []
    pub empty : vec_len watcher.home ≡ 0
    pub room : 4 * watcher.workers ≤ vec_capacity watcher.home

  -- the table's publisher, for so many workers, of whom no pass came back; and what serves is what
  -- was published last
  pub record IsKeeping {W N K : Type 0} (table : PinTable (Chain B E b e) N K)
      (watcher : Watcher W B E b e) : Type 0 where
    pub own : IsPublisherOf table watcher.publisher
    pub filled : AreFilled chain_identity chain_log 0 (plan_of watcher.publisher).past.filled
    pub workers : (plan_of watcher.publisher).workers ≡ watcher.workers
    pub some : 0 < watcher.workers
    pub few : watcher.workers ≤ WORKERS
    pub joined : (plan_of watcher.publisher).joined ≡ []
    pub count : length (plan_of watcher.publisher).past.filled
        ≡ count_of (plan_of watcher.publisher)
    pub placed : IsPlaced (plan_of watcher.publisher)
    pub within : count_of (plan_of watcher.publisher) ≤ MOST_SERIALS
    pub current : EndsWith (plan_of watcher.publisher).past.filled (arc_value watcher.current)
    pub are : ArePlans b.taken b.said (arc_value watcher.current)
    pub gathered : IsGathered (arc_value watcher.current).bundle
    pub names : (arc_value watcher.current).names ≡ map e.title watcher.stock.judges.items
    pub judges : Obey b.taken b.said e.title e.takes e.ruling watcher.stock.judges.items
    pub spare : Obey b.taken b.said e.title e.takes e.ruling watcher.stock.spare.items
    pub stands : IsStanding chain_identity (plan_of watcher.publisher)
    pub places : HasPlaces (vec_len watcher.stock.spare) (vec_capacity watcher.stock.spare)
        (plan_of watcher.publisher)
    pub home : IsCleared watcher
    -- the caches that are held, by what was published and what came home, and those that serve
    pub caches : KeepsCaches chain_identity chain_lents (plan_of watcher.publisher)
        (caches_data watcher.caches)
    pub served : PlansServed (arc_value watcher.current) (caches_data watcher.caches)
    pub named : AreNamed (plan_of watcher.publisher).past.filled
    pub accounted : AreAccounted (plan_of watcher.publisher)
