-- The one history of each cache over a run, of the calls of all sides. This server's own rule.
use Rattle.std.specs.Prelude.{◌≡◌, ℕ, ◌+◌, List, [], ◌∷◌, ◌++◌, map, length, slice_get}
use Rattle.std.specs.Prelude.{Option, Some, None}
use Rattle.std.specs.List.{sum_by}
use Rattle.all_home.specs.AllHome.{AllHome}
use Rattle.block_readings.specs.Readings.{BlockReading, block_reading}
use Rattle.cache_shards.specs.Answers.{IsLegal}
use Rattle.cache_shards.specs.Planned.{planned_capacities}
use Rattle.chain_build.specs.declared.chain.Chain.{Chain}
use Rattle.chain_build.specs.History.{has_cache}
use Rattle.chain_build.specs.{PlansData, chain_identity, chain_log, chain_places}
use Rattle.chain_build.specs.Workers.{chains_lents}
use Rattle.chain_meaning.specs.{Terms}
use Rattle.chain_meaning.specs.Accepting.{IsAccepted}
use Rattle.corefile_blocks.specs.declared.bundle.Bundle.{Bundle}
use Rattle.dns_data.specs.declared.block.Block.{Block}
use Rattle.lent_caches.specs.Held.{AreWhole, caches_data, given_all}
use Rattle.lent_caches.specs.Judging.{plan_read}
use Rattle.one_history.specs.Calls.{Call}
use Rattle.one_history.specs.Logs.{Place}
use Rattle.one_history.specs.Runs.{OneHistory}
use Rattle.outside.specs.declared.mark.Mark.{Mark}
use Rattle.pin_table.specs.declared.passes.Pass.{Pass}
use Rattle.pin_table.specs.declared.table.PinTable.{PinTable}
use Rattle.pin_table.specs.Closing.{IsClosed, IsTraced, chains_left, joined_plan}
use Rattle.pin_table.specs.{IsOfIdentity, plan_of, standing}
use Rattle.plugin_api.specs.{PlanData}
use Rattle.plugin_api.specs.declared.extra.Extra as extra
use Rattle.plugin_api.specs.declared.rulebook.Rulebook as rulebook
use Rattle.reload_watch.specs.declared.watcher.Watcher.{Watcher}
use Rattle.reload_watch.specs.Keeping.{IsKeeping}

-- what the blocks of an accepted bundle read
pub record IsReadAs (terms : Terms) (bundle : Bundle) (readings : List BlockReading) : Type 0 where
  pub blocks : List Block
  pub accepted : IsAccepted terms bundle blocks
  pub are : readings ≡ map (block_reading bundle.files) blocks

-- and what those of bundles do, by serial
abbrev pub AreReadAs : Terms → List Bundle → List (List BlockReading) → Type 0
AreReadAs terms [] [] = Unit {0}
AreReadAs terms [] (readings ∷ others) = ⊥
AreReadAs terms (bundle ∷ bundles) [] = ⊥
AreReadAs terms (bundle ∷ bundles) (readings ∷ others) =
    IsReadAs terms bundle readings × AreReadAs terms bundles others

-- a shard of a cache of blocks of this reading may answer so, from the empty shard, with as much
-- room as their directive says
abbrev pub IsLegalFor : BlockReading → List Mark → Type 0
IsLegalFor reading marks =
    (plan : PlanData) → plan_read reading ≡ Some plan → IsLegal (planned_capacities plan) marks

-- each cache has one history over the published bundles, shard by shard, of these calls, a list a
-- side: one legal list has those that picked its blocks, each once, and those of one side at one
-- serial in their order
pub record HaveOneHistory (terms : Terms) (bundles : List Bundle)
    (calls : List (List (Call Mark))) : Type 0 where
  pub readings : List (List BlockReading)
  pub read : AreReadAs terms bundles readings
  pub one : OneHistory has_cache IsLegalFor readings calls

-- where the parts of the logs stand, by serial
abbrev pub places_in : Option PlansData → List Place
places_in None = []
places_in (Some plans) = chain_places plans

abbrev pub places_by : List PlansData → ℕ → List Place
places_by generations serial = places_in (slice_get generations serial)

module _ {B E W N K : Type 0} {b : rulebook.Ghosts B} {e : extra.Ghosts E} where
  -- a watcher's table is closed: these passes came back, of each worker one, and all chains came
  -- home, these among them, whose uses were given back to the caches
  pub record IsHome (table : PinTable (Chain B E b e) N K) (watcher : Watcher W B E b e)
      (passes : List (Pass (Chain B E b e))) (home : List (Chain B E b e)) : Type 0 where
    pub keeps : IsKeeping table watcher
    pub each : length passes ≡ watcher.workers
    pub closed : IsClosed (joined_plan (plan_of watcher.publisher) passes)
    pub traced : IsTraced chain_identity chain_log (joined_plan (plan_of watcher.publisher) passes)
    pub home_is : home
        ≡ watcher.home.items ++ chains_left (joined_plan (plan_of watcher.publisher) passes)
    pub sum : (f : Chain B E b e → ℕ) → IsOfIdentity chain_identity f
        → sum_by f home ≡ sum_by f watcher.home.items + standing f (plan_of watcher.publisher)
    pub all : AllHome (joined_plan (plan_of watcher.publisher) passes)
    pub whole : AreWhole (given_all (chains_lents home) (caches_data watcher.caches))
