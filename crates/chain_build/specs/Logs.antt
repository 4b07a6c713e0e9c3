-- The log of a chain: its own calls of what workers share, part by part. This server's own rule.
use Rattle.std.specs.Prelude.{◌≡◌, ℕ, zero, suc, ◌+◌, ◌==◌, List, [], ◌∷◌, ◌++◌, map, Option}
use Rattle.std.specs.Prelude.{Some, None, if◌then◌else◌}
use Rattle.outside.specs.declared.entry.InnerMark.TheVariants.{Drawn, Reported}
use Rattle.outside.specs.declared.mark.Mark.{Mark}
use Rattle.outside.specs.declared.mark.Mark.TheVariants.{Inner}
use Rattle.upstream_health.specs.Pools.{PoolCall}
use Rattle.upstream_health.specs.declared.state.PoolAsk.TheVariants.{Draw, Report}
use Rattle.upstream_health.specs.declared.state.PoolTold.TheVariants.{Drew, Noted}
use Rattle.forward_plugin.specs.PoolUses.{calls_of}
use Rattle.forward_plugin.specs.declared.pool_use.PoolUse.{PoolUse}
use Rattle.one_history.specs.Logs.{Place}
use Rattle.one_history.specs.Runs.{SHARDS}
use Rattle.one_history.specs.Shared.{log_at}
use Rattle.plugin_api.specs.{PlanData}
use Rattle.cache_plugin.specs.{use_logs}
use Rattle.lent_caches.specs.declared.uses.LentCache.{LentCache}
use Rattle.chain_meaning.specs.CallsByRun.{NumberedMark, Pools, Shards, Shared, pool_part}
use Rattle.chain_meaning.specs.CallsByRun.{shard_part}
use Rattle.chain_build.specs.declared.block.BlockChain.{BlockChain}
use Rattle.chain_build.specs.Uses.{chain_pools}
use Rattle.chain_build.specs.declared.block_uses.BlockUses.{BlockUses}
use Rattle.chain_build.specs.Plans.{PlansData}

-- the mark that tells a call of a pool
abbrev pub pool_mark : PoolCall → List Mark
pool_mark None = []
pool_mark (Some (Draw, Drew drawn)) = Inner (Drawn drawn.number drawn.down) ∷ []
pool_mark (Some (Draw, Noted)) = []
pool_mark (Some (Report upstream agreed, Drew drawn)) = []
pool_mark (Some (Report upstream agreed, Noted)) = Inner (Reported upstream agreed) ∷ []

abbrev pub pool_marks : List PoolCall → List Mark
pool_marks [] = []
pool_marks (call ∷ calls) = pool_mark call ++ pool_marks calls

-- what a chain called of a pool
abbrev pub use_log : PoolUse → List Mark
use_log u = pool_marks (calls_of u)

-- and of each pool of a block
abbrev pub pool_logs : List PoolUse → List (List Mark)
pool_logs uses = map use_log uses

-- and of each shard of its cache, where it has one
abbrev pub shard_logs : Option LentCache → List (List Mark)
shard_logs None = []
shard_logs (Some u) = use_logs u.of

-- of one of both
abbrev pub logs_of : Shared → BlockUses → List (List Mark)
logs_of Shards uses = shard_logs uses.cache
logs_of Pools uses = pool_logs uses.pools

abbrev pub block_log : BlockUses → List (List Mark)
block_log uses = shard_logs uses.cache ++ pool_logs uses.pools

-- and of what all blocks share
abbrev pub held_log : List BlockUses → List (List Mark)
held_log [] = []
held_log (uses ∷ blocks) = block_log uses ++ held_log blocks

-- where the parts of a log stand: so many, from one on
abbrev pub numbered : (ℕ → Place) → ℕ → ℕ → List Place
numbered at first zero = []
numbered at first (suc count) = at first ∷ numbered at (first + 1) count

-- how many shards a block's cache has
abbrev pub shards_in : Option PlanData → ℕ
shards_in None = 0
shards_in (Some plan) = SHARDS

-- those of a block: the shards of its cache, and its pools
abbrev pub block_places : ℕ → BlockChain → List Place
block_places block chain =
    numbered (shard_part block) 0 (shards_in chain.cache)
    ++ numbered (pool_part block) 0 (chain_pools chain)

-- those of blocks, from one on
abbrev pub places_from : ℕ → List BlockChain → List Place
places_from block [] = []
places_from block (chain ∷ chains) = block_places block chain ++ places_from (block + 1) chains

-- those of a chain of a configuration
abbrev pub chain_places : PlansData → List Place
chain_places plans = places_from 0 plans.chains

-- what a log is read by: the serial of its chain, and where its parts stand
pub record LogShape : Type 0 where
  pub serial : ℕ
  pub places : List Place

abbrev pub shape_of : PlansData → ℕ → LogShape
shape_of plans serial = record { serial = serial; places = chain_places plans }

-- of calls, the marks of those with a number
abbrev pub at_number : ℕ → List NumberedMark → List Mark
at_number part [] = []
at_number part (c ∷ calls) =
    if c.number == part then c.mark ∷ at_number part calls else at_number part calls

-- each log has grown by its own of these calls
pub record LoggedCalls (calls : List NumberedMark) (old new : List (List Mark)) : Type 0 where
  pub each : (part : ℕ) → log_at new part ≡ log_at old part ++ at_number part calls
