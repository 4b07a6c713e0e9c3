-- How many parts uses have of what workers share, and whether they called it.
use Rattle.std.specs.Prelude.{ℕ, List, Option, Some, None}
use Rattle.std.specs.List.{All}
use Rattle.cache_plugin.specs.Uses as cache
use Rattle.forward_plugin.specs.PoolParts as pool
use Rattle.forward_plugin.specs.declared.pool_use.PoolUse.{PoolUse}
use Rattle.lent_caches.specs.declared.uses.LentCache.{LentCache}
use Rattle.chain_build.specs.declared.block_uses.BlockUses.{BlockUses}

-- something holds of a cache where there is one
abbrev pub IfCached : (LentCache → Type 0) → Option LentCache → Type 0
IfCached P None = Unit {0}
IfCached P (Some u) = P u

-- so many parts of each pool of a block, and more than one, so that one can be given
abbrev pub HaveParts : ℕ → List PoolUse → Type 0
HaveParts parts pools = All (pool.HasParts parts) pools

abbrev pub HaveMore : List PoolUse → Type 0
HaveMore pools = All pool.HasMore pools

-- they made no call
pub record AreUncalled (uses : BlockUses) : Type 0 where
  pub pools : All pool.IsUncalled uses.pools
  pub cache : IfCached (λ u. cache.IsUncalled u.of) uses.cache
