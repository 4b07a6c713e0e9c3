-- What a chain uses of what workers share, block by block: pools of upstreams, and a cache.
use Rattle.std.specs.Prelude.{◌≡◌, ℕ, Bool, List, length, map, is_some, option_map, Option}
use Rattle.forward_plugin.specs.declared.pool_use.PoolUse.{PoolUse}
use Rattle.lent_caches.specs.Named.{NamedData, named_data}
use Rattle.lent_caches.specs.declared.uses.LentCache.{LentCache}
use Rattle.chain_build.specs.Pools.{pools_in}
use Rattle.chain_build.specs.declared.block.BlockChain.{BlockChain}
use Rattle.chain_build.specs.declared.block_uses.BlockUses.{BlockUses}

-- how many pools a block's chain has
abbrev pub chain_pools : BlockChain → ℕ
chain_pools chain = pools_in chain.back

-- the cache that serves it, under its name
abbrev pub chain_named : BlockChain → Option NamedData
chain_named chain = option_map named_data chain.named

-- of which cache a use is
abbrev pub lent_cache : LentCache → NamedData
lent_cache u = record { name = u.name; cache = u.of.cache }

-- what stays of a block's uses: how many pools, and of which cache, where its chain has one
pub record UseShape : Type 0 where
  pub pools : ℕ
  pub cache : Option NamedData
  pub cached : Bool

abbrev pub use_shape : BlockUses → UseShape
use_shape uses = record {
  pools = length uses.pools;
  cache = option_map lent_cache uses.cache;
  cached = is_some uses.cache;
}

abbrev pub chain_shape : BlockChain → UseShape
chain_shape chain = record {
  pools = chain_pools chain;
  cache = chain_named chain;
  cached = is_some chain.cache;
}

-- these are the uses of a block's chain, and these of chains, block by block
abbrev pub IsUsed : BlockChain → BlockUses → Type 0
IsUsed chain uses = use_shape uses ≡ chain_shape chain

abbrev pub AreUsed : List BlockChain → List BlockUses → Type 0
AreUsed chains blocks = map use_shape blocks ≡ map chain_shape chains

-- they are uses of the same
abbrev pub SameUses : BlockUses → BlockUses → Type 0
SameUses old new = use_shape new ≡ use_shape old

-- of pools alone, block by block
abbrev pub ArePooled : List BlockChain → List (List PoolUse) → Type 0
ArePooled chains pools = map length pools ≡ map chain_pools chains
