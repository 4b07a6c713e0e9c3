-- The caches of which a chain's uses are, and how they are lent and given back. This server's own
-- rule.
use Rattle.std.specs.Prelude.{◌≡◌, List, [], ◌∷◌, ◌++◌, map, is_some, Option, Some, None}
use Rattle.std.specs.Prelude.{Result, Ok, Err}
use Rattle.std.specs.List.{All}
use Rattle.dns_lists.specs.declared.memory.NoMemory.{NoMemory}
use Rattle.lent_caches.specs.Building.{AreNewUses}
use Rattle.lent_caches.specs.Held.{HeldData, IsNewUse, LentData, lent_data, lent_one}
use Rattle.lent_caches.specs.Ledger.{lent_each, use_names}
use Rattle.lent_caches.specs.Named.{IsHeldBy, NamedData}
use Rattle.lent_caches.specs.declared.name.CacheName.{CacheName}
use Rattle.lent_caches.specs.declared.name.NamedCache.{NamedCache}
use Rattle.lent_caches.specs.declared.uses.LentCache.{LentCache}
use Rattle.chain_build.specs.Shares.{AreUncalled}
use Rattle.chain_build.specs.Uses.{AreUsed, chain_named}
use Rattle.chain_build.specs.declared.block.BlockChain.{BlockChain}
use Rattle.chain_build.specs.declared.block_uses.BlockUses.{BlockUses}

-- a chain with a cache has one that serves it, and no other has
abbrev pub IsNamed : BlockChain → Type 0
IsNamed chain = is_some chain.named ≡ is_some chain.cache

-- the names among these
abbrev pub names_in : List (Option NamedData) → List CacheName
names_in [] = []
names_in (None ∷ named) = names_in named
names_in (Some n ∷ named) = n.name ∷ names_in named

-- the names of the caches that serve chains
abbrev pub chain_names : List BlockChain → List CacheName
chain_names chains = names_in (map chain_named chains)

-- each of these caches is held under its name
abbrev pub AreHeldBy : List (Option NamedData) → List HeldData → Type 0
AreHeldBy [] held = Unit {0}
AreHeldBy (None ∷ named) held = AreHeldBy named held
AreHeldBy (Some n ∷ named) held = IsHeldBy n held × AreHeldBy named held

-- the uses of caches among the uses of blocks
abbrev pub lents_in : Option LentCache → List LentData
lents_in None = []
lents_in (Some u) = lent_data u ∷ []

abbrev pub uses_lents : List BlockUses → List LentData
uses_lents [] = []
uses_lents (uses ∷ blocks) = lents_in uses.cache ++ uses_lents blocks

-- a new use was lent of the cache that serves a chain, where it has one
pub record LendsOne (chain : BlockChain) (before after : List HeldData) (u : LentCache) : Type 0
  where
    pub named : NamedCache
    pub is : chain.named ≡ Some named
    pub lent : IsNewUse named.name before (lent_data u)
    pub after_is : after ≡ lent_one named.name before

abbrev pub LendsCache : BlockChain → List HeldData → List HeldData
    → Result (Option LentCache) NoMemory → Type 0
LendsCache chain before after (Ok (Some u)) = LendsOne chain before after u
LendsCache chain before after (Ok None) = (chain.named ≡ None) × (after ≡ before)
LendsCache chain before after (Err starved) = after ≡ before

-- where all were lent, they are the uses of these chains
abbrev pub LendsAll : List BlockChain → List BlockUses → Result (Unit {0}) NoMemory → Type 0
LendsAll chains more (Ok done) = AreUsed chains more
LendsAll chains more (Err starved) = Unit {0}

-- new uses were lent for the first of these chains; where memory sufficed, for all
pub record Lends (chains : List BlockChain) (before after : List HeldData)
    (old new : List BlockUses) (result : Result (Unit {0}) NoMemory) : Type 0 where
  pub more : List BlockUses
  pub behind : new ≡ old ++ more
  pub fresh : All AreUncalled more
  pub lent : after ≡ lent_each (use_names (uses_lents more)) before
  pub are : AreNewUses (use_names (uses_lents more)) before (uses_lents more)
  pub all : LendsAll chains more result
