-- Which cache serves a block: that of the block of the generation before which reads the same, or
-- a new one. This server's own rule.
use Rattle.std.specs.Prelude.{◌≡◌, ◌≢◌, ◌≤◌, ◌<◌, ◌⊎◌, ℕ, ◌+◌, true, List, [], ◌∷◌, ◌++◌, map}
use Rattle.std.specs.Prelude.{is_some, slice_get, Option, Some, None}
use Rattle.std.specs.List.{All}
use Rattle.corefile_blocks.specs.Readable.{HasShortBytes}
use Rattle.dns_data.specs.declared.block.Block.{Block}
use Rattle.dns_data.specs.declared.file.FileText.{FileText}
use Rattle.block_readings.specs.Readings.{BlockReading, block_reading}
use Rattle.cache_shards.specs.Planned.{planned_capacities}
use Rattle.lent_caches.specs.Held.{AreApart, HeldData, IsAbsent}
use Rattle.lent_caches.specs.Judging.{judge_reading, plan_read}
use Rattle.lent_caches.specs.Ledger.{Each, count_named}
use Rattle.lent_caches.specs.Named.{IsHeldBy, NamedData, named_data}
use Rattle.lent_caches.specs.declared.name.CacheName.{CacheName}
use Rattle.lent_caches.specs.declared.name.NamedCache.{NamedCache}
use Rattle.plugin_api.specs.{PlanData, Sayings}
use Rattle.chain_build.specs.Lending.{AreHeldBy, IsNamed, names_in}
use Rattle.chain_build.specs.Plans.{PlansData, behind_of, block_cache, cache_in, extras_in, steps_in}
use Rattle.chain_build.specs.Uses.{chain_named, chain_pools}
use Rattle.chain_build.specs.declared.block.BlockChain.{BlockChain}
use Rattle.chain_build.specs.declared.naming.Generation.{Generation}
use Rattle.chain_build.specs.declared.naming.Naming.{Naming}

-- the name of a cache that begins with a generation, at a block
abbrev pub name_at : ℕ → ℕ → CacheName
name_at serial block = record { serial = serial; block = block }

-- what the blocks of a generation read, and which caches serve them
pub record GenerationData : Type 0 where
  pub readings : List BlockReading
  pub named : List (Option NamedData)

abbrev pub generation_by : List FileText → List Block → List BlockChain → GenerationData
generation_by files blocks chains =
    record { readings = map (block_reading files) blocks; named = map chain_named chains }

abbrev pub generation_data : Generation → GenerationData
generation_data g = generation_by g.files.now g.blocks.now g.chains.now

abbrev pub plans_generation : PlansData → GenerationData
plans_generation plans = generation_by plans.bundle.files plans.blocks plans.chains

-- the generation before the first one has no block
pub record IsNone (g : Generation) : Type 0 where
  pub files : g.files.now ≡ []
  pub blocks : g.blocks.now ≡ []
  pub chains : g.chains.now ≡ []

-- what serves by plans
pub record IsOfPlans (plans : PlansData) (g : Generation) : Type 0 where
  pub files : g.files.now ≡ plans.bundle.files
  pub blocks : g.blocks.now ≡ plans.blocks
  pub chains : g.chains.now ≡ plans.chains

-- a block of this reading has a cache
abbrev pub IsCachedAs : BlockReading → Type 0
IsCachedAs reading = is_some (plan_read reading) ≡ true

-- this cache was made for blocks of this reading: it admits entries that repeat what stands behind
-- their cache, and has the capacities of their directive
pub record IsMadeFor (reading : BlockReading) (n : NamedData) : Type 0 where
  pub judge : judge_reading n.cache.judge ≡ reading
  pub room : (plan : PlanData) → plan_read reading ≡ Some plan
      → n.cache.capacities ≡ planned_capacities plan

-- and so were these, one for each of these readings that has one
abbrev pub AreMadeFor : List BlockReading → List (Option NamedData) → Type 0
AreMadeFor [] [] = Unit {0}
AreMadeFor [] (o ∷ named) = ⊥
AreMadeFor (r ∷ readings) [] = ⊥
AreMadeFor (r ∷ readings) (None ∷ named) = AreMadeFor readings named
AreMadeFor (r ∷ readings) (Some n ∷ named) = IsMadeFor r n × AreMadeFor readings named

-- the caches of a generation: each chain with a cache has one, which was made for its block and is
-- held
pub record AreServed (files : List FileText) (blocks : List Block) (chains : List BlockChain)
    (held : List HeldData) : Type 0 where
  pub named : All IsNamed chains
  pub made : AreMadeFor (map (block_reading files) blocks) (map chain_named chains)
  pub by : AreHeldBy (map chain_named chains) held

abbrev pub PlansServed : PlansData → List HeldData → Type 0
PlansServed plans held = AreServed plans.bundle.files plans.blocks plans.chains held

-- the generation before may be looked through for blocks that read the same
pub record Precedes (g : Generation) (held : List HeldData) : Type 0 where
  pub short : All HasShortBytes g.files.now
  pub cached : map cache_in g.chains.now ≡ map block_cache g.blocks.now
  pub served : AreServed g.files.now g.blocks.now g.chains.now held

-- the block goes on with the cache of one that reads the same
pub record GoesOn (before : GenerationData) (reading : BlockReading) (n : NamedData) : Type 0 where
  pub other : ℕ
  pub named : slice_get before.named other ≡ Some (Some n)
  pub reads : slice_get before.readings other ≡ Some reading

-- the block begins with a cache of its own, since none reads the same
pub record Begins (before : GenerationData) (name : CacheName) (reading : BlockReading)
    (n : NamedData) : Type 0 where
  pub name_is : n.name ≡ name
  pub none : (other : ℕ) → slice_get before.readings other ≢ Some reading

-- which cache serves the block with this number
abbrev pub NamesBlock : GenerationData → CacheName → BlockReading → NamedData → Type 0
NamesBlock before name reading n = GoesOn before reading n ⊎ Begins before name reading n

-- and which serve those from this number on
abbrev pub NameBlocks : GenerationData → ℕ → ℕ → List BlockReading → List (Option NamedData)
    → Type 0
NameBlocks before serial at [] [] = Unit {0}
NameBlocks before serial at [] (o ∷ named) = ⊥
NameBlocks before serial at (r ∷ readings) [] = ⊥
NameBlocks before serial at (r ∷ readings) (None ∷ named) =
    NameBlocks before serial (at + 1) readings named
NameBlocks before serial at (r ∷ readings) (Some n ∷ named) =
    NamesBlock before (name_at serial at) r n
    × NameBlocks before serial (at + 1) readings named

-- no cache is held under a name of this serial, from this block on
abbrev pub AbsentFrom : ℕ → ℕ → List HeldData → Type 0
AbsentFrom serial at held =
    (block : ℕ) → at ≤ block → IsAbsent (name_at serial block) held

-- a cache that begins with this serial, at this block or behind it: no use of it was lent
pub record IsNewFrom (serial at : ℕ) (h : HeldData) : Type 0 where
  pub serial_is : h.name.serial ≡ serial
  pub block_is : at ≤ h.name.block
  pub none_out : h.out ≡ 0
  pub none_back : (shard : ℕ) → h.logs shard ≡ []

-- nothing but new caches is held besides
pub record AddsCaches (serial at : ℕ) (before after : List HeldData) : Type 0 where
  pub fresh : List HeldData
  pub behind : after ≡ before ++ fresh
  pub new : Each (IsNewFrom serial at) fresh
  pub apart : AreApart after

-- the names of new caches are among these
abbrev pub AreUsedBy : List CacheName → List HeldData → Type 0
AreUsedBy names fresh = Each (λ h. 0 < count_named h.name names) fresh

-- a look for a block that reads the same found this cache, or there is no such block
abbrev pub FindsSame : List BlockReading → List (Option NamedData) → BlockReading
    → Option NamedCache → Type 0
FindsSame readings named reading (Some n) =
    GoesOn (record { readings = readings; named = named }) reading (named_data n)
FindsSame readings named reading None = (other : ℕ) → slice_get readings other ≢ Some reading

-- the cache of this name, which was made for blocks of this reading, is held besides
pub record BeginsCache (name : CacheName) (reading : BlockReading) (n : NamedData)
    (before after : List HeldData) : Type 0 where
  pub name_is : n.name ≡ name
  pub made : IsMadeFor reading n
  pub by : IsHeldBy n after
  pub one : HeldData
  pub behind : after ≡ before ++ one ∷ []
  pub one_is : one.name ≡ name

-- the chain is another by its cache alone
pub record SameChain (old new : BlockChain) : Type 0 where
  pub steps : (said : Sayings) → steps_in said new ≡ steps_in said old
  pub behind : behind_of new ≡ behind_of old
  pub cached : cache_in new ≡ cache_in old
  pub extras : extras_in new ≡ extras_in old
  pub pools : chain_pools new ≡ chain_pools old

pub record SameChains (old new : List BlockChain) : Type 0 where
  pub steps : (said : Sayings) → map (steps_in said) new ≡ map (steps_in said) old
  pub behind : map behind_of new ≡ map behind_of old
  pub cached : map cache_in new ≡ map cache_in old
  pub extras : map extras_in new ≡ map extras_in old
  pub pools : map chain_pools new ≡ map chain_pools old

-- and so are plans
pub record SamePlans (old new : PlansData) : Type 0 where
  pub bundle : new.bundle ≡ old.bundle
  pub default_port : new.default_port ≡ old.default_port
  pub names : new.names ≡ old.names
  pub blocks : new.blocks ≡ old.blocks
  pub extras : new.extras ≡ old.extras
  pub ports : new.ports ≡ old.ports
  pub chains : SameChains old.chains new.chains

-- what is held before and behind a call
pub record Change : Type 0 where
  pub before : List HeldData
  pub after : List HeldData

abbrev pub change : List HeldData → List HeldData → Change
change before after = record { before = before; after = after }

-- whatever is new is used under one of these names
abbrev pub UsesNew : List (Option NamedData) → Change → Type 0
UsesNew named c =
    (fresh : List HeldData) → c.after ≡ c.before ++ fresh → AreUsedBy (names_in named) fresh

-- the caches of blocks of these readings, from this number on: each block with a cache has one,
-- which was made for its reading and is held; which one it is; and no other is new
pub record NamesReadings (naming : Naming) (at : ℕ) (readings : List BlockReading)
    (named : List (Option NamedData)) (c : Change) : Type 0 where
  pub made : AreMadeFor readings named
  pub by : AreHeldBy named c.after
  pub names : NameBlocks (generation_data naming.before) naming.serial at readings named
  pub used : UsesNew named c

-- the chain of a block of this reading has its cache, and so have those of blocks
pub record NamesChain (naming : Naming) (at : ℕ) (reading : BlockReading) (chain : BlockChain)
    (c : Change) : Type 0 where
  pub has : IsNamed chain
  pub reads : NamesReadings naming at (reading ∷ []) (chain_named chain ∷ []) c

pub record NamesChains (naming : Naming) (at : ℕ) (readings : List BlockReading)
    (chains : List BlockChain) (c : Change) : Type 0 where
  pub has : All IsNamed chains
  pub reads : NamesReadings naming at readings (map chain_named chains) c

-- and so have those of plans
abbrev pub NamesPlans : Naming → Change → PlansData → Type 0
NamesPlans naming c plans =
    NamesChains naming 0 (plans_generation plans).readings plans.chains c
