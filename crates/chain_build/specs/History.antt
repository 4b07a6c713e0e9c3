-- What generations read, and the names of their caches. This server's own rule.
use Rattle.std.specs.Prelude.{◌≡◌, ℕ, zero, suc, ◌+◌, Bool, List, [], ◌∷◌, map, is_some, Option}
use Rattle.std.specs.Prelude.{None, option_map}
use Rattle.block_readings.specs.Readings.{BlockReading}
use Rattle.lent_caches.specs.Judging.{plan_read}
use Rattle.lent_caches.specs.Named.{NamedData}
use Rattle.one_history.specs.Names as history
use Rattle.chain_build.specs.KeysLaws.{ReadApart}
use Rattle.chain_build.specs.Naming.{GenerationData, NameBlocks}
use Rattle.chain_build.specs.Seats.{name_of, owner_of}
use Rattle.chain_build.specs.Uses.{chain_named}
use Rattle.chain_build.specs.Workers.{plans_of}
use Rattle.chain_build.specs.declared.chain.Chain.{Chain}
use Rattle.plugin_api.specs.declared.extra.Extra as extra
use Rattle.plugin_api.specs.declared.rulebook.Rulebook as rulebook

-- before the first generation there is no block
abbrev pub no_generation : GenerationData
no_generation = record { readings = []; named = [] }

-- what the blocks of generations read, by serial
abbrev pub readings_of : List GenerationData → List (List BlockReading)
readings_of generations = map (λ g. g.readings) generations

-- the name of the cache of a block
abbrev pub named_name : Option NamedData → Option history.CacheName
named_name o = option_map (λ n. name_of n.name) o

abbrev pub name_in : List (Option NamedData) → ℕ → Option history.CacheName
name_in [] block = None
name_in (o ∷ named) zero = named_name o
name_in (o ∷ named) (suc block) = name_in named block

abbrev pub names_of : List GenerationData → history.Names
names_of [] serial block = None
names_of (g ∷ generations) zero block = name_in g.named block
names_of (g ∷ generations) (suc serial) block = names_of generations serial block

-- a block of this reading has a cache
abbrev pub has_cache : BlockReading → Bool
has_cache reading = is_some (plan_read reading)

-- each block of these readings that has a cache has one of these
abbrev pub AllHave : List BlockReading → List (Option NamedData) → Type 0
AllHave [] [] = Unit {0}
AllHave [] (o ∷ named) = ⊥
AllHave (r ∷ readings) [] = ⊥
AllHave (r ∷ readings) (o ∷ named) = (is_some o ≡ has_cache r) × AllHave readings named

-- that is so in each of these generations, and no two of its blocks read the same
abbrev pub AreReadApart : List GenerationData → Type 0
AreReadApart [] = Unit {0}
AreReadApart (g ∷ generations) =
    AllHave g.readings g.named × ReadApart g.readings × AreReadApart generations

-- the caches of generations one after another, from this serial on, behind this generation
abbrev pub FollowOn : GenerationData → ℕ → List GenerationData → Type 0
FollowOn before serial [] = Unit {0}
FollowOn before serial (g ∷ generations) =
    NameBlocks before serial 0 g.readings g.named × FollowOn g (serial + 1) generations

-- the caches of each of these chains have these names, by its serial
abbrev pub AreNamedBy : {B E : Type 0} {b : rulebook.Ghosts B} {e : extra.Ghosts E}
    → history.Names → List (Chain B E b e) → Type 0
AreNamedBy names [] = Unit {0}
AreNamedBy names (chain ∷ chains) =
    ((block : ℕ) → names (owner_of chain).serial block
    ≡ name_in (map chain_named (plans_of chain).chains) block)
    × AreNamedBy names chains
