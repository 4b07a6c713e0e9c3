-- Which cache a name means.
use Rattle.std.specs.Prelude.{◌≡◌, ◌⊎◌, true, List, [], ◌∷◌}
use Rattle.std.specs.Arc.{arc_value}
use Rattle.lent_caches.specs.declared.name.CacheName.{CacheName}
use Rattle.lent_caches.specs.declared.name.NamedCache.{NamedCache}
use Rattle.lent_caches.specs.Held.{CacheOf, HeldData, LentData}
use Rattle.lent_caches.specs.Names.{same_name}

-- a cache with its name
pub record NamedData : Type 0 where
  pub name : CacheName
  pub cache : CacheOf

abbrev pub named_data : NamedCache → NamedData
named_data n = record { name = n.name; cache = arc_value n.cache }

-- this cache is held under its name
abbrev pub IsHeldBy : NamedData → List HeldData → Type 0
IsHeldBy n [] = ⊥
IsHeldBy n (h ∷ hs) = ((same_name h.name n.name ≡ true) × (n.cache ≡ h.cache)) ⊎ IsHeldBy n hs

-- of which cache a use is
abbrev pub named_of : LentData → NamedData
named_of u = record { name = u.name; cache = u.cache }
