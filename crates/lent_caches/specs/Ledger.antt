-- What is held, over all that was published and all that came home. This server's own rule.
use Rattle.std.specs.Prelude.{◌≡◌, ◌<◌, ◌≤◌, ◌⊎◌, ℕ, ◌+◌, true, List, [], ◌∷◌, map, if◌then◌else◌}
use Rattle.ruled_lock.specs.Shuffles.{filled}
use Rattle.lent_caches.specs.declared.name.CacheName.{CacheName}
use Rattle.lent_caches.specs.Names.{same_name}
use Rattle.lent_caches.specs.Held.{AllLogs, AreApart, CacheOf, HeldData, IsHeldAs, IsWhole, LentData, lent_one}

-- how often a name stands in a list
abbrev pub count_named : CacheName → List CacheName → ℕ
count_named name [] = 0
count_named name (n ∷ ns) = (if same_name name n then 1 else 0) + count_named name ns

abbrev pub use_names : List LentData → List CacheName
use_names us = map (λ u. u.name) us

-- at a shard, the marks of the uses of the cache of a name
abbrev pub logs_named : CacheName → List LentData → AllLogs
logs_named name [] shard = []
logs_named name (u ∷ us) shard =
    if same_name name u.name then u.log shard ∷ logs_named name us shard
    else logs_named name us shard

-- without those that made no call there
abbrev pub filled_named : CacheName → List LentData → AllLogs
filled_named name us shard = filled (logs_named name us shard)

-- a use was lent for each of these names
abbrev pub lent_each : List CacheName → List HeldData → List HeldData
lent_each [] held = held
lent_each (n ∷ ns) held = lent_each ns (lent_one n held)

-- what is so of each cache that is held
abbrev pub Each : (HeldData → Type 0) → List HeldData → Type 0
Each P [] = Unit {0}
Each P (h ∷ hs) = P h × Each P hs

-- each use's cache is held under its name
abbrev pub AllHeld : List LentData → List HeldData → Type 0
AllHeld [] held = Unit {0}
AllHeld (u ∷ us) held = IsHeldAs u held × AllHeld us held

-- a cache of this name is held
abbrev pub IsNamed : CacheName → List HeldData → Type 0
IsNamed name [] = ⊥
IsNamed name (h ∷ hs) = (same_name h.name name ≡ true) ⊎ IsNamed name hs

-- all uses under this name are of this cache
abbrev pub AllOf : CacheName → CacheOf → List LentData → Type 0
AllOf name cache [] = Unit {0}
AllOf name cache (u ∷ us) = (same_name name u.name ≡ true → u.cache ≡ cache) × AllOf name cache us

-- a cache that is held: some uses are out, as many as were published and did not come home, and it
-- knows the marks of those that did
pub record IsKept (published : List CacheName) (homes : List LentData) (h : HeldData) : Type 0 where
  pub some : 0 < h.out
  pub out : h.out + count_named h.name (use_names homes) ≡ count_named h.name published
  pub logs : h.logs ≡ filled_named h.name homes
  pub all_of : AllOf h.name h.cache homes

-- a cache that went out: all its uses came home, and at each shard one legal list has all their
-- marks
pub record HasGone (published : List CacheName) (homes : List LentData) (name : CacheName) : Type 0
  where
    pub cache : CacheOf
    pub all_of : AllOf name cache homes
    pub all : count_named name (use_names homes) ≡ count_named name published
    pub whole : IsWhole cache (filled_named name homes)

-- Each cache whose uses were published is held or has gone.
pub record IsLedger (published : List CacheName) (homes : List LentData) (held : List HeldData)
    : Type 0 where
  pub apart : AreApart held
  pub kept : Each (IsKept published homes) held
  pub gone : (name : CacheName) → 0 < count_named name published
      → IsNamed name held ⊎ HasGone published homes name

-- what came home was published, of each name
abbrev pub CameHome : List CacheName → List LentData → Type 0
CameHome published homes =
    (name : CacheName) → count_named name (use_names homes) ≤ count_named name published

-- a cache that was just made: none of its uses was published
pub record IsFresh (published : List CacheName) (h : HeldData) : Type 0 where
  pub none_out : h.out ≡ 0
  pub none_home : (shard : ℕ) → h.logs shard ≡ []
  pub unused : count_named h.name published ≡ 0

-- every published use of a cache of this name is of this one
abbrev pub AllAs : List LentData → HeldData → Type 0
AllAs [] h = Unit {0}
AllAs (u ∷ us) h = (same_name h.name u.name ≡ true → u.cache ≡ h.cache) × AllAs us h

-- the use is one of those that were published, by name and cache
abbrev pub IsAs : LentData → List LentData → Type 0
IsAs u [] = ⊥
IsAs u (v ∷ vs) = ((v.name ≡ u.name) × (v.cache ≡ u.cache)) ⊎ IsAs u vs

abbrev pub AreAs : List LentData → List LentData → Type 0
AreAs [] published = Unit {0}
AreAs (u ∷ us) published = IsAs u published × AreAs us published
