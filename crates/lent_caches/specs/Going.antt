-- How far the caches of which no use is out have gone.
use Rattle.std.specs.Prelude.{◌≡◌, ℕ, List, ◌++◌, map, length}
use Rattle.lent_caches.specs.declared.uses.HeldCache.{HeldCache}
use Rattle.lent_caches.specs.Held.{AreWhole, HeldData, held_data, stays}

-- the first so many stay; of the others some are still to go
pub record GoneSo (old : List HeldData) (at : ℕ) (items : List HeldCache) : Type 0 where
  pub front : List HeldCache
  pub back : List HeldCache
  pub items_are : items ≡ front ++ back
  pub long : length front ≡ at
  pub kept : stays old ≡ map held_data front ++ stays (map held_data back)
  pub whole : AreWhole (map held_data back) → AreWhole old
