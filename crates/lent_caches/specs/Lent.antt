-- A use behind a call.
use Rattle.std.specs.Prelude.{◌≡◌}
use Rattle.lent_caches.specs.declared.uses.LentCache.{LentCache}

-- it is the same use of the same cache
pub record IsSameUse (old new : LentCache) : Type 0 where
  pub name : new.name ≡ old.name
  pub cache : new.of.cache ≡ old.of.cache
