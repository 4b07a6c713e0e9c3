-- A worker's use of a cache that the workers of a generation share.
use Rattle.std.specs.Prelude.{◌≡◌, ◌≤◌, ℕ, List, [], length, map}
use Rattle.std.specs.List.{All, AllByRecursion}
use Rattle.outside.specs.declared.mark.Mark.{Mark}
use Rattle.cache_shards.specs.Seats.{CacheData, ShardView, logs, met_marks}

-- the cache, and what the use's seats know of its shards
pub record UseData (J : Type 0) : Type 0 where
  pub cache : CacheData J
  pub views : List (ShardView J)

module _ {J : Type 0} where
  -- the marks of its own calls, shard by shard
  abbrev pub use_logs : UseData J → List (List Mark)
  use_logs u = logs u.views

  -- it is a use of the same cache
  pub record SameUse (old new : UseData J) : Type 0 where
    pub cache : new.cache ≡ old.cache
    pub views : length new.views ≡ length old.views

  -- it has the parts that it had, and has met what it had met
  pub record KeepsParts (old new : UseData J) : Type 0 where
    pub met : map met_marks new.views ≡ map met_marks old.views
    pub parts : map (λ v. v.parts) new.views ≡ map (λ v. v.parts) old.views

  -- it has so many parts of each shard
  abbrev pub HasParts : ℕ → UseData J → Type 0
  HasParts parts u = AllByRecursion (λ v. v.parts ≡ parts) u.views

  -- more than one, so that one can be given
  abbrev pub HasMore : UseData J → Type 0
  HasMore u = AllByRecursion (λ v. 2 ≤ v.parts) u.views

  -- it made no call
  abbrev pub IsUncalled : UseData J → Type 0
  IsUncalled u = All (λ (part : List Mark). part ≡ []) (use_logs u)
