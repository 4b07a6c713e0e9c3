-- Of how many parts each shard's history is, and how many a seat has.
use Rattle.std.specs.Prelude.{◌≡◌, ℕ, ◌+◌, List, map}
use Rattle.std.specs.List.{AllByRecursion}
use Rattle.cache_shards.specs.Seats.{ShardView}

module _ {J : Type 0} where
  abbrev pub parts_of : List (ShardView J) → List ℕ
  parts_of views = map (λ v. v.parts) views

  abbrev pub totals_of : List (ShardView J) → List ℕ
  totals_of views = map (λ v. v.all) views

  -- the same parts of the same
  pub record KeepsParts (views news : List (ShardView J)) : Type 0 where
    pub parts : parts_of news ≡ parts_of views
    pub totals : totals_of news ≡ totals_of views

  -- so many parts of so many at each shard
  abbrev pub AreShares : ℕ → ℕ → List (ShardView J) → Type 0
  AreShares all many views = AllByRecursion (λ v. (v.parts ≡ many) × (v.all ≡ all)) views

  -- so many parts that with others there are all
  pub record PartsBeside (all others : ℕ) (views : List (ShardView J)) : Type 0 where
    pub many : ℕ
    pub share : AreShares all many views
    pub sum : many + others ≡ all
