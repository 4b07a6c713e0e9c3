-- What a call of a cache leaves of the parts of its use.
use Rattle.std.proofs.Common.{◌≡◌, inl, inr, List, map, ap}
use Rattle.cache_shards.specs.Calls.{DoesNothingOr, looked_marks}
use Rattle.cache_shards.specs.Seats.{AddsAt, CacheData, ShardSeat, ShardView, met_marks, views_of}
use Rattle.cache_shards.specs.declared.calls.Looked as gets
use Rattle.cache_shards.specs.declared.calls.Looked.TheVariants as getv
use Rattle.outside.specs.{EntryData}
use Rattle.outside.specs.Keys.{shard_of}
use Rattle.outside.specs.declared.entry.Key.{Key}
use Rattle.outside.specs.declared.mark.Mark.{Mark}
use Rattle.cache_plugin.specs.Uses.{KeepsParts, UseData}

module _ {J : Type 0} (cache : CacheData J) (just : EntryData → Type 0) where
  abbrev of_views : List (ShardView J) → UseData J
  of_views views = record { cache = cache; views = views }

  pub keeps_added : (at : _) (views news : List (ShardView J)) (marks : List Mark) → AddsAt cache.capacities just at views news marks → KeepsParts (of_views views) (of_views news)
  keeps_added at views news marks adds = record { met = adds.met; parts = adds.parts.0 }

  keeps_same : (seats after : List (ShardSeat J)) → after ≡ seats → KeepsParts (of_views (views_of seats)) (of_views (views_of after))
  keeps_same seats after same = record { met = ap (λ (l : List (ShardSeat J)). map met_marks (views_of l)) same; parts = ap (λ (l : List (ShardSeat J)). map (λ (v : ShardView J). v.parts) (views_of l)) same }

  pub keeps_looked : (key : Key) (moment : _) (seats after : List (ShardSeat J)) (got : gets.Looked)
      → DoesNothingOr got (after ≡ seats) (AddsAt cache.capacities just (shard_of key) (views_of seats) (views_of after) (looked_marks key moment got))
      → KeepsParts (of_views (views_of seats)) (of_views (views_of after))
  keeps_looked key moment seats after (getv.Hit entry) adds = keeps_added (shard_of key) (views_of seats) (views_of after) _ adds
  keeps_looked key moment seats after getv.Miss adds = keeps_added (shard_of key) (views_of seats) (views_of after) _ adds
  keeps_looked key moment seats after getv.NoMemory (inl same) = keeps_same seats after same
  keeps_looked key moment seats after getv.NoMemory (inr adds) = keeps_added (shard_of key) (views_of seats) (views_of after) _ adds
