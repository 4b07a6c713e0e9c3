-- What is kept of the history of a cache's shard. This server's own rule.
use Rattle.std.specs.Prelude.{◌≡◌, ◌↔◌, ℕ, Bool, IsTrue, List, [], ◌∷◌, ◌++◌, Option}
use Rattle.lru.specs.LruCache.{LruCache}
use Rattle.last_used.specs.Stores.{IsStoreOf}
use Rattle.last_used.specs.Uses.{last_used}
use Rattle.outside.specs.{EntryData, same_key}
use Rattle.outside.specs.declared.entry.Class.{Class}
use Rattle.outside.specs.declared.entry.Key.{Key}
use Rattle.outside.specs.declared.mark.Mark.{Mark}
use Rattle.outside.specs.declared.mark.Mark.TheVariants.{Looked}
use Rattle.cache_shards.specs.Answers.{Capacities, Room, answer_at, is_denial, is_success}
use Rattle.cache_shards.specs.Answers.{last_put, uses}

module _ {A : Type 0} (value_of : A → EntryData) where
  -- a store has the keys that these marks used last, each with the entry that was put last
  pub record StoreShows (stands_in : Class → Bool) (most : ℕ) (marks : List Mark)
      (store : LruCache Key A) : Type 0 where
    pub entries : IsStoreOf value_of same_key store (uses stands_in marks)
    pub capacity : store.cap ≡ most
    pub last : (key : Key)
        → last_used same_key key (uses stands_in marks) ≡ last_put stands_in key marks

  -- the two stores of a shard
  pub record StoresShow (capacities : Capacities) (marks : List Mark)
      (success denial : LruCache Key A) : Type 0 where
    pub room : Room capacities
    pub success_shows : StoreShows is_success capacities.success marks success
    pub denial_shows : StoreShows is_denial capacities.denial marks denial

  -- a get is answered as it should be, and is among the marks then
  pub record TakesLook (capacities : Capacities) (marks : List Mark) (key : Key) (now : ℕ)
      (told : Option EntryData) (taken : Bool) (success denial : LruCache Key A) : Type 0 where
    pub exact : IsTrue taken ↔ (told ≡ answer_at capacities key now marks)
    pub shows : IsTrue taken
        → StoresShow capacities (marks ++ Looked key now told ∷ []) success denial
