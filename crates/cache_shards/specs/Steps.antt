-- What a call does with the two stores of a shard.
use Rattle.std.specs.Prelude.{◌≡◌, ℕ, ◌⊎◌, [], Option, Some, None, option_map, MatchBool}
use Rattle.std.specs.Map.{lookup}
use Rattle.std.specs.Arc.{arc_value}
use Rattle.std.specs.Box.{box_value}
use Rattle.std.specs.declared.snapshot.Snapshot.{Snapshot}
use Rattle.std.proofs.Common.{sym, subst, ap}
use Rattle.lru.specs.LruCache.{lru_cache, promoted, put_entries}
use Rattle.outside.specs.{EntryData, same_key}
use Rattle.outside.specs.declared.entry.Key.{Key}
use Rattle.cache_shards.specs.declared.calls.Kept.{Kept}
use Rattle.cache_shards.specs.declared.calls.Kept.TheVariants as kept
use Rattle.cache_shards.specs.declared.calls.ShardCall.{ShardCall}
use Rattle.cache_shards.specs.declared.calls.ShardCall.TheVariants.{Get, Put}
use Rattle.cache_shards.specs.declared.calls.ShardReply.{ShardReply}
use Rattle.cache_shards.specs.declared.calls.ShardReply.TheVariants as reply
use Rattle.cache_shards.specs.declared.store.Found.{Found}
use Rattle.cache_shards.specs.declared.store.Found.TheVariants as found
use Rattle.cache_shards.specs.declared.shard.Shard.{Shard}
use Rattle.cache_shards.specs.declared.shard.Stores.{Stores}
use Rattle.cache_shards.specs.Answers.{Capacities, is_denial, live_at}
use Rattle.cache_shards.specs.Stores.{Held, StoreData}

-- the entry of a key, where it is live
abbrev pub live_in : StoreData → Key → ℕ → Option EntryData
live_in store key now = live_at now (option_map arc_value (lookup (same_key key) store.entries))

abbrev pub promoted_in : StoreData → Key → StoreData
promoted_in store key = lru_cache (promoted (same_key key) store.entries) store.cap

abbrev pub put_in : StoreData → Key → Held → StoreData
put_in store key entry = lru_cache (put_entries same_key store key entry) store.cap

-- a look at a store: a live entry becomes the last used
abbrev pub Looks : StoreData → Key → ℕ → Found → StoreData → Type 0
Looks store key now (found.Hit entry) new =
    (live_in store key now ≡ Some (arc_value entry)) × (new ≡ promoted_in store key)
Looks store key now found.Nothing new = (live_in store key now ≡ None) × (new ≡ store)
Looks store key now found.NoMemory new = new ≡ store

abbrev pub Puts : StoreData → Key → Held → Kept → StoreData → Type 0
Puts store key entry kept.Kept new = new ≡ put_in store key entry
Puts store key entry kept.NoMemory new = new ≡ store

-- a hit in the store that is asked first, or in the other one where the first has nothing
abbrev pub Hits : Stores → Key → ℕ → Held → Stores → Type 0
Hits x key now entry y =
    ((live_in x.denial key now ≡ Some (arc_value entry))
    × (y ≡ record x { denial = promoted_in x.denial key }))
    ⊎ ((live_in x.denial key now ≡ None) × (live_in x.success key now ≡ Some (arc_value entry))
    × (y ≡ record x { success = promoted_in x.success key }))

abbrev pub Gets : Stores → Key → ℕ → ShardReply → Stores → Type 0
Gets x key now (reply.Hit entry) y = Hits x key now entry y
Gets x key now reply.Miss y =
    (live_in x.denial key now ≡ None) × (live_in x.success key now ≡ None) × (y ≡ x)
Gets x key now reply.Kept y = ⊥
Gets x key now reply.NoMemory y = y ≡ x

-- an entry is put into the store of its class
abbrev pub PutsIn : Stores → Key → Held → ShardReply → Stores → Type 0
PutsIn x key entry reply.Kept y = MatchBool (is_denial (arc_value entry).class)
    (y ≡ record x { denial = put_in x.denial key entry })
    (y ≡ record x { success = put_in x.success key entry })
PutsIn x key entry reply.NoMemory y = y ≡ x
PutsIn x key entry other y = ⊥

-- what a call does with the stores
abbrev pub Works : Stores → ShardCall → ShardReply → Stores → Type 0
Works x (Get key now) r y = Gets x key now r y
Works x (Put key entry) r y = PutsIn x key entry r y

module _ {J : Type 0} where
  abbrev pub stores_of : Shard J → Stores
  stores_of x = box_value x.stores

  -- a call of a shard
  abbrev pub Steps : Shard J → ShardCall → ShardReply → Shard J → Type 0
  Steps x c r y = (y.judge ≡ x.judge) × Works (stores_of x) c r (stores_of y)

  -- an entry may be put where the judge finds it just
  abbrev pub IsAllowed : (J → EntryData → Type 0) → Shard J → ShardCall → Type 0
  IsAllowed just x (Get key now) = Unit {0}
  IsAllowed just x (Put key entry) = just x.judge.value (arc_value entry)

  pub same_judge : (x : Shard J) (c : ShardCall) (r : ShardReply) (y : Shard J) → Steps x c r y
      → y.judge.value ≡ x.judge.value
  same_judge x c r y h = ap (λ (s : Snapshot J). s.value) h.0

  pub allowed_stays : (just : J → EntryData → Type 0) (x : Shard J) (c : ShardCall)
      (other : ShardCall) (r : ShardReply) (y : Shard J)
      → IsAllowed just x c → Steps x other r y → IsAllowed just y c
  allowed_stays just x (Get key now) other r y a h = tt
  allowed_stays just x (Put key entry) other r y a h =
      subst (λ (j : J). just j (arc_value entry)) (sym (same_judge x other r y h)) a

  -- the shard as a cache begins with it
  pub record IsEmpty (capacities : Capacities) (x : Shard J) : Type 0 where
    pub success : (stores_of x).success ≡ lru_cache [] capacities.success
    pub denial : (stores_of x).denial ≡ lru_cache [] capacities.denial
