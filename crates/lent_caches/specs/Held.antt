-- What is seen of the caches that are held, and of uses that are out. This server's own rule.
use Rattle.std.specs.Prelude.{◌≡◌, ◌<◌, ◌⊎◌, ℕ, ◌+◌, ◌-◌, nat_eq, true, false, List, [], ◌∷◌}
use Rattle.std.specs.Prelude.{◌++◌, map, slice_index_or}
use Rattle.std.specs.Prelude.{if◌then◌else◌}
use Rattle.cache_shards.specs.Answers.{Capacities, IsLegal}
use Rattle.cache_shards.specs.Seats.{CacheData, ShardView, logs, met_marks}
use Rattle.one_history.specs.Runs.{SHARDS}
use Rattle.outside.specs.declared.mark.Mark.{Mark}
use Rattle.ruled_lock.specs.Shuffles.{MergesTo, filled}
use Rattle.lent_caches.specs.Names.{same_name}
use Rattle.lent_caches.specs.declared.name.CacheName.{CacheName}
use Rattle.lent_caches.specs.declared.judge.BlockJudge.{BlockJudge}
use Rattle.lent_caches.specs.declared.uses.TheConstants.{PARTS}
use Rattle.lent_caches.specs.declared.caches.Caches.{Caches}
use Rattle.lent_caches.specs.declared.uses.LentCache.{LentCache}
use Rattle.lent_caches.specs.declared.uses.HeldCache.{HeldCache}

-- a cache: its judge, its capacities, and which locks it has
abbrev pub CacheOf : Type 0
CacheOf = CacheData BlockJudge

-- the marks of a use, shard by shard
abbrev pub Logs : Type 0
Logs = ℕ → List Mark

-- and those of several, shard by shard
abbrev pub AllLogs : Type 0
AllLogs = ℕ → List (List Mark)

-- a cache that is held: its name, which one it is, how many uses are out, and at each shard the
-- marks of each use that came back and made some there
pub record HeldData : Type 0 where
  pub name : CacheName
  pub cache : CacheOf
  pub out : ℕ
  pub logs : AllLogs

-- a use that is out: of which cache, and its marks
pub record LentData : Type 0 where
  pub name : CacheName
  pub cache : CacheOf
  pub log : Logs

abbrev pub log_in : List (ShardView BlockJudge) → Logs
log_in views shard = slice_index_or (logs views) shard []

abbrev pub met_in : List (ShardView BlockJudge) → ℕ → List (List Mark)
met_in views shard = slice_index_or (map met_marks views) shard []

abbrev pub held_data : HeldCache → HeldData
held_data h = record {
  name = h.name;
  cache = h.rest.cache;
  out = h.out;
  logs = λ shard. filled (met_in h.rest.views shard);
}

abbrev pub lent_data : LentCache → LentData
lent_data u = record { name = u.name; cache = u.of.cache; log = log_in u.of.views }

-- one use more is out
abbrev pub lent_to : HeldData → HeldData
lent_to h = record h { out = h.out + 1 }

-- no mark at any shard
abbrev pub no_log : Logs
no_log shard = []

-- the use that it gives has made no call
abbrev pub use_of : HeldData → LentData
use_of h = record { name = h.name; cache = h.cache; log = no_log }

-- more logs, each behind those of its shard
abbrev pub with_logs : AllLogs → AllLogs → AllLogs
with_logs logs more shard = logs shard ++ more shard

-- those of one use, where it made a call
abbrev pub one_log : Logs → AllLogs
one_log log shard = filled (log shard ∷ [])

-- a use came back
abbrev pub with_log : LentData → HeldData → HeldData
with_log u h = record h { out = h.out - 1; logs = with_logs h.logs (one_log u.log) }

-- what is seen of all that are held
abbrev pub caches_data : Caches → List HeldData
caches_data caches = map held_data caches.held.items

-- no cache of this name is held
abbrev pub IsAbsent : CacheName → List HeldData → Type 0
IsAbsent name [] = Unit {0}
IsAbsent name (h ∷ hs) = (same_name h.name name ≡ false) × IsAbsent name hs

-- no two have the same name
abbrev pub AreApart : List HeldData → Type 0
AreApart [] = Unit {0}
AreApart (h ∷ hs) = IsAbsent h.name hs × AreApart hs

-- the cache of the use is held under its name
abbrev pub IsHeldAs : LentData → List HeldData → Type 0
IsHeldAs u [] = ⊥
IsHeldAs u (h ∷ hs) = ((same_name h.name u.name ≡ true) × (u.cache ≡ h.cache)) ⊎ IsHeldAs u hs

-- a cache of this name is held, and has a part to give
abbrev pub CanLend : CacheName → List HeldData → Type 0
CanLend name [] = ⊥
CanLend name (h ∷ hs) =
    ((same_name h.name name ≡ true) × (h.out + 1 < PARTS)) ⊎ CanLend name hs

-- f of a cache with this name
abbrev pub at_name : CacheName → (HeldData → HeldData) → HeldData → HeldData
at_name name f h = if same_name h.name name then f h else h

-- a use came back to the cache of its name
abbrev pub given_back : LentData → List HeldData → List HeldData
given_back u held = map (at_name u.name (with_log u)) held

-- uses came back, one after another
abbrev pub given_all : List LentData → List HeldData → List HeldData
given_all [] held = held
given_all (u ∷ us) held = given_all us (given_back u held)

-- a use was lent by the cache of this name
abbrev pub lent_one : CacheName → List HeldData → List HeldData
lent_one name held = map (at_name name lent_to) held

-- a new use at the cache of a name
pub record IsNewUse (name : CacheName) (held : List HeldData) (u : LentData) : Type 0 where
  pub name_is : u.name ≡ name
  pub none : u.log ≡ no_log
  pub of : IsHeldAs u held

-- those of which uses are out
abbrev pub stays : List HeldData → List HeldData
stays [] = []
stays (h ∷ hs) = if nat_eq h.out 0 then stays hs else h ∷ stays hs

-- one list has all these marks, each once, in the order of each use's; and it is legal from the
-- empty shard
pub record IsOneLog (capacities : Capacities) (lists : List (List Mark)) : Type 0 where
  pub all : List Mark
  pub merges : MergesTo lists all
  pub legal : IsLegal capacities all

-- that is so of each shard
abbrev pub IsWhole : CacheOf → AllLogs → Type 0
IsWhole cache logs = (shard : ℕ) → shard < SHARDS → IsOneLog cache.capacities (logs shard)

-- and of each cache of which no use is out
abbrev pub AreWhole : List HeldData → Type 0
AreWhole [] = Unit {0}
AreWhole (h ∷ hs) = (nat_eq h.out 0 ≡ true → IsWhole h.cache h.logs) × AreWhole hs
