-- What calls of a cache take, and what they leave in the log of its use.
use Rattle.std.specs.Prelude.{◌≡◌, List, [], Option, Some, None, Result, Ok, Err, IsErr}
use Rattle.std.specs.Arc.{arc_value}
use Rattle.dns_lists.specs.declared.memory.NoMemory.{NoMemory}
use Rattle.cache_shards.specs.declared.calls.Looked.{Looked}
use Rattle.cache_shards.specs.declared.calls.Looked.TheVariants as gets
use Rattle.outside.specs.{EntryData}
use Rattle.outside.specs.Keys.{shard_of}
use Rattle.outside.specs.Meanings.{Meaning}
use Rattle.outside.specs.States.{SideState}
use Rattle.outside.specs.Taking.{Takes}
use Rattle.outside.specs.declared.entry.Key.{Key}
use Rattle.outside.specs.declared.mark.Mark.{Mark}
use Rattle.one_history.specs.Shared.{Logged, cache_calls_in, pool_calls_in}
use Rattle.chain_meaning.specs.Caching.{Look, look_of}
use Rattle.cache_plugin.specs.declared.cache_use.Found.{Found}
use Rattle.cache_plugin.specs.declared.cache_use.Found.TheVariants as found

-- a side, and the log of a use of a cache
pub record CacheState : Type 0 where
  pub side : SideState
  pub logs : List (List Mark)

abbrev pub state_at : SideState → List (List Mark) → CacheState
state_at side logs = record { side = side; logs = logs }

-- it took so, and called the shard of this key as its marks tell, and no pool
pub record CallsBy {A : Type 0} (key : Key) (means : List Mark → Meaning A)
    (result : Result A NoMemory) (old new : CacheState) : Type 0 where
  pub takes : Takes means result old.side new.side
  pub logged : Logged (Some (shard_of key)) (cache_calls_in takes.marks) old.logs new.logs
  pub apart : pool_calls_in takes.marks ≡ []

-- what was found, and when
abbrev pub looked : Found → Look
looked (found.Hit entry moment) = look_of moment (Some (arc_value entry))
looked (found.Miss missed) = look_of missed.moment None

abbrev pub look_result : Result Found NoMemory → Result Look NoMemory
look_result (Ok found) = Ok (looked found)
look_result (Err e) = Err e

abbrev pub entry_found : Result Found NoMemory → Result (Option EntryData) NoMemory
entry_found (Ok found) = Ok (looked found).entry
entry_found (Err e) = Err e

-- that a get answered so
abbrev pub IsEntryFound : Looked → Result (Option EntryData) NoMemory → Type 0
IsEntryFound (gets.Hit entry) result = result ≡ Ok (Some (arc_value entry))
IsEntryFound gets.Miss result = result ≡ Ok None
IsEntryFound gets.NoMemory result = IsErr result

-- what is missed is missed under this key
abbrev pub MissesBy : Key → Found → Type 0
MissesBy key (found.Hit entry moment) = Unit {0}
MissesBy key (found.Miss missed) = missed.key ≡ key
