-- What the parts of a walk do, with the log that grows by it.
use Rattle.std.specs.Prelude.{◌≡◌, ℕ, List, [], map, Option, Result}
use Rattle.dns_lists.specs.declared.memory.NoMemory.{NoMemory}
use Rattle.forward_plugin.specs.declared.pool_use.PoolUse.{PoolUse}
use Rattle.outside.specs.Meanings.{Meaning}
use Rattle.outside.specs.States.{SideState}
use Rattle.outside.specs.Taking.{Asks, Takes}
use Rattle.outside.specs.declared.kept.Kept.{Kept}
use Rattle.outside.specs.declared.mark.Mark.{Mark}
use Rattle.outside.specs.declared.mark.Mark.TheVariants.{Inner}
use Rattle.one_history.specs.Calls.{Call}
use Rattle.one_history.specs.Logs.{GrowsBy}
use Rattle.one_history.specs.Shared.{Logged, cache_calls_in, pool_calls_in}
use Rattle.dns_data.specs.declared.directive.Directive.{Directive}
use Rattle.dns_data.specs.declared.query.Query.{Query}
use Rattle.chain_meaning.specs.CallsByRun.{CallNumbers, NumberedMark, Shared, run_calls}
use Rattle.chain_meaning.specs.Mean.{mean}
use Rattle.chain_meaning.specs.Steps.{Step}
use Rattle.chain_meaning.specs.TranslatingCalls.{dns64_calls, pointed_calls}
use Rattle.pin_table.specs.{Grows}
use Rattle.chain_build.specs.Logs.{LogShape, LoggedCalls, logs_of, pool_logs, shard_logs}
use Rattle.chain_build.specs.declared.block_uses.BlockUses.{BlockUses}

-- a side, what is kept of its inner marks, and a block's pools
pub record AskState : Type 0 where
  pub side : SideState
  pub kept : Kept
  pub pools : List PoolUse

abbrev pub asking : SideState → Kept → List PoolUse → AskState
asking side kept pools = record { side = side; kept = kept; pools = pools }

-- it asked so, and called the pool with this number, if any, as its marks tell
pub record AsksBy {A : Type 0} (pool : Option ℕ) (means : List Mark → Meaning A)
    (result : Result A NoMemory) (old new : AskState) : Type 0 where
  pub asks : Asks means result old.side new.side old.kept new.kept
  pub logged : Logged pool (pool_calls_in (map Inner asks.inners)) (pool_logs old.pools)
      (pool_logs new.pools)

-- a side, and a block's uses of what workers share
pub record TakeState : Type 0 where
  pub side : SideState
  pub uses : BlockUses

abbrev pub taking : SideState → BlockUses → TakeState
taking side uses = record { side = side; uses = uses }

-- a block's uses have grown by the calls that these marks tell, all at these numbers
pub record UsesLogged (numbers : CallNumbers) (marks : List Mark) (old new : BlockUses) : Type 0
  where
    pub pools : Logged numbers.pool (pool_calls_in marks) (pool_logs old.pools)
        (pool_logs new.pools)
    pub shards : Logged numbers.shard (cache_calls_in marks) (shard_logs old.cache)
        (shard_logs new.cache)

-- it took so, and called the shard and the pool with these numbers, if any, as its marks tell
pub record TakesBy {A : Type 0} (numbers : CallNumbers) (means : List Mark → Meaning A)
    (result : Result A NoMemory) (old new : TakeState) : Type 0 where
  pub takes : Takes means result old.side new.side
  pub logged : UsesLogged numbers takes.marks old.uses new.uses

-- the calls that a query makes in a chain, by what is called, and by the marks that it takes; those
-- of both runs behind `dns64`; and those of a run for another name
abbrev pub Runs : Type 0
Runs = Shared → List Mark → List NumberedMark

abbrev pub chain_runs : List Step → Query → Runs
chain_runs steps q shared marks = run_calls shared steps q marks

abbrev pub dns64_runs : List Step → Directive → Query → Runs
dns64_runs steps d q shared marks = dns64_calls (run_calls shared steps) d q (mean steps) marks

abbrev pub pointed_runs : List Step → Directive → Query → Option Query → Runs
pointed_runs steps d q inner shared marks = pointed_calls (run_calls shared steps) d q inner marks

-- it took so, and called what workers share as its marks tell, run by run
pub record TakesCalls {A : Type 0} (calls : Runs) (means : List Mark → Meaning A)
    (result : Result A NoMemory) (old new : TakeState) : Type 0 where
  pub takes : Takes means result old.side new.side
  pub logged : (shared : Shared) → LoggedCalls (calls shared takes.marks)
      (logs_of shared old.uses) (logs_of shared new.uses)

-- it took so, and called nothing that workers share
pub record TakesQuietly {A : Type 0} (means : List Mark → Meaning A) (result : Result A NoMemory)
    (old new : SideState) : Type 0 where
  pub takes : Takes means result old new
  pub pools : pool_calls_in takes.marks ≡ []
  pub shards : cache_calls_in takes.marks ≡ []

-- a side, and a chain's log
pub record ServeState : Type 0 where
  pub side : SideState
  pub log : List (List Mark)

abbrev pub serving : SideState → List (List Mark) → ServeState
serving side log = record { side = side; log = log }

-- it took so, and the log has grown by these calls, which its marks tell
pub record TakesAt {A : Type 0} (shape : LogShape) (calls : List Mark → List (Call Mark))
    (means : List Mark → Meaning A) (result : Result A NoMemory) (old new : ServeState) : Type 0
  where
    pub takes : Takes means result old.side new.side
    pub grown : GrowsBy shape.places shape.serial (calls takes.marks) old.log new.log
    pub follows : Grows old.log new.log
