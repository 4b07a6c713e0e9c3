-- The calls of what workers share that a query makes, by the marks that it takes. Where `dns64`
-- runs the rest twice each run's marks tell its own: its query has another key, and may take
-- another pool, since rules of `rewrite` look at the type too. This server's own rule.
use Rattle.std.specs.Prelude.{ℕ, ◌+◌, Bool, true, false, List, [], ◌∷◌, ◌++◌, map, Option, Some}
use Rattle.std.specs.Prelude.{None, slice_get, if◌then◌else◌}
use Rattle.cache_rules.specs.{cache_zones, key_of}
use Rattle.dns_data.specs.declared.block.Block.{Block}
use Rattle.dns_data.specs.declared.query.Query.{Query}
use Rattle.outside.specs.Keys.{shard_of}
use Rattle.outside.specs.Meanings.{Meaning, Done, More, Off}
use Rattle.outside.specs.declared.mark.Mark.{Mark}
use Rattle.forward_plugin.specs.{pool_place}
use Rattle.one_history.specs.Calls.{Call}
use Rattle.one_history.specs.Logs.{Place}
use Rattle.one_history.specs.Runs.{SHARDS}
use Rattle.one_history.specs.Shared.{cache_calls_in, call_at, pool_calls_in}
use Rattle.plugin_api.specs.{picked}
use Rattle.rewrite_plugin.specs.{changed_by}
use Rattle.zone_words.specs.{is_in}
use Rattle.chain_meaning.specs.declared.decision.Decision.{Decision}
use Rattle.chain_meaning.specs.Caching.{taken}
use Rattle.chain_meaning.specs.Mean.{mean}
use Rattle.chain_meaning.specs.Steps.{Step, Errors, Log, Dns64, Cache, Rewrite, Answers}
use Rattle.chain_meaning.specs.Steps.{Forward}
use Rattle.chain_meaning.specs.TranslatingCalls.{dns64_calls}

-- the pool of upstreams that a query takes in a chain, where it takes one: by its name as the rules
-- of `rewrite` make it
abbrev pub pool_in : List Step → Query → Option ℕ
pool_in [] q = None
pool_in (Rewrite ds ∷ steps) q = pool_in steps (changed_by ds q).query
pool_in (Answers (Forward plans) ∷ steps) q = pool_place plans q.name
pool_in (step ∷ steps) q = pool_in steps q

-- the shard of a cache that a query takes in a chain, where it takes one: by its key
abbrev pub shard_in : List Step → Query → Option ℕ
shard_in [] q = None
shard_in (Cache plan ∷ steps) q =
    if is_in q.name (cache_zones plan) then Some (shard_of (key_of q)) else None
shard_in (step ∷ steps) q = shard_in steps q

-- what workers share of a block: the shards of its cache, and its pools of upstreams
pub data Shared : Type 0 where
  Shards : Shared
  Pools : Shared

-- which of them a query takes in a chain, where it takes one
abbrev pub number_in : Shared → List Step → Query → Option ℕ
number_in Shards steps q = shard_in steps q
number_in Pools steps q = pool_in steps q

-- the marks that tell calls of them, in order
abbrev pub told_in : Shared → List Mark → List Mark
told_in Shards marks = cache_calls_in marks
told_in Pools marks = pool_calls_in marks

-- the shards of a cache stand first, and the pools behind them
abbrev pub shard_part : ℕ → ℕ → Place
shard_part block shard = record { block = block; part = shard }

abbrev pub pool_part : ℕ → ℕ → Place
pool_part block pool = record { block = block; part = SHARDS + pool }

-- the shard and the pool that a query takes in a chain
pub record CallNumbers : Type 0 where
  pub shard : Option ℕ
  pub pool : Option ℕ

abbrev pub numbers_in : List Step → Query → CallNumbers
numbers_in steps q = record { shard = shard_in steps q; pool = pool_in steps q }

-- a call of a shard or a pool: its number in the block, and the mark that tells it
pub record NumberedMark : Type 0 where
  pub number : ℕ
  pub mark : Mark

abbrev pub numbered_mark : ℕ → Mark → NumberedMark
numbered_mark number mark = record { number = number; mark = mark }

-- these calls, of the one with this number, where there is one
abbrev pub of_number : Option ℕ → List Mark → List NumberedMark
of_number None calls = []
of_number (Some number) calls = map (numbered_mark number) calls

-- the calls that marks tell which the rest took of these, where it means this
abbrev pub of_rest : (List Mark → List NumberedMark) → List Mark → Meaning Decision
    → List NumberedMark
of_rest calls marks (Done v left) = calls (taken marks left)
of_rest calls marks More = calls marks
of_rest calls marks Off = calls marks

-- those that a query makes in a chain. What stands behind `dns64` is one run.
abbrev pub run_calls : Shared → List Step → Query → List Mark → List NumberedMark
run_calls which [] q marks = of_number (number_in which [] q) (told_in which marks)
run_calls which (Errors ∷ steps) q marks =
    of_rest (λ left. run_calls which steps q left) marks (mean steps q marks)
run_calls which (Log plan ∷ steps) q marks =
    of_rest (λ left. run_calls which steps q left) marks (mean steps q marks)
run_calls which (Dns64 d ∷ steps) q marks =
    dns64_calls (λ p left. run_calls which steps p left) d q (mean steps) marks
run_calls which (step ∷ steps) q marks =
    of_number (number_in which (step ∷ steps) q) (told_in which marks)

-- whether what stands there is one run
abbrev pub runs_once : List Step → Bool
runs_once (Errors ∷ steps) = false
runs_once (Log plan ∷ steps) = false
runs_once (Dns64 d ∷ steps) = false
runs_once steps = true

-- a call in a turn at this serial, of one of those that stand there
abbrev pub call_of : ℕ → (ℕ → Place) → NumberedMark → Call Mark
call_of serial at c = call_at serial (at c.number) c.mark

-- the calls of a turn at this serial whose datagram picked the block with this number
abbrev pub block_calls : ℕ → ℕ → List NumberedMark → List NumberedMark → List (Call Mark)
block_calls serial block shards pools =
    map (call_of serial (shard_part block)) shards ++ map (call_of serial (pool_part block)) pools

abbrev pub chain_calls : List Step → ℕ → ℕ → Query → List Mark → List (Call Mark)
chain_calls steps serial block q marks =
    block_calls serial block (run_calls Shards steps q marks) (run_calls Pools steps q marks)

-- those of a turn at this serial, whose datagram asks so of blocks
module _ (steps : Block → List Step) (blocks : List Block) (serial : ℕ) (q : Query) where
  abbrev pub calls_by : ℕ → Option Block → List Mark → List (Call Mark)
  calls_by number None marks = []
  calls_by number (Some block) marks = chain_calls (steps block) serial number q marks

  abbrev pub picked_calls : Option ℕ → List Mark → List (Call Mark)
  picked_calls None marks = []
  picked_calls (Some number) marks = calls_by number (slice_get blocks number) marks

  abbrev pub turn_calls : List Mark → List (Call Mark)
  turn_calls marks = picked_calls (picked blocks q.local q.name) marks
