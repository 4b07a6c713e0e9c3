-- Which entries may stand in the cache of a block: those that repeat what stands behind it.
use Rattle.std.specs.Prelude.{◌≡◌, Option, Some}
use Rattle.block_readings.specs.Readings.{BlockReading, block_reading}
use Rattle.block_readings.specs.Behind.{steps_behind}
use Rattle.chain_meaning.specs.Caching.{Justified}
use Rattle.chain_meaning.specs.Mean.{mean}
use Rattle.chain_meaning.specs.Steps.{cache_plan, key_zones}
use Rattle.outside.specs.{EntryData}
use Rattle.plugin_api.specs.{PlanData}
use Rattle.lent_caches.specs.declared.judge.BlockJudge.{BlockJudge}

-- the directive `cache` of a block of this reading
abbrev pub plan_read : BlockReading → Option PlanData
plan_read reading = cache_plan (key_zones reading.block) reading.block.directives

-- an entry repeats what stands behind the cache of all blocks of this reading
pub record IsJustBy (reading : BlockReading) (entry : EntryData) : Type 0 where
  pub plan : PlanData
  pub is : plan_read reading ≡ Some plan
  pub just : Justified (mean (steps_behind reading)) plan entry

abbrev pub judge_reading : BlockJudge → BlockReading
judge_reading judge = block_reading judge.files.value judge.block.value

abbrev pub is_just : BlockJudge → EntryData → Type 0
is_just judge entry = IsJustBy (judge_reading judge) entry
