-- How many keys the stores of a shard keep by a plan: an eighth of what the plan says, rounded up.
-- This server's own rule.
use Rattle.plugin_api.specs.{PlanData}
use Rattle.cache_rules.specs.Settings.{settings_of, shard_room}
use Rattle.cache_shards.specs.Answers.{Capacities, capacities_of}

abbrev pub planned_capacities : PlanData → Capacities
planned_capacities plan =
    let settings = settings_of plan.directive in
    capacities_of (shard_room settings.success) (shard_room settings.denial)
