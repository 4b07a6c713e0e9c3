use Rattle.std.proofs.Common.{◌≡◌, ◌+◌, ◌-◌, ◌^◌, ◌≤◌, drop}
use Rattle.cache_rules.specs.Weight.{records_weight, until}
use Rattle.cache_rules.proofs.weighing.records_weight.Given as goal

abbrev pub invariant-loop-entry : goal.invariant-loop-entry
invariant-loop-entry l =
    (until (l.weight + records_weight (drop l.entry-index l.records)) ≡ until (records_weight l.records)) × (l.weight ≤ 2 ^ 64 - 1)
