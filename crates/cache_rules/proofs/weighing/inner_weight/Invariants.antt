use Rattle.std.proofs.Common.{◌≡◌, ◌+◌, ◌-◌, ◌^◌, ◌≤◌, drop}
use Rattle.outside.specs.Weight.{inner_weight}
use Rattle.cache_rules.specs.Weight.{until}
use Rattle.cache_rules.proofs.weighing.inner_weight.Given as goal

abbrev pub invariant-loop-mark : goal.invariant-loop-mark
invariant-loop-mark l =
    (until (l.weight + inner_weight (drop l.mark-index l.marks)) ≡ until (inner_weight l.marks)) × (l.weight ≤ 2 ^ 64 - 1)
