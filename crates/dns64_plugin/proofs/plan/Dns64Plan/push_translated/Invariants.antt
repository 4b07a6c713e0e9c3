use Rattle.std.proofs.Common.{◌≡◌, ◌++◌, length, map}
use Rattle.dns64_plugin.specs.Dns64.{translated}
use Rattle.dns64_plugin.proofs.plan.Dns64Plan.push_translated.Given as goal

abbrev pub invariant-loop-entry : goal.invariant-loop-entry
invariant-loop-entry l = l.out ++ map (translated l.self l.bound) l.rest ≡ l.fn.out ++ map (translated l.self l.bound) l.fn.records

abbrev pub decreases-loop-entry : goal.decreases-loop-entry
decreases-loop-entry l = length l.rest
