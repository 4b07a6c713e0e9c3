use Rattle.std.proofs.Common.{◌≡◌, ◌++◌, ◌-◌, length, map, take, drop}
use Rattle.rewrite_plugin.specs.Answers.{with_ttl}
use Rattle.rewrite_plugin.proofs.restoring.set_ttls.Given as goal

abbrev pub invariant-loop-index : goal.invariant-loop-index
invariant-loop-index l =
    take l.index l.section ++ map (with_ttl l.ttl) (drop l.index l.section) ≡ map (with_ttl l.ttl) l.fn.section

abbrev pub decreases-loop-index : goal.decreases-loop-index
decreases-loop-index l = length l.section - l.index
