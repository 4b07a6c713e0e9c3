use Rattle.std.proofs.Common.{◌≡◌, ◌++◌, ◌-◌, length, map, take, drop}
use Rattle.std.specs.Prelude.{IfSome}
use Rattle.rewrite_plugin.specs.Answers.{owned_or, replaced_name}
use Rattle.rewrite_plugin.proofs.restoring.rename_owners.Given as goal

abbrev pub invariant-loop-index : goal.invariant-loop-index
invariant-loop-index l =
    (take l.index l.section ++ map (λ r. owned_or r (replaced_name l.replacing r.owner)) (drop l.index l.section)
    ≡ map (λ r. owned_or r (replaced_name l.replacing r.owner)) l.fn.section)
    × IfSome l.last (λ known. known.to ≡ replaced_name l.replacing known.from)

abbrev pub decreases-loop-index : goal.decreases-loop-index
decreases-loop-index l = length l.section - l.index
