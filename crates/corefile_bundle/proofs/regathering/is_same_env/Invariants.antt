use Rattle.std.proofs.Common.{◌≡◌, ◌↔◌, length}
use Rattle.corefile_bundle.proofs.regathering.is_same_env.Given as goal

abbrev pub invariant-loop-first : goal.invariant-loop-first
invariant-loop-first l = (l.a ≡ l.b) ↔ (l.fn.a ≡ l.fn.b)

abbrev pub decreases-loop-first : goal.decreases-loop-first
decreases-loop-first l = length l.a
