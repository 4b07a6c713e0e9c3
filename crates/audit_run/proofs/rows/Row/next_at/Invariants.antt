use Rattle.std.proofs.Common.{◌<◌, ℕ}
use Rattle.audit_run.specs.Rows.{IsNextAt}
use Rattle.audit_run.proofs.rows.Row.next_at.Given as goal

abbrev pub invariant-loop-at : goal.invariant-loop-at
invariant-loop-at l =
    (k : ℕ) → k < l.at → IsNextAt l.self l.mark k → ⊥
