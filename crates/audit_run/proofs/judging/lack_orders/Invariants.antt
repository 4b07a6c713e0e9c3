use Rattle.std.proofs.Common.{◌≡◌, ◌<◌, ℕ, Some, false}
use Rattle.std.specs.Prelude.{slice_get}
use Rattle.audit_run.specs.declared.part.SharedPart.{SharedPart}
use Rattle.audit_run.specs.Judging.{Lacks}
use Rattle.audit_run.proofs.judging.lack_orders.Given as goal

abbrev pub invariant-loop-part : goal.invariant-loop-part
invariant-loop-part l = (k : ℕ) (p : SharedPart) → k < l.part-index
    → slice_get l.parts k ≡ Some p → Lacks l.calls l.orders p false
