use Rattle.std.proofs.Common.{◌≡◌, ◌++◌, drop}
use Rattle.audit_run.specs.Rows.{left_of}
use Rattle.audit_run.proofs.rows.Row.new.Given as goal

abbrev pub invariant-loop-call : goal.invariant-loop-call
invariant-loop-call l =
    l.left.items ++ left_of l.part (drop l.call-index l.calls) ≡ left_of l.part l.calls
