use Rattle.std.proofs.Common.{◌≡◌, false, take}
use Rattle.audit_run.specs.Rows.{has_serial}
use Rattle.audit_run.proofs.rows.Row.has_before.Given as goal

abbrev pub invariant-loop-before : goal.invariant-loop-before
invariant-loop-before l = has_serial l.serial (take l.before l.self-inside.left.items) ≡ false
