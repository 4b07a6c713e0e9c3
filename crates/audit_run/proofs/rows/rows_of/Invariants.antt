use Rattle.std.proofs.Common.{◌≡◌, ◌++◌, drop, map}
use Rattle.audit_run.specs.Rows.{left_of}
use Rattle.audit_run.proofs.rows.rows_of.Given as goal

abbrev pub invariant-loop-own : goal.invariant-loop-own
invariant-loop-own l =
    l.rows.items ++ map (λ own. left_of l.part own) (drop l.own-index l.calls)
    ≡ map (λ own. left_of l.part own) l.calls
