use Rattle.std.proofs.Common.{◌≡◌, drop}
use Rattle.std.specs.List.{list_any}
use Rattle.audit_run.specs.Judging.{same_part}
use Rattle.audit_run.proofs.judging.stands_again.Given as goal

abbrev pub invariant-loop-other : goal.invariant-loop-other
invariant-loop-other l =
    list_any (same_part l.order) (drop l.other-index l.earlier)
    ≡ list_any (same_part l.order) l.earlier
