use Rattle.audit_run.specs.Following.{IsUpTo}
use Rattle.audit_run.specs.Parts.{part_marks}
use Rattle.audit_run.proofs.following.follow.Given as goal

abbrev pub invariant-loop-at : goal.invariant-loop-at
invariant-loop-at l =
    IsUpTo (part_marks l.part l.calls) l.part.rule l.sides l.rows.items l.history l.places l.at
