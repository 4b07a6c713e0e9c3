use Rattle.std.proofs.Common.{length}
use Rattle.audit_run.specs.Walking.{IsAt}
use Rattle.audit_run.proofs.side_judging.walk_along.Given as goal

abbrev pub invariant-loop-first : goal.invariant-loop-first
invariant-loop-first g l =
    IsAt (g.M.TurnMeaning.serves l.meaning) l.most l.end l.marks l.walk l.rest

abbrev pub decreases-loop-first : goal.decreases-loop-first
decreases-loop-first g l = length l.rest
