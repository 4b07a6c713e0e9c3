use Rattle.audit_run.specs.Judging.{AreFine}
use Rattle.audit_run.proofs.judging.first_order_fault.Given as goal

abbrev pub invariant-loop-number : goal.invariant-loop-number
invariant-loop-number l = AreFine l.sides l.calls l.parts l.orders l.number
