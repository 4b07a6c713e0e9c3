use Rattle.audit_run.proofs.Judged.{tells}
use Rattle.audit_run.proofs.judging.judge_orders.Goals as goal

pub returns-clause-tells : goal.returns-clause-tells
returns-clause-tells c =
    tells c.args.sides.now c.args.calls.now c.args.parts.now c.args.orders.now
    c.first_order_fault.result c.first_order_fault.ensures
