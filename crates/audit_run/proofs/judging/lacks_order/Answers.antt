use Rattle.std.proofs.Common.{sym, ◌∙◌}
use Rattle.audit_run.proofs.Followed.{lacks}
use Rattle.audit_run.proofs.judging.lacks_order.Goals as goal

pub returns : goal.returns
returns c =
    lacks c.args.part.now c.args.calls.now c.args.orders.now c.deref.result.now c.are_empty.result
    (c.deref.ensures.value ∙ c.in_ok-rows.ensures) c.are_empty.ensures (sym c.if-has_order.ensures)
