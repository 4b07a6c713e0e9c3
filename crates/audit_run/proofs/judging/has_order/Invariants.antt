use Rattle.std.proofs.Common.{◌≡◌, drop}
use Rattle.audit_run.specs.Judging.{has_order}
use Rattle.audit_run.proofs.judging.has_order.Given as goal

abbrev pub invariant-loop-order : goal.invariant-loop-order
invariant-loop-order l =
    has_order (drop l.order-index l.orders) l.part ≡ has_order l.orders l.part
