use Rattle.std.proofs.Common.{length, false, refl, subst, arith}
use Rattle.std.proofs.lemmas.Option.{slice_get_read, slice_get_within}
use Rattle.audit_run.specs.Judging.{Lacks}
use Rattle.audit_run.proofs.Followed.{each_more}
use Rattle.audit_run.proofs.judging.lack_orders.Goals as goal

pub returns-then-branch : goal.returns-then-branch
returns-then-branch c = record {
  number = c.loop-part.part-index;
  part = c.part-item.result;
  is = slice_get_read c.args.parts.now (length c.args.parts.now) c.loop-part.part-index
      c.part-item.result refl c.loop-part-test.true c.part-item.is;
  lacks = subst (λ b. Lacks c.args.calls.now c.args.orders.now c.part-item.result b)
      c.if-branch.true c.in_ok-lacks_order.ensures;
}

pub loop-part-preserved : goal.loop-part-preserved
loop-part-preserved c =
    each_more (λ p. Lacks c.args.calls.now c.args.orders.now p false) c.args.parts.now
    c.loop-part.part-index c.part-item.result
    (slice_get_read c.args.parts.now (length c.args.parts.now) c.loop-part.part-index
    c.part-item.result refl c.loop-part-test.true c.part-item.is)
    (subst (λ b. Lacks c.args.calls.now c.args.orders.now c.part-item.result b)
    c.if-branch.false c.in_ok-lacks_order.ensures)
    c.loop-part.invariant

pub returns : goal.returns
returns c = λ k p at.
    let low = slice_get_within c.args.parts.now k p at in
    c.loop-part.invariant k p (omega (arith, low, c.loop-part-test.false)) at
