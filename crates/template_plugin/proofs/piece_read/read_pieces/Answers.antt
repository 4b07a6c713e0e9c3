use Rattle.std.proofs.Common.{◌≤◌, ◌∙◌, length, sym, ap, arith}
use Rattle.template_plugin.proofs.Cutting.{joined, joined-place, pieces-end}
use Rattle.template_plugin.proofs.piece_read.read_pieces.Goals as goal

pub loop-front-preserved : goal.loop-front-preserved
loop-front-preserved c =
    let less : length c.in-Some-cut_twice.after.now ≤ length c.loop-front.rest.now = omega (arith, c.in-Some.ensures.shorter, c.in-Some-cut_twice.ensures.shorter) in
    let is = joined-place c.loop-front.pieces c.loop-front.rest.now c.in-Some.front.now c.in-Some.behind.now c.in-Some-cut_twice.inside.now c.in-Some-cut_twice.after.now c.in-Some-2.place
    (sym c.in-Some.ensures.cut) (sym c.in-Some-cut_twice.ensures.cut) less (sym c.in_ok-place.ensures ∙ c.in-Some-2.is) in
    rw (c.in_ok-push-2.ensures.ok, c.in_ok-push.ensures.ok, c.in_ok-from_slice.ensures) (is ∙ c.loop-front.invariant)

pub returns : goal.returns
returns c =
    let end = ap (joined c.loop-front.pieces) (pieces-end c.loop-front.rest.now (sym c.in_default.ensures.cut)) in
    rw (c.in_ok-push-3.ensures.ok, c.in_ok-from_slice-2.ensures) (sym end ∙ c.loop-front.invariant)
