use Rattle.std.proofs.Common.{◌≡◌, ◌+◌, sym, subst, ◌∙◌, ◌∷◌, inl, arith, ap, refl}
use Rattle.std.proofs.Common.{length}
use Rattle.std.proofs.lemmas.List.{length-take-le}
use Rattle.outside.specs.declared.mark.Mark.TheVariants.{Got, Pinned}
use Rattle.audit_run.specs.Own.{own_part}
use Rattle.audit_run.specs.Walking.{EndsTurn, HasReplyOr}
use Rattle.audit_run.specs.declared.walk.Tail.TheVariants as tail
use Rattle.audit_run.specs.Walks.{FailsAt, MeansSo}
use Rattle.audit_run.proofs.Turned.{goes_on, has_reply, off_bad, tail_fails}
use Rattle.audit_run.proofs.turning.pinned_turn.Goals as goal

pub returns-in-Err : goal.returns-in-Err
returns-in-Err g c = λ most end w take.
    let all = g.M.TurnMeaning.serves c.args.meaning.now in
    let serves = all c.args.serial c.args.datagram.now in
    let own = c.split_at.ensures.front ∙ c.own_count-count.ensures.own in
    let means = subst (λ l. MeansSo serves l c.in_ok-means.means) own c.in_ok-means.ensures in
    let off = subst (λ r. HasReplyOr serves (own_part c.args.marks.now) c.args.serial r)
    (sym c.in-Err.ensures)
    (has_reply serves (own_part c.args.marks.now) c.args.serial c.in_ok-means.means means) in
    inl (off_bad all most end (g.met.M.TurnMeaning.own c.args.meaning.now) w c.args.datagram.now
    c.args.serial take c.args.marks.now c.in-Err.at off)

pub returns-in-Ends : goal.returns-in-Ends
returns-in-Ends g c = (
  refl,
  λ most end w take.
      let all = g.M.TurnMeaning.serves c.args.meaning.now in
      let serves = all c.args.serial c.args.datagram.now in
      let own = c.split_at.ensures.front ∙ c.own_count-count.ensures.own in
      let behind = c.split_at.ensures.back ∙ c.own_count-count.ensures.behind in
      let means = subst (λ l. MeansSo serves l c.in_ok-means.means) own c.in_ok-means.ensures in
      let has = subst (λ r. HasReplyOr serves (own_part c.args.marks.now) c.args.serial r)
      (sym c.in-Ok.ensures)
      (has_reply serves (own_part c.args.marks.now) c.args.serial c.in_ok-means.means means) in
      goes_on all most end (g.met.M.TurnMeaning.own c.args.meaning.now) w c.args.datagram.now
      c.args.serial take c.args.marks.now c.in-Ok.reply has c.in-Ends.more.now
      (subst (λ l. EndsTurn c.in-Ok.reply c.args.serial l (tail.Ends c.in-Ends.more)) behind
      c.in-Ends.ensures),
)

pub returns : goal.returns
returns g c = λ most end w take.
    let all = g.M.TurnMeaning.serves c.args.meaning.now in
    let serves = all c.args.serial c.args.datagram.now in
    let own = c.split_at.ensures.front ∙ c.own_count-count.ensures.own in
    let behind = c.split_at.ensures.back ∙ c.own_count-count.ensures.behind in
    let means = subst (λ l. MeansSo serves l c.in_ok-means.means) own c.in_ok-means.ensures in
    let has = subst (λ r. HasReplyOr serves (own_part c.args.marks.now) c.args.serial r)
    (sym c.in-Ok.ensures)
    (has_reply serves (own_part c.args.marks.now) c.args.serial c.in_ok-means.means means) in
    let long : length (own_part c.args.marks.now) ≡ c.own_count-count.result =
    ap length (sym c.own_count-count.ensures.own)
    ∙ length-take-le c.own_count-count.result c.args.marks.now c.own_count-count.ensures.within in
    let number : 2 + length (own_part c.args.marks.now) + c.in-Fails.at
    ≡ 2 + c.own_count-count.result + c.in-Fails.at = omega (arith, long) in
    subst (λ n. FailsAt all most end w
    (Got c.args.datagram.now ∷ Pinned c.args.serial ∷ c.args.marks.now) n) number
    (tail_fails all most end (g.met.M.TurnMeaning.own c.args.meaning.now) w c.args.datagram.now
    c.args.serial take c.args.marks.now c.in-Ok.reply has c.in-Fails.at
    (subst (λ l. EndsTurn c.in-Ok.reply c.args.serial l (tail.Fails c.in-Fails.at)) behind
    c.in-Fails.ensures))
