use Rattle.std.proofs.Common.{◌∷◌, ◌+◌, sym, subst, ◌<◌, ◌≤◌, ◌∙◌, arith}
use Rattle.audit_run.specs.Walking.{StepsSo, TurnsSo, behind_datagram}
use Rattle.audit_run.specs.Walks.{FailsAt, GoesOn}
use Rattle.audit_run.specs.declared.walk.Walk.{Walk}
use Rattle.audit_run.proofs.Sided.{end_steps, failed_goes, none_pinned, not_taken, other_bad}
use Rattle.audit_run.proofs.Sided.{past_limit, past_most, past_row}
use Rattle.audit_run.proofs.side_judging.step.Goals as goal

pub returns-then-most-walk : goal.returns-then-most-walk
returns-then-most-walk g c =
    past_most (g.M.TurnMeaning.serves c.args.meaning.now) c.args.most c.args.end c.args.walk.now
    c.args.marks.0.now c.args.marks.1.now c.requires c.if-most-walk.true

pub returns-then-walk-ge-FAILURES : goal.returns-then-walk-ge-FAILURES
returns-then-walk-ge-FAILURES g c =
    past_row (g.M.TurnMeaning.serves c.args.meaning.now) c.args.most c.args.end c.args.walk.now
    c.args.marks.0.now c.args.marks.1.now c.requires c.if-walk-ge-FAILURES.true

pub returns-then-row_limit-walk : goal.returns-then-row_limit-walk
returns-then-row_limit-walk g c =
    let serves = g.M.TurnMeaning.serves c.args.meaning.now in
    subst (λ m. FailsAt serves c.args.most c.args.end c.args.walk.now (m ∷ c.args.marks.1.now) 0)
    (sym c.in-RecvFailed.is)
    (past_limit serves c.args.most c.args.end c.args.walk.now c.args.marks.1.now c.requires
    (subst (λ n. n ≤ c.args.walk.now.row) c.row_limit.ensures c.if-row_limit-walk.true))

pub returns-else-row_limit-walk : goal.returns-else-row_limit-walk
returns-else-row_limit-walk g c =
    let serves = g.M.TurnMeaning.serves c.args.meaning.now in
    let w = c.args.walk.now in
    let v : Walk = record { taken = w.taken; row = w.row + 1; last = w.last } in
    subst (λ m. GoesOn serves c.args.most c.args.end w (m ∷ c.args.marks.1.now) v c.args.marks.1.now)
    (sym c.in-RecvFailed.is)
    (failed_goes serves c.args.most c.args.end w c.args.marks.1.now c.if-most-walk.false
    c.if-walk-ge-FAILURES.false
    (subst (λ n. w.row < n) c.row_limit.ensures c.if-row_limit-walk.false))

pub returns-in-RecvEnd : goal.returns-in-RecvEnd
returns-in-RecvEnd g c =
    let serves = g.M.TurnMeaning.serves c.args.meaning.now in
    let w = c.args.walk.now in
    subst (λ m. StepsSo serves c.args.most c.args.end w (m ∷ c.args.marks.1.now) w c.ended.result)
    (sym c.in-RecvEnd.is)
    (end_steps serves c.args.most c.args.end w c.args.marks.1.now w c.requires c.if-most-walk.false
    c.if-walk-ge-FAILURES.false c.ended.result c.ended.ensures)

pub returns-in-Goes : goal.returns-in-Goes
returns-in-Goes g c =
    let serves = g.M.TurnMeaning.serves c.args.meaning.now in
    let w = c.args.walk.now in
    subst (λ m. GoesOn serves c.args.most c.args.end w (m ∷ c.args.marks.1.now)
    (behind_datagram w c.in-Goes.serial) c.in-Goes.more.now) (sym c.in-Got.is)
    (subst (λ s. TurnsSo serves c.args.most c.args.end w c.in-Got.datagram c.args.marks.1.now s)
    c.in-Goes.is
    (c.in_ok-serial-in-Got.ensures c.args.most c.args.end (record {
      more = c.if-most-walk.false;
      few = c.if-walk-ge-FAILURES.false;
      low = omega arith;
      behind = sym c.may_take.ensures ∙ c.if-not-may_take.false;
    })))

pub returns-in-Fails : goal.returns-in-Fails
returns-in-Fails g c =
    let serves = g.M.TurnMeaning.serves c.args.meaning.now in
    let w = c.args.walk.now in
    subst (λ m. FailsAt serves c.args.most c.args.end w (m ∷ c.args.marks.1.now) c.in-Fails.at)
    (sym c.in-Got.is)
    (subst (λ s. TurnsSo serves c.args.most c.args.end w c.in-Got.datagram c.args.marks.1.now s)
    c.in-Fails.is
    (c.in_ok-serial-in-Got.ensures c.args.most c.args.end (record {
      more = c.if-most-walk.false;
      few = c.if-walk-ge-FAILURES.false;
      low = omega arith;
      behind = sym c.may_take.ensures ∙ c.if-not-may_take.false;
    })))

pub returns-in_default : goal.returns-in_default
returns-in_default g c =
    other_bad (g.M.TurnMeaning.serves c.args.meaning.now) c.args.most c.args.end c.args.walk.now
    c.args.marks.0.now c.args.marks.1.now c.requires c.in_default.not-Got c.in_default.not-RecvFailed
    c.in_default.not-RecvEnd

pub returns-then-not-may_take : goal.returns-then-not-may_take
returns-then-not-may_take g c =
    let serves = g.M.TurnMeaning.serves c.args.meaning.now in
    let w = c.args.walk.now in
    subst (λ m. FailsAt serves c.args.most c.args.end w (m ∷ c.args.marks.1.now) 0)
    (sym c.in-Got.is)
    (not_taken serves c.args.most c.args.end w c.in-Got.datagram c.args.marks.1.now c.requires
    c.if-most-walk.false (sym c.may_take.ensures ∙ c.if-not-may_take.true))

pub returns-then-count-walk : goal.returns-then-count-walk
returns-then-count-walk g c =
    let serves = g.M.TurnMeaning.serves c.args.meaning.now in
    let w = c.args.walk.now in
    subst (λ m. FailsAt serves c.args.most c.args.end w (m ∷ c.args.marks.1.now) 0)
    (sym c.in-Got.is)
    (none_pinned serves c.args.most c.args.end w c.in-Got.datagram c.args.marks.1.now
    (g.M.TurnMeaning.published c.args.meaning.now) c.requires
    (g.met.M.TurnMeaning.within c.args.meaning.now)
    (subst (λ n. n ≤ w.last) c.count.ensures c.if-count-walk.true))
