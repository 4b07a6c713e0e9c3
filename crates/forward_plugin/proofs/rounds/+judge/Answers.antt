use Rattle.std.proofs.Common.{◌-◌, sym, ◌∙◌}
use Rattle.outside.specs.Meanings.{onward}
use Rattle.forward_plugin.specs.Forward.{judge, take_more}
use Rattle.forward_plugin.proofs.CallLaws.{behind, fails, nothing, renamed, starved}
use Rattle.forward_plugin.proofs.Judging.{try_answer-err, is-agreed, is-other, judge-agreed, judge-ends, judge-goes, judge-last, judge-nothing}
use Rattle.forward_plugin.proofs.rounds.+judge.Goals as goal

pub returns-in_err-agreed_in : goal.returns-in_err-agreed_in
returns-in_err-agreed_in g t c =
    starved (judge c.args.most c.args.asked.now.word c.args.asked.now.query.now c.args.outcome.now) (try_answer-err _ _ c.from_residual.ensures.0) (judge-nothing _ _ _ _)

pub returns-then-branch : goal.returns-then-branch
returns-then-branch g t c =
    nothing (judge c.args.most c.args.asked.now.word c.args.asked.now.query.now c.args.outcome.now)
    (judge-agreed _ _ _ _ _ (is-agreed c.args.asked.now.word c.args.asked.now.query.now c.args.outcome.now c.args.slot.now c.agreed_in.new.slot c.in_ok-agreed_in.field-0 c.in_ok-agreed_in.ensures c.if-branch.true))

pub returns-then-most-eq0 : goal.returns-then-most-eq0
returns-then-most-eq0 g t c =
    nothing (judge c.args.most c.args.asked.now.word c.args.asked.now.query.now c.args.outcome.now)
    (judge-last _ _ _ _ c.if-most-eq0.true (is-other c.args.asked.now.word c.args.asked.now.query.now c.args.outcome.now c.args.slot.now c.agreed_in.new.slot c.in_ok-agreed_in.field-0 c.in_ok-agreed_in.ensures c.if-branch.false))

pub returns-then-not-is_got : goal.returns-then-not-is_got
returns-then-not-is_got g t c =
    nothing (judge c.args.most c.args.asked.now.word c.args.asked.now.query.now c.args.outcome.now)
    (judge-ends _ _ _ _ (is-other c.args.asked.now.word c.args.asked.now.query.now c.args.outcome.now c.args.slot.now c.agreed_in.new.slot c.in_ok-agreed_in.field-0 c.in_ok-agreed_in.ensures c.if-branch.false) (sym c.is_got.ensures ∙ c.if-not-is_got.true))

pub returns-in_err-next : goal.returns-in_err-next
returns-in_err-next g t c =
    renamed (λ left. onward (take_more left) (judge (c.args.most - 1) c.args.asked.now.word c.args.asked.now.query.now)) (judge c.args.most c.args.asked.now.word c.args.asked.now.query.now c.args.outcome.now)
    (judge-goes _ _ _ _ c.if-most-eq0.false (is-other c.args.asked.now.word c.args.asked.now.query.now c.args.outcome.now c.args.slot.now c.agreed_in.new.slot c.in_ok-agreed_in.field-0 c.in_ok-agreed_in.ensures c.if-branch.false) (sym c.is_got.ensures ∙ c.if-not-is_got.false))
    (fails take_more (judge (c.args.most - 1) c.args.asked.now.word c.args.asked.now.query.now) (try_answer-err _ _ c.from_residual-in_err-next.ensures.0) c.in_err-next.ensures (λ came. judge-nothing _ _ _ came))

pub returns : goal.returns
returns g t c =
    renamed (λ left. onward (take_more left) (judge (c.args.most - 1) c.args.asked.now.word c.args.asked.now.query.now)) (judge c.args.most c.args.asked.now.word c.args.asked.now.query.now c.args.outcome.now)
    (judge-goes _ _ _ _ c.if-most-eq0.false (is-other c.args.asked.now.word c.args.asked.now.query.now c.args.outcome.now c.args.slot.now c.agreed_in.new.slot c.in_ok-agreed_in.field-0 c.in_ok-agreed_in.ensures c.if-branch.false) (sym c.is_got.ensures ∙ c.if-not-is_got.false))
    (behind take_more (judge (c.args.most - 1) c.args.asked.now.word c.args.asked.now.query.now) c.in_ok-next.ensures c.judge.ensures)
