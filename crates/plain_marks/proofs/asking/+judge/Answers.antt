use Rattle.std.proofs.Common.{◌≡◌, ◌-◌, sym, subst, ◌∙◌}
use Rattle.outside.specs.Meanings.{More, onward}
use Rattle.forward_plugin.specs.Forward.{judge, take_more}
use Rattle.plain_marks.specs.Meant.{IsDone, IsOff, Means}
use Rattle.plain_marks.specs.MeantLaws.{done-at, followed-by, meant-as, means-as, stopped, wanting}
use Rattle.plain_marks.specs.declared.meant.Meant.TheVariants as meant
use Rattle.plain_marks.proofs.Judged.{judge-agreed, judge-ends, judge-goes, judge-last}
use Rattle.plain_marks.proofs.asking.+judge.Goals as goal

pub returns-then-is_some : goal.returns-then-is_some
returns-then-is_some t c = done-at (judge c.args.most c.args.asked.now.word c.args.asked.now.query.now c.args.outcome.now) c.args.marks.now c.in_ok-answer.answer (judge-agreed c.args.asked.now.word c.args.asked.now.query.now c.args.outcome.now c.in_ok-answer.answer c.in_ok-answer.ensures c.args.most (sym c.is_some.ensures ∙ c.if-is_some.true))

pub returns-then-most-eq0 : goal.returns-then-most-eq0
returns-then-most-eq0 t c = done-at (judge c.args.most c.args.asked.now.word c.args.asked.now.query.now c.args.outcome.now) c.args.marks.now c.in_ok-answer.answer (judge-last c.args.asked.now.word c.args.asked.now.query.now c.args.outcome.now c.in_ok-answer.answer c.in_ok-answer.ensures c.args.most c.if-most-eq0.true)

pub returns-then-not-is_got : goal.returns-then-not-is_got
returns-then-not-is_got t c = done-at (judge c.args.most c.args.asked.now.word c.args.asked.now.query.now c.args.outcome.now) c.args.marks.now c.in_ok-answer.answer (judge-ends c.args.asked.now.word c.args.asked.now.query.now c.args.outcome.now c.in_ok-answer.answer c.in_ok-answer.ensures c.args.most (sym c.is_got.ensures ∙ c.if-not-is_got.true))

pub returns-in-Done : goal.returns-in-Done
returns-in-Done t c =
    let next = (judge (c.args.most - 1) c.args.asked.now.word c.args.asked.now.query.now) in
    let done : IsDone take_more c.args.marks.now c.in-Done.next c.in-Done.left.now = subst (Means take_more c.args.marks.now) c.in-Done.is c.in_ok-next.ensures in
    meant-as c.judge.result (λ some. onward (take_more some) next) (judge c.args.most c.args.asked.now.word c.args.asked.now.query.now c.args.outcome.now) c.args.marks.now
    (judge-goes c.args.asked.now.word c.args.asked.now.query.now c.args.outcome.now c.in_ok-answer.answer c.in_ok-answer.ensures c.args.most c.if-most-eq0.false (sym c.is_some.ensures ∙ c.if-is_some.false) (sym c.is_got.ensures ∙ c.if-not-is_got.false))
    (followed-by take_more next c.args.marks.now c.in-Done.left.now c.in-Done.next c.judge.result done c.judge.ensures)

pub returns-in-More : goal.returns-in-More
returns-in-More t c =
    let next = (judge (c.args.most - 1) c.args.asked.now.word c.args.asked.now.query.now) in
    let more : take_more c.args.marks.now ≡ More = subst (Means take_more c.args.marks.now) c.in-More.is c.in_ok-next.ensures in
    (judge-goes c.args.asked.now.word c.args.asked.now.query.now c.args.outcome.now c.in_ok-answer.answer c.in_ok-answer.ensures c.args.most c.if-most-eq0.false (sym c.is_some.ensures ∙ c.if-is_some.false) (sym c.is_got.ensures ∙ c.if-not-is_got.false)) c.args.marks.now
    ∙ wanting take_more next c.args.marks.now more

pub returns : goal.returns
returns t c =
    let next = (judge (c.args.most - 1) c.args.asked.now.word c.args.asked.now.query.now) in
    let off : IsOff take_more c.args.marks.now c.in-Off.left.now = subst (Means take_more c.args.marks.now) c.in-Off.is c.in_ok-next.ensures in
    means-as (λ some. onward (take_more some) next) (judge c.args.most c.args.asked.now.word c.args.asked.now.query.now c.args.outcome.now) c.args.marks.now (meant.Off c.in-Off.left)
    (judge-goes c.args.asked.now.word c.args.asked.now.query.now c.args.outcome.now c.in_ok-answer.answer c.in_ok-answer.ensures c.args.most c.if-most-eq0.false (sym c.is_some.ensures ∙ c.if-is_some.false) (sym c.is_got.ensures ∙ c.if-not-is_got.false))
    (stopped take_more next c.args.marks.now c.in-Off.left.now off)
