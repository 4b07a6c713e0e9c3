use Rattle.std.proofs.Common.{◌≡◌, Some, None, refl, sym, ap, subst, ◌∙◌}
use Rattle.std.specs.List.{filter}
use Rattle.outside.specs.Meanings.{More, onward}
use Rattle.chain_meaning.specs.Mean.{forward_answered}
use Rattle.chain_meaning.specs.declared.decision.Decision.TheVariants as decision
use Rattle.forward_plugin.specs.Forward.{is_up, tries}
use Rattle.plain_marks.specs.Meant.{IsDone, IsOff, Means}
use Rattle.plain_marks.specs.MeantLaws.{done-at, followed, followed-by, meant-as, means-as, stopped, wanting}
use Rattle.plain_marks.specs.declared.meant.Meant.TheVariants as meant
use Rattle.plain_marks.proofs.Orders.{behind_try, tries-end, tries-tried, try_reported}
use Rattle.plain_marks.proofs.forwarding.+tries.Goals as goal

pub returns-in_default : goal.returns-in_default
returns-in_default t c = done-at _ c.args.marks.now _ (λ left. ap (λ x. onward x forward_answered) (tries-end c.args.passed.now.by c.args.passed.now.query.now c.args.passed.now.is_pooled c.args.mask c.args.order.now c.in_default.ensures.cases left))

pub returns-in-Some-answer : goal.returns-in-Some-answer
returns-in-Some-answer t c =
    let means = try_reported c.args.passed.now.by c.args.passed.now.query.now c.args.passed.now.is_pooled c.in-Some.first.now in
    let next = behind_try c.args.passed.now.by c.args.passed.now.query.now c.args.passed.now.is_pooled c.args.mask c.in-Some.others.now in
    let answer = Some c.in-Some-answer.answer in
    let said = Some (decision.Reply c.in-Some-answer.answer) in
    let done : IsDone means c.args.marks.now answer c.in-Done.left.now
    = subst (Means means c.args.marks.now) (c.in-Done.is ∙ ap (λ a. meant.Done a c.in-Done.left) c.in-Some-answer.is) c.in_ok-answer.ensures in
    means-as (λ some. onward (means some) next) (λ some. onward (tries c.args.passed.now.by c.args.passed.now.query.now c.args.passed.now.is_pooled (filter (is_up c.args.mask) c.args.order.now) some) forward_answered) c.args.marks.now (meant.Done said c.in-Done.left)
    (tries-tried c.args.passed.now.by c.args.passed.now.query.now c.args.passed.now.is_pooled c.args.mask c.args.order.now c.in-Some.first.now c.in-Some.others.now c.in-Some.ensures.cases.0 (sym c.is_up.ensures ∙ c.if-not-is_up.false))
    (followed means next c.args.marks.now c.in-Done.left.now answer (meant.Done said c.in-Done.left) done (done-at (next answer) c.in-Done.left.now said (λ left. refl)))

pub returns-in-None : goal.returns-in-None
returns-in-None t c =
    let means = try_reported c.args.passed.now.by c.args.passed.now.query.now c.args.passed.now.is_pooled c.in-Some.first.now in
    let next = behind_try c.args.passed.now.by c.args.passed.now.query.now c.args.passed.now.is_pooled c.args.mask c.in-Some.others.now in
    let done : IsDone means c.args.marks.now None c.in-Done.left.now
    = subst (Means means c.args.marks.now) (c.in-Done.is ∙ ap (λ a. meant.Done a c.in-Done.left) c.in-None.is) c.in_ok-answer.ensures in
    meant-as c.tries-in-None.result (λ some. onward (means some) next) (λ some. onward (tries c.args.passed.now.by c.args.passed.now.query.now c.args.passed.now.is_pooled (filter (is_up c.args.mask) c.args.order.now) some) forward_answered) c.args.marks.now
    (tries-tried c.args.passed.now.by c.args.passed.now.query.now c.args.passed.now.is_pooled c.args.mask c.args.order.now c.in-Some.first.now c.in-Some.others.now c.in-Some.ensures.cases.0 (sym c.is_up.ensures ∙ c.if-not-is_up.false))
    (followed-by means next c.args.marks.now c.in-Done.left.now None c.tries-in-None.result done c.tries-in-None.ensures)

pub returns-in-More : goal.returns-in-More
returns-in-More t c =
    let means = try_reported c.args.passed.now.by c.args.passed.now.query.now c.args.passed.now.is_pooled c.in-Some.first.now in
    let next = behind_try c.args.passed.now.by c.args.passed.now.query.now c.args.passed.now.is_pooled c.args.mask c.in-Some.others.now in
    let more : means c.args.marks.now ≡ More = subst (Means means c.args.marks.now) c.in-More.is c.in_ok-answer.ensures in
    (tries-tried c.args.passed.now.by c.args.passed.now.query.now c.args.passed.now.is_pooled c.args.mask c.args.order.now c.in-Some.first.now c.in-Some.others.now c.in-Some.ensures.cases.0 (sym c.is_up.ensures ∙ c.if-not-is_up.false)) c.args.marks.now
    ∙ wanting means next c.args.marks.now more

pub returns-in-Off : goal.returns-in-Off
returns-in-Off t c =
    let means = try_reported c.args.passed.now.by c.args.passed.now.query.now c.args.passed.now.is_pooled c.in-Some.first.now in
    let next = behind_try c.args.passed.now.by c.args.passed.now.query.now c.args.passed.now.is_pooled c.args.mask c.in-Some.others.now in
    let off : IsOff means c.args.marks.now c.in-Off.left.now = subst (Means means c.args.marks.now) c.in-Off.is c.in_ok-answer.ensures in
    means-as (λ some. onward (means some) next) (λ some. onward (tries c.args.passed.now.by c.args.passed.now.query.now c.args.passed.now.is_pooled (filter (is_up c.args.mask) c.args.order.now) some) forward_answered) c.args.marks.now (meant.Off c.in-Off.left)
    (tries-tried c.args.passed.now.by c.args.passed.now.query.now c.args.passed.now.is_pooled c.args.mask c.args.order.now c.in-Some.first.now c.in-Some.others.now c.in-Some.ensures.cases.0 (sym c.is_up.ensures ∙ c.if-not-is_up.false))
    (stopped means next c.args.marks.now c.in-Off.left.now off)
