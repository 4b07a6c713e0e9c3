use Rattle.std.proofs.Common.{sym, ap, ◌∙◌}
use Rattle.outside.specs.Meanings.{onward}
use Rattle.chain_meaning.specs.Mean.{forward_answered}
use Rattle.forward_plugin.specs.Forward.{forward_means, plan_means}
use Rattle.plain_marks.specs.MeantLaws.{done-at, meant-as}
use Rattle.plain_marks.proofs.Orders.{forward-end, forward-for, forward-past}
use Rattle.plain_marks.proofs.forwarding.+forwarded.Goals as goal

pub returns-in_default : goal.returns-in_default
returns-in_default t c = done-at _ c.args.marks.now _ (λ left. ap (λ x. onward x forward_answered) (forward-end c.args.query.now c.args.plans.now c.in_default.ensures.cases left))

pub returns-then-not-is_for : goal.returns-then-not-is_for
returns-then-not-is_for t c =
    meant-as c.forwarded.result (λ some. onward (forward_means c.in-Some.others.now c.args.query.now some) forward_answered) _ c.args.marks.now
    (λ some. ap (λ x. onward x forward_answered) (forward-past c.args.query.now c.args.plans.now c.in-Some.plan.now c.in-Some.others.now c.in-Some.ensures.cases.0 (sym c.is_for.ensures ∙ c.if-not-is_for.true) some))
    c.forwarded.ensures

pub returns : goal.returns
returns t c =
    meant-as c.plan_means.result (λ some. onward (plan_means c.in-Some.plan.now c.args.query.now some) forward_answered) _ c.args.marks.now
    (λ some. ap (λ x. onward x forward_answered) (forward-for c.args.query.now c.args.plans.now c.in-Some.plan.now c.in-Some.others.now c.in-Some.ensures.cases.0 (sym c.is_for.ensures ∙ c.if-not-is_for.false) some))
    c.plan_means.ensures
