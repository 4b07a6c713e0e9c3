use Rattle.std.proofs.Common.{◌∷◌, refl, ap, ◌∙◌}
use Rattle.outside.specs.declared.entry.InnerMark.{InnerMark}
use Rattle.outside.specs.declared.mark.Mark.{Mark}
use Rattle.outside.specs.declared.mark.Mark.TheVariants as mark
use Rattle.forward_plugin.specs.Forward.{outcome_means, take_more}
use Rattle.plain_marks.specs.MeantLaws.{off-at}
use Rattle.plain_marks.proofs.Single.{behind-result, no-more, outer-more}
use Rattle.plain_marks.proofs.taking.take_more.Goals as goal

pub returns-in-More : goal.returns-in-More
returns-in-More c =
    behind-result c.outcome_means.result (outcome_means c.in-More.outcome) take_more c.args.marks.now c.in-Some.mark.now c.in-Some.left.now c.in-Some.ensures.cases.0
    (λ rest. ap (λ (m : Mark). take_more (m ∷ rest)) c.in-Inner.is ∙ ap (λ (i : InnerMark). take_more (mark.Inner i ∷ rest)) c.in-More.is)
    c.outcome_means.ensures

pub returns-in_default-inner : goal.returns-in_default-inner
returns-in_default-inner c =
    off-at (take_more) c.args.marks.now c.in-Some.mark.now c.in-Some.left.now c.in-Some.ensures.cases.0 refl
    (λ rest. ap (λ (m : Mark). take_more (m ∷ rest)) c.in-Inner.is ∙ no-more c.in-Inner.inner c.in_default-inner.not-More rest)

pub returns-in_default-mark : goal.returns-in_default-mark
returns-in_default-mark c = off-at (take_more) c.args.marks.now c.in-Some.mark.now c.in-Some.left.now c.in-Some.ensures.cases.0 refl (outer-more c.in-Some.mark.now c.in_default-mark.not-Inner)
