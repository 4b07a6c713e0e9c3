use Rattle.std.proofs.Common.{◌∷◌, refl, ap, ◌∙◌}
use Rattle.outside.specs.declared.entry.InnerMark.{InnerMark}
use Rattle.outside.specs.declared.mark.Mark.{Mark}
use Rattle.outside.specs.declared.mark.Mark.TheVariants as mark
use Rattle.forward_plugin.specs.Forward.{take_drawn}
use Rattle.plain_marks.specs.MeantLaws.{off-at}
use Rattle.plain_marks.proofs.Single.{no-draw, one-done, outer-drawn}
use Rattle.plain_marks.proofs.taking.take_drawn.Goals as goal

pub returns-in-Drawn : goal.returns-in-Drawn
returns-in-Drawn c =
    one-done take_drawn c.args.marks.now c.in-Some.mark.now c.in-Some.left.now _ c.in-Some.ensures.cases.0
    (λ rest. ap (λ (m : Mark). take_drawn (m ∷ rest)) c.in-Inner.is ∙ ap (λ (i : InnerMark). take_drawn (mark.Inner i ∷ rest)) c.in-Drawn.is)

pub returns-in_default-inner : goal.returns-in_default-inner
returns-in_default-inner c =
    off-at (take_drawn) c.args.marks.now c.in-Some.mark.now c.in-Some.left.now c.in-Some.ensures.cases.0 refl
    (λ rest. ap (λ (m : Mark). take_drawn (m ∷ rest)) c.in-Inner.is ∙ no-draw c.in-Inner.inner c.in_default-inner.not-Drawn rest)

pub returns-in_default-mark : goal.returns-in_default-mark
returns-in_default-mark c = off-at (take_drawn) c.args.marks.now c.in-Some.mark.now c.in-Some.left.now c.in-Some.ensures.cases.0 refl (outer-drawn c.in-Some.mark.now c.in_default-mark.not-Inner)
