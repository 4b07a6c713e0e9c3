use Rattle.std.proofs.Common.{◌∷◌, Bool, refl, sym, ap, ◌∙◌, if◌then◌else◌}
use Rattle.outside.specs.Meanings.{Done, Off}
use Rattle.outside.specs.declared.entry.InnerMark.{InnerMark}
use Rattle.outside.specs.declared.mark.Mark.{Mark}
use Rattle.outside.specs.declared.mark.Mark.TheVariants as mark
use Rattle.forward_plugin.specs.Forward.{take_reported}
use Rattle.plain_marks.specs.MeantLaws.{off-at}
use Rattle.plain_marks.proofs.Single.{no-report, one-done, outer-reported}
use Rattle.plain_marks.proofs.taking.take_reported.Goals as goal

pub returns-then-is_report : goal.returns-then-is_report
returns-then-is_report c =
    one-done (take_reported c.args.number c.args.answer) c.args.marks.now c.in-Some.mark.now c.in-Some.left.now c.args.answer c.in-Some.ensures.cases.0
    (λ rest. ap (λ (m : Mark). take_reported c.args.number c.args.answer (m ∷ rest)) c.in-Inner.is
    ∙ ap (λ (i : InnerMark). take_reported c.args.number c.args.answer (mark.Inner i ∷ rest)) c.in-Reported.is
    ∙ ap (λ (t : Bool). if t then Done c.args.answer rest else Off) (sym c.if-is_report.ensures))

pub returns-in-Reported : goal.returns-in-Reported
returns-in-Reported c =
    off-at (take_reported c.args.number c.args.answer) c.args.marks.now c.in-Some.mark.now c.in-Some.left.now c.in-Some.ensures.cases.0 refl
    (λ rest. ap (λ (m : Mark). take_reported c.args.number c.args.answer (m ∷ rest)) c.in-Inner.is
    ∙ ap (λ (i : InnerMark). take_reported c.args.number c.args.answer (mark.Inner i ∷ rest)) c.in-Reported.is
    ∙ ap (λ (t : Bool). if t then Done c.args.answer rest else Off) (sym c.if-is_report.ensures))

pub returns-in-Inner : goal.returns-in-Inner
returns-in-Inner c =
    off-at (take_reported c.args.number c.args.answer) c.args.marks.now c.in-Some.mark.now c.in-Some.left.now c.in-Some.ensures.cases.0 refl
    (λ rest. ap (λ (m : Mark). take_reported c.args.number c.args.answer (m ∷ rest)) c.in-Inner.is ∙ no-report c.args.number c.args.answer c.in-Inner.inner c.in_default-inner.not-Reported rest)

pub returns : goal.returns
returns c = off-at (take_reported c.args.number c.args.answer) c.args.marks.now c.in-Some.mark.now c.in-Some.left.now c.in-Some.ensures.cases.0 refl (outer-reported c.in-Some.mark.now c.in_default-mark.not-Inner c.args.number c.args.answer)
