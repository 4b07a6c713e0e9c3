use Rattle.std.proofs.Common.{◌∷◌, refl, ap, ◌∙◌}
use Rattle.outside.specs.declared.entry.InnerMark.{InnerMark}
use Rattle.outside.specs.declared.mark.Mark.{Mark}
use Rattle.outside.specs.declared.mark.Mark.TheVariants as mark
use Rattle.forward_plugin.specs.Forward.{take_word}
use Rattle.plain_marks.specs.MeantLaws.{off-at}
use Rattle.plain_marks.proofs.Single.{no-word, one-done, outer-word}
use Rattle.plain_marks.proofs.taking.take_word.Goals as goal

pub returns-in-Word : goal.returns-in-Word
returns-in-Word c =
    one-done take_word c.args.marks.now c.in-Some.mark.now c.in-Some.left.now c.in-Word.word c.in-Some.ensures.cases.0
    (λ rest. ap (λ (m : Mark). take_word (m ∷ rest)) c.in-Inner.is ∙ ap (λ (i : InnerMark). take_word (mark.Inner i ∷ rest)) c.in-Word.is)

pub returns-in_default-inner : goal.returns-in_default-inner
returns-in_default-inner c =
    off-at (take_word) c.args.marks.now c.in-Some.mark.now c.in-Some.left.now c.in-Some.ensures.cases.0 refl
    (λ rest. ap (λ (m : Mark). take_word (m ∷ rest)) c.in-Inner.is ∙ no-word c.in-Inner.inner c.in_default-inner.not-Word rest)

pub returns-in_default-mark : goal.returns-in_default-mark
returns-in_default-mark c = off-at (take_word) c.args.marks.now c.in-Some.mark.now c.in-Some.left.now c.in-Some.ensures.cases.0 refl (outer-word c.in-Some.mark.now c.in_default-mark.not-Inner)
