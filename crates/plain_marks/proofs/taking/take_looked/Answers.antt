use Rattle.std.proofs.Common.{◌∷◌, Bool, refl, sym, ap, ◌∙◌, if◌then◌else◌}
use Rattle.outside.specs.Meanings.{Done, Off}
use Rattle.outside.specs.declared.mark.Mark.{Mark}
use Rattle.chain_meaning.specs.Caching.{take_looked}
use Rattle.plain_marks.specs.MeantLaws.{off-at}
use Rattle.plain_marks.proofs.Single.{no-look, one-done}
use Rattle.plain_marks.proofs.taking.take_looked.Goals as goal

pub returns-in_ok-copied-in-Looked : goal.returns-in_ok-copied-in-Looked
returns-in_ok-copied-in-Looked c =
    one-done (take_looked c.args.key.now c.args.moment) c.args.marks.now c.in-Some.mark.now c.in-Some.left.now c.in_ok-copied-in-Looked.field-0 c.in-Some.ensures.cases.0
    (λ rest. ap (λ (m : Mark). take_looked c.args.key.now c.args.moment (m ∷ rest)) c.in-Looked.is
    ∙ ap (λ (t : Bool). if t then Done c.in-Looked.found rest else Off) (sym c.if-is_look.ensures)
    ∙ ap (λ o. Done o rest) (sym c.in_ok-copied-in-Looked.ensures))

pub returns-else-is_look : goal.returns-else-is_look
returns-else-is_look c =
    off-at (take_looked c.args.key.now c.args.moment) c.args.marks.now c.in-Some.mark.now c.in-Some.left.now c.in-Some.ensures.cases.0 refl
    (λ rest. ap (λ (m : Mark). take_looked c.args.key.now c.args.moment (m ∷ rest)) c.in-Looked.is
    ∙ ap (λ (t : Bool). if t then Done c.in-Looked.found rest else Off) (sym c.if-is_look.ensures))

pub returns-in_default-mark : goal.returns-in_default-mark
returns-in_default-mark c = off-at (take_looked c.args.key.now c.args.moment) c.args.marks.now c.in-Some.mark.now c.in-Some.left.now c.in-Some.ensures.cases.0 refl (no-look c.args.key.now c.args.moment c.in-Some.mark.now c.in_default-mark.not-Looked)
