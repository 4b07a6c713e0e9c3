use Rattle.std.proofs.Common.{◌≡◌, ◌∷◌, Bool, true, false, nat_eq, refl, ap, ◌∙◌, rules, if◌then◌else◌}
use Rattle.std.specs.Cmp.Lexicographic.{pointwise}
use Rattle.outside.specs.Meanings.{Done, Off}
use Rattle.outside.specs.declared.mark.Mark.{Mark}
use Rattle.chain_meaning.specs.Mean.{take_note}
use Rattle.plain_marks.specs.MeantLaws.{off-at}
use Rattle.plain_marks.proofs.Single.{no-note, one-done}
use Rattle.plain_marks.proofs.taking.take_note.Goals as goal

pub returns-then-eq : goal.returns-then-eq
returns-then-eq c =
    let same : pointwise nat_eq c.args.line.now c.in-Noted.other ≡ true = search rules in
    one-done (take_note c.args.line.now c.args.decision) c.args.marks.now c.in-Some.mark.now c.in-Some.left.now c.args.decision c.in-Some.ensures.cases.0
    (λ rest. ap (λ (m : Mark). take_note c.args.line.now c.args.decision (m ∷ rest)) c.in-Noted.is
    ∙ ap (λ (t : Bool). if t then Done c.args.decision rest else Off) same)

pub returns-else-eq : goal.returns-else-eq
returns-else-eq c =
    let same : pointwise nat_eq c.args.line.now c.in-Noted.other ≡ false = search rules in
    off-at (take_note c.args.line.now c.args.decision) c.args.marks.now c.in-Some.mark.now c.in-Some.left.now c.in-Some.ensures.cases.0 refl
    (λ rest. ap (λ (m : Mark). take_note c.args.line.now c.args.decision (m ∷ rest)) c.in-Noted.is
    ∙ ap (λ (t : Bool). if t then Done c.args.decision rest else Off) same)

pub returns-in_default-mark : goal.returns-in_default-mark
returns-in_default-mark c = off-at (take_note c.args.line.now c.args.decision) c.args.marks.now c.in-Some.mark.now c.in-Some.left.now c.in-Some.ensures.cases.0 refl (no-note c.args.line.now c.args.decision c.in-Some.mark.now c.in_default-mark.not-Noted)
