use Rattle.std.proofs.Common.{◌∷◌, refl, ap}
use Rattle.outside.specs.declared.mark.Mark.{Mark}
use Rattle.chain_meaning.specs.Caching.{take_now}
use Rattle.plain_marks.specs.MeantLaws.{off-at}
use Rattle.plain_marks.proofs.Single.{no-now, one-done}
use Rattle.plain_marks.proofs.taking.take_now.Goals as goal

pub returns-in-Now : goal.returns-in-Now
returns-in-Now c = one-done take_now c.args.marks.now c.in-Some.mark.now c.in-Some.left.now c.in-Now.moment c.in-Some.ensures.cases.0 (λ rest. ap (λ (m : Mark). take_now (m ∷ rest)) c.in-Now.is)

pub returns-in_default-mark : goal.returns-in_default-mark
returns-in_default-mark c = off-at take_now c.args.marks.now c.in-Some.mark.now c.in-Some.left.now c.in-Some.ensures.cases.0 refl (no-now c.in-Some.mark.now c.in_default-mark.not-Now)
