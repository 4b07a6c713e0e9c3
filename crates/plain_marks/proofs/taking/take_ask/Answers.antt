use Rattle.std.proofs.Common.{◌≡◌, ◌∷◌, ℕ, Bool, true, false, List, refl, sym, ap, subst, ◌∙◌, if◌then◌else◌}
use Rattle.outside.specs.{same_ask}
use Rattle.outside.specs.Meanings.{Off}
use Rattle.outside.specs.declared.entry.InnerMark.{InnerMark}
use Rattle.outside.specs.declared.mark.Mark.{Mark}
use Rattle.outside.specs.declared.mark.Mark.TheVariants as mark
use Rattle.forward_plugin.specs.Forward.{outcome_means, take_ask}
use Rattle.plain_marks.specs.MeantLaws.{off-at}
use Rattle.plain_marks.proofs.Single.{behind-result, no-ask, outer-ask}
use Rattle.plain_marks.proofs.taking.take_ask.Goals as goal

pub returns-then-is_same_ask : goal.returns-then-is_same_ask
returns-then-is_same_ask c =
    let same : same_ask c.args.ask.now.to c.args.ask.now.by c.args.ask.now.message.now c.in-Asked.to c.in-Asked.by c.in-Asked.message ≡ true = subst (λ (s : List ℕ). same_ask c.args.ask.now.to c.args.ask.now.by c.args.ask.now.message.now c.in-Asked.to c.in-Asked.by s ≡ true) c.as_slice-others.ensures (sym c.if-is_same_ask.ensures.test) in
    behind-result c.outcome_means.result (outcome_means c.in-Asked.outcome) (take_ask c.args.ask.now.to c.args.ask.now.by c.args.ask.now.message.now) c.args.marks.now c.in-Some.mark.now c.in-Some.left.now c.in-Some.ensures.cases.0
    (λ rest. ap (λ (m : Mark). take_ask c.args.ask.now.to c.args.ask.now.by c.args.ask.now.message.now (m ∷ rest)) c.in-Inner.is
    ∙ ap (λ (i : InnerMark). take_ask c.args.ask.now.to c.args.ask.now.by c.args.ask.now.message.now (mark.Inner i ∷ rest)) c.in-Asked.is
    ∙ ap (λ (t : Bool). if t then outcome_means c.in-Asked.outcome rest else Off) same)
    c.outcome_means.ensures

pub returns-else-is_same_ask : goal.returns-else-is_same_ask
returns-else-is_same_ask c =
    let same : same_ask c.args.ask.now.to c.args.ask.now.by c.args.ask.now.message.now c.in-Asked.to c.in-Asked.by c.in-Asked.message ≡ false = subst (λ (s : List ℕ). same_ask c.args.ask.now.to c.args.ask.now.by c.args.ask.now.message.now c.in-Asked.to c.in-Asked.by s ≡ false) c.as_slice-others.ensures (sym c.if-is_same_ask.ensures.test) in
    off-at (take_ask c.args.ask.now.to c.args.ask.now.by c.args.ask.now.message.now) c.args.marks.now c.in-Some.mark.now c.in-Some.left.now c.in-Some.ensures.cases.0 refl
    (λ rest. ap (λ (m : Mark). take_ask c.args.ask.now.to c.args.ask.now.by c.args.ask.now.message.now (m ∷ rest)) c.in-Inner.is
    ∙ ap (λ (i : InnerMark). take_ask c.args.ask.now.to c.args.ask.now.by c.args.ask.now.message.now (mark.Inner i ∷ rest)) c.in-Asked.is
    ∙ ap (λ (t : Bool). if t then outcome_means c.in-Asked.outcome rest else Off) same)

pub returns-in_default-inner : goal.returns-in_default-inner
returns-in_default-inner c =
    off-at (take_ask c.args.ask.now.to c.args.ask.now.by c.args.ask.now.message.now) c.args.marks.now c.in-Some.mark.now c.in-Some.left.now c.in-Some.ensures.cases.0 refl
    (λ rest. ap (λ (m : Mark). take_ask c.args.ask.now.to c.args.ask.now.by c.args.ask.now.message.now (m ∷ rest)) c.in-Inner.is ∙ no-ask c.args.ask.now.to c.args.ask.now.by c.args.ask.now.message.now c.in-Inner.inner c.in_default-inner.not-Asked rest)

pub returns-in_default-mark : goal.returns-in_default-mark
returns-in_default-mark c = off-at (take_ask c.args.ask.now.to c.args.ask.now.by c.args.ask.now.message.now) c.args.marks.now c.in-Some.mark.now c.in-Some.left.now c.in-Some.ensures.cases.0 refl (outer-ask c.in-Some.mark.now c.in_default-mark.not-Inner c.args.ask.now.to c.args.ask.now.by c.args.ask.now.message.now)
