use Rattle.std.proofs.Common.{◌≡◌, ◌∷◌, ◌+◌, ◌-◌, [], length, refl, sym, subst, ◌∙◌, arith, inl}
use Rattle.std.proofs.Common.{inr}
use Rattle.std.proofs.lemmas.List.{nil_from_length}
use Rattle.audit_run.specs.declared.walk.Stepped.TheVariants as stepped
use Rattle.audit_run.specs.Walking.{IsAt, StepsSo, start}
use Rattle.audit_run.specs.Walks.{FailsAt}
use Rattle.audit_run.proofs.Sided.{at_ends, at_fails, at_goes, begin_goes, ends_early, may_end}
use Rattle.audit_run.proofs.Sided.{none_begins}
use Rattle.audit_run.proofs.side_judging.walk_along.Goals as goal

pub loop-first-preserved : goal.loop-first-preserved
loop-first-preserved g c =
    let serves = g.M.TurnMeaning.serves c.args.meaning.now in
    let w = c.loop-first.walk in
    let rest = c.loop-first.rest.now in
    at_goes serves c.args.most c.args.end c.args.marks.now w rest c.loop-first.invariant
    c.step.new.walk c.in-Ok-Goes.more.now
    (subst (λ l. StepsSo serves c.args.most c.args.end w l c.step.new.walk
    (stepped.Goes c.in-Ok-Goes.more)) (sym c.in-Some.ensures.cases.0)
    (subst (λ s. StepsSo serves c.args.most c.args.end w
    (c.in-Some.first.now ∷ c.in-Some.behind.now) c.step.new.walk s) c.in-Ok-Goes.field-0-is
    c.in-Ok-Goes.ensures))

pub returns-in-Ok-Fails : goal.returns-in-Ok-Fails
returns-in-Ok-Fails g c =
    let serves = g.M.TurnMeaning.serves c.args.meaning.now in
    let w = c.loop-first.walk in
    let rest = c.loop-first.rest.now in
    inl (at_fails serves c.args.most c.args.end c.args.marks.now w rest c.loop-first.invariant
    c.in-Ok-Fails.at
    (subst (λ l. StepsSo serves c.args.most c.args.end w l c.step.new.walk
    (stepped.Fails c.in-Ok-Fails.at)) (sym c.in-Some.ensures.cases.0)
    (subst (λ s. StepsSo serves c.args.most c.args.end w
    (c.in-Some.first.now ∷ c.in-Some.behind.now) c.step.new.walk s) c.in-Ok-Fails.field-0-is
    c.in-Ok-Fails.ensures)))

pub returns-in-Ok-Ends : goal.returns-in-Ok-Ends
returns-in-Ok-Ends g c =
    let serves = g.M.TurnMeaning.serves c.args.meaning.now in
    let w = c.loop-first.walk in
    let rest = c.loop-first.rest.now in
    at_ends serves c.args.most c.args.end c.args.marks.now w rest c.loop-first.invariant
    (subst (λ l. StepsSo serves c.args.most c.args.end w l c.step.new.walk stepped.Ends)
    (sym c.in-Some.ensures.cases.0)
    (subst (λ s. StepsSo serves c.args.most c.args.end w
    (c.in-Some.first.now ∷ c.in-Some.behind.now) c.step.new.walk s) c.in-Ok-Ends.field-0-is
    c.in-Ok-Ends.ensures))

pub returns-then-has_ended : goal.returns-then-has_ended
returns-then-has_ended g c =
    let serves = g.M.TurnMeaning.serves c.args.meaning.now in
    let w = c.loop-first.walk in
    let rest = c.loop-first.rest.now in
    let none = nil_from_length rest c.in_default.ensures.cases in
    at_ends serves c.args.most c.args.end c.args.marks.now w [] (subst (λ l.
    IsAt serves c.args.most c.args.end c.args.marks.now w l) none c.loop-first.invariant)
    (may_end serves c.args.most c.args.end w (sym c.has_ended.ensures ∙ c.if-has_ended.true))

pub returns : goal.returns
returns g c =
    let serves = g.M.TurnMeaning.serves c.args.meaning.now in
    let w = c.loop-first.walk in
    let rest = c.loop-first.rest.now in
    let none = nil_from_length rest c.in_default.ensures.cases in
    let number : length c.args.marks.now - 0 + 0 ≡ length c.args.marks.now = omega arith in
    inl (subst (λ n. FailsAt serves c.args.most c.args.end start c.args.marks.now n) number
    (at_fails serves c.args.most c.args.end c.args.marks.now w [] (subst (λ l.
    IsAt serves c.args.most c.args.end c.args.marks.now w l) none c.loop-first.invariant) 0
    (ends_early serves c.args.most c.args.end w c.loop-first.invariant.goes
    (sym c.has_ended.ensures ∙ c.if-has_ended.false))))

pub loop-first-init : goal.loop-first-init
loop-first-init g c = record {
  front = [];
  is = refl;
  on = λ other h. h;
  back = λ other h. h;
  goes = begin_goes (g.M.TurnMeaning.serves c.args.meaning.now) c.args.most c.args.end
      (sym c.may_begin.ensures ∙ c.if-not-may_begin.false);
}

pub returns-then-not-may_begin : goal.returns-then-not-may_begin
returns-then-not-may_begin g c = inr (record {
  first = refl;
  never = none_begins (g.M.TurnMeaning.serves c.args.meaning.now) c.args.most c.args.end
      (sym c.may_begin.ensures ∙ c.if-not-may_begin.true);
})

pub step-requires : goal.step-requires
step-requires g c = c.loop-first.invariant.goes
