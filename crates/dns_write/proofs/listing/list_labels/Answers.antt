use Rattle.std.proofs.Common.{◌++◌, [], ◌∷◌, length, sym, ap, subst, ◌∙◌, arith}
use Rattle.dns_write.specs.Tails.{Lacks}
use Rattle.dns_write.proofs.Listings.{lacks_front, lacks_last}
use Rattle.dns_write.proofs.listing.list_labels.Goals as goal

pub loop-label-init : goal.loop-label-init
loop-label-init c = record {
  rest = λ label listed lacks. subst (Lacks label) c.labels-rest.ensures lacks;
  kept = λ label listed. listed;
}

pub loop-label-smaller-in_ok-push : goal.loop-label-smaller-in_ok-push
loop-label-smaller-in_ok-push c = omega (arith, ap length c.in-Some.ensures.value)

pub loop-label-preserved-in_ok-push : goal.loop-label-preserved-in_ok-push
loop-label-preserved-in_ok-push c =
    let pushed = c.in_ok-push.ensures.ok ∙ ap (λ l. c.loop-label.labels ++ l ∷ []) c.in_ok-from_slice.ensures in
    record {
      rest = λ label listed lacks.
          let both = subst (Lacks label) pushed listed in
          c.loop-label.invariant.rest label (lacks_front label c.loop-label.labels _ both) (subst (Lacks label) (sym c.in-Some.ensures.value) (lacks_last label c.loop-label.labels _ both, lacks));
      kept = λ label listed. c.loop-label.invariant.kept label (lacks_front label c.loop-label.labels _ (subst (Lacks label) pushed listed));
    }

pub loop-label-smaller : goal.loop-label-smaller
loop-label-smaller c = omega (arith, ap length c.in-Some.ensures.value)

pub loop-label-preserved : goal.loop-label-preserved
loop-label-preserved c = record {
  rest = λ label listed lacks. c.loop-label.invariant.rest label listed (subst (Lacks label) (sym c.in-Some.ensures.value) (c.has_label.ensures.found c.if-not-has_label.false label (subst (Lacks label) (sym c.as_slice.ensures) listed), lacks));
  kept = c.loop-label.invariant.kept;
}

pub returns-clause-listed : goal.returns-clause-listed
returns-clause-listed c = λ label listed. c.loop-label.invariant.rest label listed (subst (Lacks label) (sym c.in_default.ensures.value) tt)

pub returns-clause-kept : goal.returns-clause-kept
returns-clause-kept c = c.loop-label.invariant.kept
