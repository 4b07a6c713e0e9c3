-- Lists of steps, and what they tell.
use Rattle.std.proofs.Common.{◌≡◌, ◌≢◌, ℕ, List, [], ◌∷◌, ◌++◌, refl, sym, ap, ◌∙◌, subst}
use Rattle.pin_core.specs.declared.steps.PinStep.{PinStep}
use Rattle.pin_core.specs.declared.steps.PinStep.TheVariants.{Fill, Publish, Pin, Unpin, Sweep, Drain}
use Rattle.pin_core.specs.declared.steps.PinReply.{PinReply}
use Rattle.pin_core.specs.declared.steps.PinReply.TheVariants.{Done, Ready, Unlawful}
use Rattle.pin_core.specs.Machine.{Machine, after, run}
use Rattle.pin_core.specs.OneRun.{AreLawful, told_by}

run-append : (m : Machine) (xs ys : List PinStep) → run m (xs ++ ys) ≡ run (run m xs) ys
run-append m [] ys = refl
run-append m (x ∷ xs) ys = run-append (after m x).0 xs ys

lawful-append : (m : Machine) (xs ys : List PinStep) → AreLawful m xs → AreLawful (run m xs) ys → AreLawful m (xs ++ ys)
lawful-append m [] ys p q = q
lawful-append m (x ∷ xs) ys p q = (p.0, lawful-append (after m x).0 xs ys p.1 q)

-- these steps are lawful and lead there
pub record Goes (m : Machine) (steps : List PinStep) (m' : Machine) : Type 0 where
  pub lawful : AreLawful m steps
  pub ends : run m steps ≡ m'

pub goes_none : (m : Machine) → Goes m [] m
goes_none m = record { lawful = tt; ends = refl }

pub goes_then : (a b c : Machine) (xs ys : List PinStep) → Goes a xs b → Goes b ys c → Goes a (xs ++ ys) c
goes_then a b c xs ys p q = record {
  lawful = lawful-append a xs ys p.lawful (subst (λ (m : Machine). AreLawful m ys) (sym p.ends) q.lawful);
  ends = run-append a xs ys ∙ (ap (λ (m : Machine). run m ys) p.ends ∙ q.ends);
}

pub goes_one : (m m' : Machine) (step : PinStep) (r : PinReply) → after m step ≡ (m', r) → r ≢ Unlawful → Goes m (step ∷ []) m'
goes_one m m' step r is ne = record {
  lawful = (λ e. ne (sym (ap (λ (x : Machine × PinReply). x.1) is) ∙ e), tt);
  ends = ap (λ (x : Machine × PinReply). x.0) is;
}

pub done_lawful : Done ≢ Unlawful
done_lawful e = absurd cc

pub ready_lawful : Ready ≢ Unlawful
ready_lawful e = absurd cc

-- steps that are no pin tell nothing of pins
abbrev pub IsQuiet : PinStep → Type 0
IsQuiet (Fill s w) = Unit {0}
IsQuiet (Publish s) = Unit {0}
IsQuiet (Pin w) = ⊥
IsQuiet (Unpin w) = ⊥
IsQuiet (Sweep s) = Unit {0}
IsQuiet (Drain s w) = Unit {0}

abbrev pub AreQuiet : List PinStep → Type 0
AreQuiet [] = Unit {0}
AreQuiet (x ∷ xs) = IsQuiet x × AreQuiet xs

pub quiet-append : (xs ys : List PinStep) → AreQuiet xs → AreQuiet ys → AreQuiet (xs ++ ys)
quiet-append [] ys p q = q
quiet-append (x ∷ xs) ys p q = (p.0, quiet-append xs ys p.1 q)

pub told_quiet : (w last : ℕ) (m : Machine) (xs ys : List PinStep) → AreQuiet xs → told_by w last m (xs ++ ys) ≡ told_by w last (run m xs) ys
told_quiet w last m [] ys q = refl
told_quiet w last m (Fill s v ∷ xs) ys q = told_quiet w last (after m (Fill s v)).0 xs ys q.1
told_quiet w last m (Publish s ∷ xs) ys q = told_quiet w last (after m (Publish s)).0 xs ys q.1
told_quiet w last m (Pin v ∷ xs) ys q = absurd q.0
told_quiet w last m (Unpin v ∷ xs) ys q = absurd q.0
told_quiet w last m (Sweep s ∷ xs) ys q = told_quiet w last (after m (Sweep s)).0 xs ys q.1
told_quiet w last m (Drain s v ∷ xs) ys q = told_quiet w last (after m (Drain s v)).0 xs ys q.1
