-- One step more, and the marks of workers that aren't there.
use Rattle.std.proofs.Common.{◌≡◌, ◌≢◌, ◌<◌, ◌≤◌, ℕ, ◌==◌, Bool, false, cond, eqb-true, List, [], ◌∷◌, ◌++◌, refl, sym, ap, ◌∙◌, arith, append-nil, append_assoc}
use Rattle.pin_core.specs.declared.steps.PinStep.{PinStep}
use Rattle.pin_core.specs.declared.steps.PinStep.TheVariants.{Fill, Publish, Pin, Unpin, Sweep, Drain}
use Rattle.pin_core.specs.declared.steps.PinReply.TheVariants.{Unlawful}
use Rattle.pin_core.specs.Machine.{After, Machine, after, count, run, unlawful}
use Rattle.pin_core.specs.Laws.{by_rows, count-run}
use Rattle.pin_core.specs.OneRun.{AreLawful, PinMark, last_by, last_of, pin_marks, pinned, serial_by, told_by, told_step, unpinned}
use Rattle.pin_core.specs.Rows.{Rows}
use Rattle.pin_core.specs.OneRunLaws.Turns.{by_two}

pub told-snoc : (w last : ℕ) (m : Machine) (steps : List PinStep) (x : PinStep)
    → told_by w last m (steps ++ x ∷ []) ≡ told_by w last m steps ++ told_step w x (after (run m steps) x).1 (last_of w last m steps)
told-snoc w last m [] x = append-nil (told_step w x (after m x).1 last)
told-snoc w last m (y ∷ ys) x =
    let reply = (after m y).1 in
    let next = (after m y).0 in
    let last' = last_by w y reply last in
    ap (λ (l : List PinMark). told_step w y reply last ++ l) (told-snoc w last' next ys x)
    ∙ sym (append_assoc (told_step w y reply last) (told_by w last' next ys) (told_step w x (after (run next ys) x).1 (last_of w last' next ys)))

pub last-snoc : (w last : ℕ) (m : Machine) (steps : List PinStep) (x : PinStep)
    → last_of w last m (steps ++ x ∷ []) ≡ last_by w x (after (run m steps) x).1 (last_of w last m steps)
last-snoc w last m [] x = refl
last-snoc w last m (y ∷ ys) x = last-snoc w (last_by w y (after m y).1 last) (after m y).0 ys x

pub lawful-snoc : (m : Machine) (steps : List PinStep) (x : PinStep) → AreLawful m steps → (after (run m steps) x).1 ≢ Unlawful → AreLawful m (steps ++ x ∷ [])
lawful-snoc m [] x are is = (is, tt)
lawful-snoc m (y ∷ ys) x are is = (are.0, lawful-snoc (after m y).0 ys x are.1 is)

pub marks-append : (xs ys : List ℕ) → pin_marks (xs ++ ys) ≡ pin_marks xs ++ pin_marks ys
marks-append [] ys = refl
marks-append (x ∷ xs) ys = ap (λ (l : List PinMark). pinned x ∷ unpinned x ∷ l) (marks-append xs ys)

-- a pin and an unpin that are lawful are those of a worker that is there
abbrev IsThere : ℕ → PinStep → After → Type 0
IsThere c (Fill s v) a = Unit {0}
IsThere c (Publish s) a = Unit {0}
IsThere c (Pin v) a = a.1 ≢ Unlawful → v < c
IsThere c (Unpin v) a = a.1 ≢ Unlawful → v < c
IsThere c (Sweep s) a = Unit {0}
IsThere c (Drain s v) a = Unit {0}

refused_there : (m : Machine) (x : PinStep) → IsThere (count m) x (unlawful m)
refused_there m (Fill s v) = tt
refused_there m (Publish s) = tt
refused_there m (Pin v) = λ is. absurd (is refl)
refused_there m (Unpin v) = λ is. absurd (is refl)
refused_there m (Sweep s) = tt
refused_there m (Drain s v) = tt

there : (m : Machine) (x : PinStep) → IsThere (count m) x (after m x)
there m x = by_rows m (IsThere (count m)) rows x
  where
    rows : Rows m (IsThere (count m))
    rows = record {
      fill = λ s w a b c. tt;
      publish = λ s a b c. tt;
      pin = λ w a l b c. λ is. l;
      unpin = λ s w l a. λ is. l;
      not_yet = λ s a b c. tt;
      ready = λ s a b c. tt;
      drain = λ s w a b c. tt;
      refused = λ x. refused_there m x;
    }

apart : (v w c : ℕ) → v < c → c ≤ w → (v == w) ≡ false
apart v w c low high = by_two (v == w) (λ e. let same : v ≡ w = eqb-true v w e in absurd (omega (arith, same, low, high))) (λ e. e)

step_none : (w last : ℕ) (m : Machine) (x : PinStep) → count m ≤ w → (after m x).1 ≢ Unlawful → told_step w x (after m x).1 last ≡ []
step_none w last m (Fill s v) past is = refl
step_none w last m (Publish s) past is = refl
step_none w last m (Pin v) past is = ap (λ (b : Bool). cond {A = List PinMark} b (pinned (serial_by (after m (Pin v)).1 last) ∷ []) []) (apart v w (count m) (there m (Pin v) is) past)
step_none w last m (Unpin v) past is = ap (λ (b : Bool). cond {A = List PinMark} b (unpinned last ∷ []) []) (apart v w (count m) (there m (Unpin v) is) past)
step_none w last m (Sweep s) past is = refl
step_none w last m (Drain s v) past is = refl

-- a worker that isn't there has no marks
pub told_none : (w last : ℕ) (m : Machine) (steps : List PinStep) → count m ≤ w → AreLawful m steps → told_by w last m steps ≡ []
told_none w last m [] past are = refl
told_none w last m (x ∷ steps) past are =
    let same : count (after m x).0 ≡ count m = count-run m (x ∷ []) in
    let reply = (after m x).1 in
    ap (λ (l : List PinMark). l ++ told_by w (last_by w x reply last) (after m x).0 steps) (step_none w last m x past are.0)
    ∙ told_none w (last_by w x reply last) (after m x).0 steps (omega (arith, same, past)) are.1
