-- What holds in each row of the table holds of each step.
use Rattle.std.specs.Prelude.{◌≡◌, ℕ, ◌+◌, ◌-◌, ◌<◌, ◌≤◌, Bool, true, false, not, Option, Some, None, List, [], ◌∷◌, refl}
use Rattle.std.specs.Option.{is_some}
use Rattle.std.proofs.Common.{cond, ap, ◌∙◌, length-set}
use Rattle.std.proofs.lemmas.Bool.{false≢true, ltb-true, ltb-false, lt-ltb, le-ltb, and_parts, and_from}
use Rattle.pin_core.specs.declared.slots.TheConstants.{MOST_PINS, MOST_SERIALS}
use Rattle.pin_core.specs.declared.steps.PinStep.{PinStep}
use Rattle.pin_core.specs.declared.steps.PinStep.TheVariants.{Fill, Publish, Pin, Unpin, Sweep, Drain}
use Rattle.pin_core.specs.declared.steps.PinReply.TheVariants.{Done, Pinned, NotYet, Ready, Unlawful}
use Rattle.pin_core.specs.Slots.{is_replaced, lacks, is_filled, is_drainable, due, filled_slot, ready_slot, drained_slot}
use Rattle.pin_core.specs.Machine.{Machine, After, slot_at, worker_at, count, current, with_slot, published_at, pinned_at, unpinned_at, unlawful, after, run, unpin_from, swept}
use Rattle.pin_core.specs.Rows.{Rows}

by_test : (b : Bool) (P : After → Type 0) (x y : After) → (b ≡ true → P x) → (b ≡ false → P y) → P (cond b x y)
by_test true P x y lawful other = lawful refl
by_test false P x y lawful other = other refl

no_pin : (held : Option ℕ) → not (is_some held) ≡ true → held ≡ None
no_pin None e = refl
no_pin (Some s) e = absurd (false≢true e)

by_held : (m : Machine) (w : ℕ) (P : After → Type 0) (o : Option ℕ) → ((s : ℕ) → o ≡ Some s → P (unpinned_at m s w, Done)) → P (unlawful m) → P (unpin_from m w o)
by_held m w P None lawful other = other
by_held m w P (Some s) lawful other = lawful s refl

-- what holds in each row holds of each step
pub by_rows : (m : Machine) (P : PinStep → After → Type 0) → Rows m P → (step : PinStep) → P step (after m step)
by_rows m P r (Fill s w) =
    by_test _ (P (Fill s w)) _ _ (λ e. let t = and_parts _ _ e in let u = and_parts _ _ t.1 in r.fill s w (ltb-true s 4 t.0) (ltb-true w (count m) u.0) u.1) (λ _. r.refused (Fill s w))
by_rows m P r (Publish s) =
    by_test _ (P (Publish s)) _ _ (λ e. let t = and_parts _ _ e in let u = and_parts _ _ t.1 in r.publish s (ltb-true s 4 t.0) (ltb-true m.published (MOST_SERIALS) u.0) u.1) (λ _. r.refused (Publish s))
by_rows m P r (Pin w) =
    by_test _ (P (Pin w)) _ _ (λ e. let t = and_parts _ _ e in let u = and_parts _ _ t.1 in let v = and_parts _ _ u.1 in
    r.pin w (ltb-true 0 m.published t.0) (ltb-true w (count m) u.0) (no_pin (worker_at m w).held v.0) (ltb-true (worker_at m w).pins MOST_PINS v.1)) (λ _. r.refused (Pin w))
by_rows m P r (Unpin w) =
    by_test _ (P (Unpin w)) _ _ (λ e. by_held m w (P (Unpin w)) (worker_at m w).held (λ s is. r.unpin s w (ltb-true w (count m) e) is) (r.refused (Unpin w))) (λ _. r.refused (Unpin w))
by_rows m P r (Sweep s) =
    by_test _ (P (Sweep s)) _ _ (λ e. let t = and_parts _ _ e in let in' = ltb-true s 4 t.0 in
    by_test _ (P (Sweep s)) _ _ (λ l. r.not_yet s in' t.1 (ltb-true (slot_at m s).ended (due (slot_at m s)) l)) (λ l. r.ready s in' t.1 (ltb-false (slot_at m s).ended (due (slot_at m s)) l))) (λ _. r.refused (Sweep s))
by_rows m P r (Drain s w) =
    by_test _ (P (Drain s w)) _ _ (λ e. let t = and_parts _ _ e in let u = and_parts _ _ t.1 in r.drain s w (ltb-true s 4 t.0) (ltb-true w (count m) u.0) u.1) (λ _. r.refused (Drain s w))

-- where no row is lawful, nothing changes
pub unlawful_same : (m : Machine) (step : PinStep) → (after m step).1 ≡ Unlawful → (after m step).0 ≡ m
unlawful_same m step = by_rows m (λ _ a. a.1 ≡ Unlawful → a.0 ≡ m) (record {
  fill = λ s w in' at is e. absurd cc;
  publish = λ s in' few is e. absurd cc;
  pin = λ w some at none few e. absurd cc;
  unpin = λ s w at is e. absurd cc;
  not_yet = λ s in' is l e. refl;
  ready = λ s in' is l e. absurd cc;
  drain = λ s w in' at is e. absurd cc;
  refused = λ step e. refl;
}) step

-- a step keeps the number of workers
pub count-after : (m : Machine) (step : PinStep) → count (after m step).0 ≡ count m
count-after m step = by_rows m (λ _ a. count a.0 ≡ count m) (record {
  fill = λ s w in' at is. refl;
  publish = λ s in' few is. refl;
  pin = λ w some at none few. length-set m.workers w (record { held = Some (current m); pins = (worker_at m w).pins + 1 });
  unpin = λ s w at is. length-set m.workers w (record { held = None; pins = (worker_at m w).pins });
  not_yet = λ s in' is l. refl;
  ready = λ s in' is l. refl;
  drain = λ s w in' at is. refl;
  refused = λ step. refl;
}) step

-- and so does a list of steps
pub count-run : (m : Machine) (steps : List PinStep) → count (run m steps) ≡ count m
count-run m [] = refl
count-run m (step ∷ steps) = count-run (after m step).0 steps ∙ count-after m step

-- the row of each lawful step
pub after-Fill : (m : Machine) (s w : ℕ) → s < 4 → w < count m → lacks w (slot_at m s).phase ≡ true → after m (Fill s w) ≡ (with_slot m s (filled_slot w (slot_at m s)), Done)
after-Fill m s w in' at is = ap (λ (b : Bool). cond b (with_slot m s (filled_slot w (slot_at m s)), Done) (unlawful m)) (and_from _ _ (lt-ltb s 4 in') (and_from _ _ (lt-ltb w (count m) at) is))

pub after-Publish : (m : Machine) (s : ℕ) → s < 4 → m.published < MOST_SERIALS → is_filled (count m) (slot_at m s).phase ≡ true → after m (Publish s) ≡ (published_at m s, Done)
after-Publish m s in' few is = ap (λ (b : Bool). cond b (published_at m s, Done) (unlawful m)) (and_from _ _ (lt-ltb s 4 in') (and_from _ _ (lt-ltb m.published (MOST_SERIALS) few) is))

pub after-Pin : (m : Machine) (w : ℕ) → 0 < m.published → w < count m → (worker_at m w).held ≡ None → (worker_at m w).pins < MOST_PINS → after m (Pin w) ≡ (pinned_at m (current m) w, Pinned (current m) (m.published - 1))
after-Pin m w some at none few =
    ap (λ (b : Bool). cond b (pinned_at m (current m) w, Pinned (current m) (m.published - 1)) (unlawful m))
    (and_from _ _ (lt-ltb 0 m.published some) (and_from _ _ (lt-ltb w (count m) at) (and_from _ _ (ap (λ (o : Option ℕ). not (is_some o)) none) (lt-ltb (worker_at m w).pins MOST_PINS few))))

pub after-Unpin : (m : Machine) (s w : ℕ) → w < count m → (worker_at m w).held ≡ Some s → after m (Unpin w) ≡ (unpinned_at m s w, Done)
after-Unpin m s w at is = ap (λ (b : Bool). cond b (unpin_from m w (worker_at m w).held) (unlawful m)) (lt-ltb w (count m) at) ∙ ap (unpin_from m w) is

pub after-Sweep_not_yet : (m : Machine) (s : ℕ) → s < 4 → is_replaced (slot_at m s).phase ≡ true → (slot_at m s).ended < due (slot_at m s) → after m (Sweep s) ≡ (m, NotYet (slot_at m s).ended (due (slot_at m s)))
after-Sweep_not_yet m s in' is l =
    let x = slot_at m s in
    ap (λ (b : Bool). cond b (swept m s x) (unlawful m)) (and_from _ _ (lt-ltb s 4 in') is) ∙ ap (λ (b : Bool). cond b (m, NotYet x.ended (due x)) (with_slot m s (ready_slot x), Ready)) (lt-ltb x.ended (due x) l)

pub after-Sweep_ready : (m : Machine) (s : ℕ) → s < 4 → is_replaced (slot_at m s).phase ≡ true → due (slot_at m s) ≤ (slot_at m s).ended → after m (Sweep s) ≡ (with_slot m s (ready_slot (slot_at m s)), Ready)
after-Sweep_ready m s in' is l =
    let x = slot_at m s in
    ap (λ (b : Bool). cond b (swept m s x) (unlawful m)) (and_from _ _ (lt-ltb s 4 in') is) ∙ ap (λ (b : Bool). cond b (m, NotYet x.ended (due x)) (with_slot m s (ready_slot x), Ready)) (le-ltb x.ended (due x) l)

pub after-Drain : (m : Machine) (s w : ℕ) → s < 4 → w < count m → is_drainable w (slot_at m s).phase ≡ true → after m (Drain s w) ≡ (with_slot m s (drained_slot (count m) w (slot_at m s)), Done)
after-Drain m s w in' at is = ap (λ (b : Bool). cond b (with_slot m s (drained_slot (count m) w (slot_at m s)), Done) (unlawful m)) (and_from _ _ (lt-ltb s 4 in') (and_from _ _ (lt-ltb w (count m) at) is))
