-- Turns of workers: each pins and unpins.
use Rattle.std.proofs.Common.{◌≡◌, ◌≢◌, ◌<◌, ◌≤◌, ℕ, zero, suc, ◌+◌, ◌-◌, ◌==◌, Bool, true, false, cond, eqb-true, List, [], ◌∷◌, ◌++◌, map, length, get_or, set, Some, None, refl, sym, ap, ◌∙◌, subst, arith}
use Rattle.std.proofs.lemmas.List.{get_or-set_other, get_or-set_same, length-map, length-set, map-set, set-set}
use Rattle.pin_core.specs.declared.slots.TheConstants.{MOST_PINS}
use Rattle.pin_core.specs.declared.slots.Slot.{Slot}
use Rattle.pin_core.specs.declared.slots.Phase.TheVariants.{Current}
use Rattle.pin_core.specs.declared.slots.PinWorker.{PinWorker}
use Rattle.pin_core.specs.declared.steps.PinStep.{PinStep}
use Rattle.pin_core.specs.declared.steps.PinStep.TheVariants.{Pin, Unpin}
use Rattle.pin_core.specs.declared.steps.PinReply.{PinReply}
use Rattle.pin_core.specs.declared.steps.PinReply.TheVariants.{Done, Pinned, Unlawful}
use Rattle.pin_core.specs.Machine.{Machine, after, idle}
use Rattle.pin_core.specs.Laws.{after-Pin, after-Unpin}
use Rattle.pin_core.specs.OneRun.{PinMark, last_by, pinned, told_by, told_step, unpinned}
use Rattle.pin_core.specs.OneRunLaws.Publications.{cur, free_slot, mach, mine}
use Rattle.pin_core.specs.OneRunLaws.Steps.{Goes, done_lawful, goes_none, goes_one, goes_then}

pub by_two : {R : Type 0} (b : Bool) → (b ≡ true → R) → (b ≡ false → R) → R
by_two true t f = t refl
by_two false t f = f refl

abbrev pub rested : ℕ → PinWorker
rested k = record { held = None; pins = k }

abbrev pub idles : List ℕ → List PinWorker
idles ks = map rested ks

worker_is : (ks : List ℕ) (w : ℕ) → w < length ks → get_or (idles ks) w idle ≡ rested (get_or ks w 0)
worker_is [] w low = absurd (omega (arith, low))
worker_is (k ∷ ks) zero low = refl
worker_is (k ∷ ks) (suc w) low = worker_is ks w (omega (arith, low))

abbrev pub open_cur : ℕ → ℕ → Slot
open_cur a p = record { base = a; ended = a + p; phase = Current (p + 1) }

abbrev pub holding : Bool → ℕ → PinWorker
holding f k = record { held = Some (mine f); pins = k + 1 }

abbrev pub mid : Bool → ℕ → ℕ → ℕ → ℕ → List ℕ → ℕ → Machine
mid f k a b p ks w = mach f k (open_cur a p) (free_slot b) (set (idles ks) w (holding f (get_or ks w 0)))

pinned_lawful : (s serial : ℕ) → Pinned s serial ≢ Unlawful
pinned_lawful s serial e = absurd cc

pub turn_pin : (f : Bool) (k a b p : ℕ) (ks : List ℕ) (w : ℕ) → 0 < k → w < length ks → get_or ks w 0 < MOST_PINS
    → after (mach f k (cur a p) (free_slot b) (idles ks)) (Pin w) ≡ (mid f k a b p ks w, Pinned (mine f) (k - 1))
turn_pin false k a b p ks w some low few =
    let is = worker_is ks w low in
    let long = length-map ks rested in
    after-Pin (mach false k (cur a p) (free_slot b) (idles ks)) w some (omega (arith, long, low)) (ap (λ (x : PinWorker). x.held) is) (let e = ap (λ (x : PinWorker). x.pins) is in omega (arith, e, few))
    ∙ ap (λ (x : PinWorker). (mach false k (open_cur a p) (free_slot b) (set (idles ks) w (record { held = Some 0; pins = x.pins + 1 })), Pinned 0 (k - 1))) is
turn_pin true k a b p ks w some low few =
    let is = worker_is ks w low in
    let long = length-map ks rested in
    after-Pin (mach true k (cur a p) (free_slot b) (idles ks)) w some (omega (arith, long, low)) (ap (λ (x : PinWorker). x.held) is) (let e = ap (λ (x : PinWorker). x.pins) is in omega (arith, e, few))
    ∙ ap (λ (x : PinWorker). (mach true k (open_cur a p) (free_slot b) (set (idles ks) w (record { held = Some 1; pins = x.pins + 1 })), Pinned 1 (k - 1))) is

back_idle : (ks : List ℕ) (w n : ℕ) (x : PinWorker) → set (set (idles ks) w x) w (rested n) ≡ idles (set ks w n)
back_idle ks w n x = set-set (idles ks) w x (rested n) ∙ sym (map-set rested ks w n)

pub turn_unpin : (f : Bool) (k a b p : ℕ) (ks : List ℕ) (w : ℕ) → w < length ks
    → after (mid f k a b p ks w) (Unpin w) ≡ (mach f k (cur a (p + 1)) (free_slot b) (idles (set ks w (get_or ks w 0 + 1))), Done)
turn_unpin false k a b p ks w low =
    let x = holding false (get_or ks w 0) in
    let long = length-map ks rested in
    let count = length-set (idles ks) w x in
    let is : get_or (set (idles ks) w x) w idle ≡ x = get_or-set_same (idles ks) w x idle (omega (arith, long, low)) in
    let e : a + p + 1 ≡ a + (p + 1) = omega arith in
    after-Unpin (mid false k a b p ks w) 0 w (omega (arith, long, count, low)) (ap (λ (y : PinWorker). y.held) is)
    ∙ (ap (λ (y : PinWorker). (mach false k (record { base = a; ended = a + p + 1; phase = Current (p + 1) }) (free_slot b) (set (set (idles ks) w x) w (rested y.pins)), Done)) is
    ∙ (λ i. (mach false k (record { base = a; ended = e i; phase = Current (p + 1) }) (free_slot b) (back_idle ks w (get_or ks w 0 + 1) x i), Done)))
turn_unpin true k a b p ks w low =
    let x = holding true (get_or ks w 0) in
    let long = length-map ks rested in
    let count = length-set (idles ks) w x in
    let is : get_or (set (idles ks) w x) w idle ≡ x = get_or-set_same (idles ks) w x idle (omega (arith, long, low)) in
    let e : a + p + 1 ≡ a + (p + 1) = omega arith in
    after-Unpin (mid true k a b p ks w) 1 w (omega (arith, long, count, low)) (ap (λ (y : PinWorker). y.held) is)
    ∙ (ap (λ (y : PinWorker). (mach true k (record { base = a; ended = a + p + 1; phase = Current (p + 1) }) (free_slot b) (set (set (idles ks) w x) w (rested y.pins)), Done)) is
    ∙ (λ i. (mach true k (record { base = a; ended = e i; phase = Current (p + 1) }) (free_slot b) (back_idle ks w (get_or ks w 0 + 1) x i), Done)))

-- what a turn tells
told_two : (w last v s serial : ℕ) (m m1 m2 : Machine) (rest : List PinStep) → after m (Pin v) ≡ (m1, Pinned s serial) → after m1 (Unpin v) ≡ (m2, Done)
    → told_by w last m (Pin v ∷ Unpin v ∷ rest) ≡ cond (v == w) (pinned serial ∷ unpinned serial ∷ []) [] ++ told_by w (cond (v == w) serial last) m2 rest
told_two w last v s serial m m1 m2 rest e1 e2 =
    ap (λ (x : Machine × PinReply). told_step w (Pin v) x.1 last ++ told_by w (last_by w (Pin v) x.1 last) x.0 (Unpin v ∷ rest)) e1
    ∙ (ap (λ (x : Machine × PinReply). cond (v == w) (pinned serial ∷ []) [] ++ (told_step w (Unpin v) x.1 (cond (v == w) serial last) ++ told_by w (cond (v == w) serial last) x.0 rest)) e2
    ∙ by_two (v == w)
    (λ e. ap (λ (b : Bool). cond b (pinned serial ∷ []) [] ++ (cond b (unpinned (cond b serial last) ∷ []) [] ++ told_by w (cond b serial last) m2 rest)) e
    ∙ sym (ap (λ (b : Bool). cond b (pinned serial ∷ unpinned serial ∷ []) [] ++ told_by w (cond b serial last) m2 rest) e))
    (λ e. ap (λ (b : Bool). cond b (pinned serial ∷ []) [] ++ (cond b (unpinned (cond b serial last) ∷ []) [] ++ told_by w (cond b serial last) m2 rest)) e
    ∙ sym (ap (λ (b : Bool). cond b (pinned serial ∷ unpinned serial ∷ []) [] ++ told_by w (cond b serial last) m2 rest) e)))

abbrev pub turn_steps : List ℕ → List PinStep
turn_steps [] = []
turn_steps (v ∷ vs) = Pin v ∷ Unpin v ∷ turn_steps vs

abbrev pub added : List ℕ → List ℕ → List ℕ
added [] ks = ks
added (v ∷ vs) ks = added vs (set ks v (get_or ks v 0 + 1))

abbrev pub times : ℕ → List ℕ → ℕ
times w [] = 0
times w (v ∷ vs) = cond (v == w) 1 0 + times w vs

abbrev pub twice : ℕ → ℕ → List PinMark
twice zero s = []
twice (suc n) s = pinned s ∷ unpinned s ∷ twice n s

abbrev pub AreWorkers : ℕ → List ℕ → Type 0
AreWorkers n [] = Unit {0}
AreWorkers n (v ∷ vs) = (v < n) × AreWorkers n vs

-- one pin more of one worker
pub added_one : (ks : List ℕ) (v w : ℕ) → v < length ks → get_or (set ks v (get_or ks v 0 + 1)) w 0 ≡ get_or ks w 0 + cond (v == w) 1 0
added_one ks v w low = by_two (v == w)
    (λ e.
    let same : v ≡ w = eqb-true v w e in
    let one : ◌≡◌ {A = ℕ} (cond (v == w) 1 0) 1 = ap (λ (b : Bool). cond b 1 0) e in
    let here = get_or-set_same ks v (get_or ks v 0 + 1) 0 low in
    let there : get_or (set ks v (get_or ks v 0 + 1)) w 0 ≡ get_or ks w 0 + 1 = subst (λ (x : ℕ). get_or (set ks v (get_or ks v 0 + 1)) x 0 ≡ get_or ks x 0 + 1) same here in
    omega (arith, there, one))
    (λ e.
    let apart : w ≢ v = (λ q. absurd (grind (arith, e, q))) in
    let none : ◌≡◌ {A = ℕ} (cond (v == w) 1 0) 0 = ap (λ (b : Bool). cond b 1 0) e in
    let there = get_or-set_other ks v w (get_or ks v 0 + 1) 0 apart in
    omega (arith, there, none))

pub length_added : (vs ks : List ℕ) → length (added vs ks) ≡ length ks
length_added [] ks = refl
length_added (v ∷ vs) ks = length_added vs (set ks v (get_or ks v 0 + 1)) ∙ length-set ks v (get_or ks v 0 + 1)

pub added_is : (vs ks : List ℕ) (w : ℕ) → AreWorkers (length ks) vs → get_or (added vs ks) w 0 ≡ get_or ks w 0 + times w vs
added_is [] ks w are = omega arith
added_is (v ∷ vs) ks w are =
    let long = length-set ks v (get_or ks v 0 + 1) in
    let r = added_is vs (set ks v (get_or ks v 0 + 1)) w (subst (λ (n : ℕ). AreWorkers n vs) (sym long) are.1) in
    let o = added_one ks v w are.0 in
    omega (arith, r, o)

module _ (f : Bool) (k a b : ℕ) (some : 0 < k) where
  pub turns : (vs ks : List ℕ) (p : ℕ) → AreWorkers (length ks) vs → ((w : ℕ) → get_or ks w 0 + times w vs ≤ MOST_PINS)
      → Goes (mach f k (cur a p) (free_slot b) (idles ks)) (turn_steps vs) (mach f k (cur a (p + length vs)) (free_slot b) (idles (added vs ks)))
  turns [] ks p are few = let e : p ≡ p + 0 = omega arith in
      subst (λ (q : ℕ). Goes (mach f k (cur a p) (free_slot b) (idles ks)) [] (mach f k (cur a q) (free_slot b) (idles ks))) e (goes_none (mach f k (cur a p) (free_slot b) (idles ks)))
  turns (v ∷ vs) ks p are few =
      let m = mach f k (cur a p) (free_slot b) (idles ks) in
      let ks' = set ks v (get_or ks v 0 + 1) in
      let m2 = mach f k (cur a (p + 1)) (free_slot b) (idles ks') in
      let e : p + 1 + length vs ≡ p + suc (length vs) = omega arith in
      let long = length-set ks v (get_or ks v 0 + 1) in
      let itself : (v == v) ≡ true = grind arith in
      let one : ◌≡◌ {A = ℕ} (cond (v == v) 1 0) 1 = ap (λ (c : Bool). cond c 1 0) itself in
      let room = few v in
      let rest = turns vs ks' (p + 1) (subst (λ (n : ℕ). AreWorkers n vs) (sym long) are.1) (λ w. let x = few w in let o = added_one ks v w are.0 in omega (arith, x, o)) in
      goes_then m (mid f k a b p ks v) (mach f k (cur a (p + suc (length vs))) (free_slot b) (idles (added vs ks'))) (Pin v ∷ []) (Unpin v ∷ turn_steps vs)
      (goes_one m (mid f k a b p ks v) (Pin v) (Pinned (mine f) (k - 1)) (turn_pin f k a b p ks v some are.0 (omega (arith, room, one))) (pinned_lawful (mine f) (k - 1)))
      (goes_then (mid f k a b p ks v) m2 (mach f k (cur a (p + suc (length vs))) (free_slot b) (idles (added vs ks'))) (Unpin v ∷ []) (turn_steps vs)
      (goes_one (mid f k a b p ks v) m2 (Unpin v) Done (turn_unpin f k a b p ks v are.0) done_lawful)
      (subst (λ (q : ℕ). Goes m2 (turn_steps vs) (mach f k (cur a q) (free_slot b) (idles (added vs ks')))) e rest))

  pub turns_tell : (w : ℕ) (X : List PinMark) (ys : List PinStep) (vs ks : List ℕ) (p : ℕ) → AreWorkers (length ks) vs → ((v : ℕ) → get_or ks v 0 + times v vs ≤ MOST_PINS)
      → ((last : ℕ) → told_by w last (mach f k (cur a (p + length vs)) (free_slot b) (idles (added vs ks))) ys ≡ X)
      → (last : ℕ) → told_by w last (mach f k (cur a p) (free_slot b) (idles ks)) (turn_steps vs ++ ys) ≡ twice (times w vs) (k - 1) ++ X
  turns_tell w X ys [] ks p are few then last = let e : p + 0 ≡ p = omega arith in
      subst (λ (q : ℕ). told_by w last (mach f k (cur a q) (free_slot b) (idles ks)) ys ≡ X) e (then last)
  turns_tell w X ys (v ∷ vs) ks p are few then last =
      let ks' = set ks v (get_or ks v 0 + 1) in
      let e : p + suc (length vs) ≡ p + 1 + length vs = omega arith in
      let long = length-set ks v (get_or ks v 0 + 1) in
      let itself : (v == v) ≡ true = grind arith in
      let one : ◌≡◌ {A = ℕ} (cond (v == v) 1 0) 1 = ap (λ (c : Bool). cond c 1 0) itself in
      let room = few v in
      let m2 = mach f k (cur a (p + 1)) (free_slot b) (idles ks') in
      let rest = turns_tell w X ys vs ks' (p + 1) (subst (λ (n : ℕ). AreWorkers n vs) (sym long) are.1) (λ u. let x = few u in let o = added_one ks v u are.0 in omega (arith, x, o))
      (λ l. subst (λ (q : ℕ). told_by w l (mach f k (cur a q) (free_slot b) (idles (added vs ks'))) ys ≡ X) e (then l)) in
      told_two w last v (mine f) (k - 1) (mach f k (cur a p) (free_slot b) (idles ks)) (mid f k a b p ks v) m2 (turn_steps vs ++ ys)
      (turn_pin f k a b p ks v some are.0 (omega (arith, room, one))) (turn_unpin f k a b p ks v are.0)
      ∙ (ap (λ (l : List PinMark). cond (v == w) (pinned (k - 1) ∷ unpinned (k - 1) ∷ []) [] ++ l) (rest (cond (v == w) (k - 1) last)) ∙ more (v == w))
    where
      more : (c : Bool) → cond c (pinned (k - 1) ∷ unpinned (k - 1) ∷ []) [] ++ (twice (times w vs) (k - 1) ++ X) ≡ twice (cond c 1 0 + times w vs) (k - 1) ++ X
      more true = let e : suc (times w vs) ≡ 1 + times w vs = omega arith in ap (λ (n : ℕ). twice n (k - 1) ++ X) e
      more false = let e : times w vs ≡ 0 + times w vs = omega arith in ap (λ (n : ℕ). twice n (k - 1) ++ X) e
