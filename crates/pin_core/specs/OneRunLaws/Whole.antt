-- Serials that never fall on any side give one run, publication by publication.
use Rattle.std.proofs.Common.{◌≡◌, ◌≢◌, ◌<◌, ◌≤◌, ℕ, zero, suc, ◌+◌, ◌-◌, ◌==◌, Bool, true, false, not, cond, eqb-true, List, [], ◌∷◌, ◌++◌, map, length, get_or, replicate, refl, sym, ap, ◌∙◌, subst, arith}
use Rattle.std.specs.Prelude.{nat_le}
use Rattle.std.proofs.lemmas.List.{append-nil, length-map, length-replicate}
use Rattle.pin_core.specs.declared.slots.TheConstants.{MOST_PINS, MOST_SERIALS}
use Rattle.pin_core.specs.declared.steps.PinStep.{PinStep}
use Rattle.pin_core.specs.Machine.{Machine, idle, run, start, unused}
use Rattle.pin_core.specs.OneRun.{AreLawful, ArePinned, OnePinRun, PinMark, RisesTo, pin_marks, pinned, told_by, unpinned}
use Rattle.pin_core.specs.OneRunLaws.Publications.{begins, cur, first_quiet, first_steps, free_slot, goes_on, mach, next_quiet, next_steps}
use Rattle.pin_core.specs.OneRunLaws.Steps.{Goes, goes_then, told_quiet}
use Rattle.pin_core.specs.OneRunLaws.Turns.{AreWorkers, added, added_is, by_two, idles, length_added, rested, times, turn_steps, turns, turns_tell, twice}

-- whose turns come at a serial: worker by worker
abbrev at_serial : ℕ → ℕ → List (List ℕ) → List ℕ
at_serial s w [] = []
at_serial s w (l ∷ ls) = replicate (times s l) w ++ at_serial s (w + 1) ls

times-append : (w : ℕ) (xs ys : List ℕ) → times w (xs ++ ys) ≡ times w xs + times w ys
times-append w [] ys = omega arith
times-append w (x ∷ xs) ys = let h = times-append w xs ys in omega (arith, h)

times_same : (w c : ℕ) → times w (replicate c w) ≡ c
times_same w zero = refl
times_same w (suc c) = let e : (w == w) ≡ true = grind arith in let one : ◌≡◌ {A = ℕ} (cond (w == w) 1 0) 1 = ap (λ (b : Bool). cond b 1 0) e in let h = times_same w c in omega (arith, one, h)

times_other : (v w c : ℕ) → (v == w) ≡ false → times w (replicate c v) ≡ 0
times_other v w zero e = refl
times_other v w (suc c) e = let none : ◌≡◌ {A = ℕ} (cond (v == w) 1 0) 0 = ap (λ (b : Bool). cond b 1 0) e in let h = times_other v w c e in omega (arith, none, h)

below_none : (s w v : ℕ) (ls : List (List ℕ)) → v < w → times v (at_serial s w ls) ≡ 0
below_none s w v [] low = refl
below_none s w v (l ∷ ls) low =
    let a = times-append v (replicate (times s l) w) (at_serial s (w + 1) ls) in
    let b = times_other w v (times s l) (grind (arith, low)) in
    let c = below_none s (w + 1) v ls (omega (arith, low)) in
    omega (arith, a, b, c)

at_times : (s w j : ℕ) (ls : List (List ℕ)) → times (w + j) (at_serial s w ls) ≡ times s (get_or ls j [])
at_times s w j [] = refl
at_times s w zero (l ∷ ls) =
    let e : w + 0 ≡ w = omega arith in
    let a = times-append w (replicate (times s l) w) (at_serial s (w + 1) ls) in
    let b = times_same w (times s l) in
    let c = below_none s (w + 1) w ls (omega arith) in
    subst (λ (x : ℕ). times x (replicate (times s l) w ++ at_serial s (w + 1) ls) ≡ times s l) (sym e) (omega (arith, a, b, c))
at_times s w (suc j) (l ∷ ls) =
    let a = times-append (w + suc j) (replicate (times s l) w) (at_serial s (w + 1) ls) in
    let b = times_other w (w + suc j) (times s l) (grind arith) in
    let e : w + 1 + j ≡ w + suc j = omega arith in
    let c = subst (λ (x : ℕ). times x (at_serial s (w + 1) ls) ≡ times s (get_or ls j [])) e (at_times s (w + 1) j ls) in
    omega (arith, a, b, c)

at_worker : (s w : ℕ) (ls : List (List ℕ)) → times w (at_serial s 0 ls) ≡ times s (get_or ls w [])
at_worker s w ls = let e : 0 + w ≡ w = omega arith in subst (λ (x : ℕ). times x (at_serial s 0 ls) ≡ times s (get_or ls w [])) e (at_times s 0 w ls)

workers-append : (n : ℕ) (xs ys : List ℕ) → AreWorkers n xs → AreWorkers n ys → AreWorkers n (xs ++ ys)
workers-append n [] ys p q = q
workers-append n (x ∷ xs) ys p q = (p.0, workers-append n xs ys p.1 q)

workers_same : (n w c : ℕ) → w < n → AreWorkers n (replicate c w)
workers_same n w zero low = tt
workers_same n w (suc c) low = (low, workers_same n w c low)

workers_at : (n s w : ℕ) (ls : List (List ℕ)) → w + length ls ≤ n → AreWorkers n (at_serial s w ls)
workers_at n s w [] few = tt
workers_at n s w (l ∷ ls) few = workers-append n (replicate (times s l) w) (at_serial s (w + 1) ls) (workers_same n w (times s l) (omega (arith, few))) (workers_at n s (w + 1) ls (omega (arith, few)))

-- how many of these serials are not below this one
abbrev ahead : ℕ → List ℕ → ℕ
ahead s [] = 0
ahead s (x ∷ xs) = cond (nat_le s x) 1 0 + ahead s xs

ahead_all : (s : ℕ) (l : List ℕ) → ahead s l ≤ length l
ahead_all s [] = omega arith
ahead_all s (x ∷ xs) = let h = ahead_all s xs in by_two (nat_le s x)
    (λ e. let o : ◌≡◌ {A = ℕ} (cond (nat_le s x) 1 0) 1 = ap (λ (b : Bool). cond b 1 0) e in omega (arith, h, o))
    (λ e. let o : ◌≡◌ {A = ℕ} (cond (nat_le s x) 1 0) 0 = ap (λ (b : Bool). cond b 1 0) e in omega (arith, h, o))

one_ahead : (s x : ℕ) → ◌≡◌ {A = ℕ} (cond (nat_le s x) 1 0) (cond (x == s) 1 0 + cond (nat_le (s + 1) x) 1 0)
one_ahead s x = by_two (x == s)
    (λ e.
    let same : x ≡ s = eqb-true x s e in
    let a : nat_le s x ≡ true = grind (arith, same) in
    let b : nat_le (s + 1) x ≡ false = grind (arith, same) in
    let p : ◌≡◌ {A = ℕ} (cond (nat_le s x) 1 0) 1 = ap (λ (c : Bool). cond c 1 0) a in
    let q : ◌≡◌ {A = ℕ} (cond (x == s) 1 0) 1 = ap (λ (c : Bool). cond c 1 0) e in
    let r : ◌≡◌ {A = ℕ} (cond (nat_le (s + 1) x) 1 0) 0 = ap (λ (c : Bool). cond c 1 0) b in
    omega (arith, p, q, r))
    (λ e.
    let apart : x ≢ s = (λ t. absurd (grind (arith, e, t))) in
    let q : ◌≡◌ {A = ℕ} (cond (x == s) 1 0) 0 = ap (λ (c : Bool). cond c 1 0) e in
    by_two (nat_le s x)
    (λ a.
    let low : s ≤ x = grind (arith, a) in
    let more : s + 1 ≤ x = omega (arith, low, apart) in
    let b : nat_le (s + 1) x ≡ true = grind (arith, more) in
    let p : ◌≡◌ {A = ℕ} (cond (nat_le s x) 1 0) 1 = ap (λ (c : Bool). cond c 1 0) a in
    let r : ◌≡◌ {A = ℕ} (cond (nat_le (s + 1) x) 1 0) 1 = ap (λ (c : Bool). cond c 1 0) b in
    omega (arith, p, q, r))
    (λ a.
    let high : x < s = grind (arith, a) in
    let b : nat_le (s + 1) x ≡ false = grind (arith, high) in
    let p : ◌≡◌ {A = ℕ} (cond (nat_le s x) 1 0) 0 = ap (λ (c : Bool). cond c 1 0) a in
    let r : ◌≡◌ {A = ℕ} (cond (nat_le (s + 1) x) 1 0) 0 = ap (λ (c : Bool). cond c 1 0) b in
    omega (arith, p, q, r)))

ahead_next : (s : ℕ) (l : List ℕ) → ahead s l ≡ times s l + ahead (s + 1) l
ahead_next s [] = refl
ahead_next s (x ∷ xs) = let h = ahead_next s xs in let o = one_ahead s x in omega (arith, h, o)

-- the serials of a side, one publication after another
abbrev spell : ℕ → ℕ → List ℕ → List PinMark
spell s zero l = twice (times s l) s ++ []
spell s (suc left) l = twice (times s l) s ++ spell (s + 1) left l

abbrev rest_steps : Bool → ℕ → ℕ → ℕ → List (List ℕ) → List PinStep
rest_steps f n zero k ls = turn_steps (at_serial (k - 1) 0 ls) ++ []
rest_steps f n (suc left) k ls = turn_steps (at_serial (k - 1) 0 ls) ++ (next_steps f n ++ rest_steps (not f) n left (k + 1) ls)

record Rest (m : Machine) (steps : List PinStep) (published s left : ℕ) (ls : List (List ℕ)) : Type 0 where
  pub end : Machine
  pub goes : Goes m steps end
  pub count : end.published ≡ published
  pub told : (w last : ℕ) → told_by w last m steps ≡ spell s left (get_or ls w [])

count_is : (f : Bool) (k : ℕ) (x y : Rattle.pin_core.specs.declared.slots.Slot.Slot) (ws : List Rattle.pin_core.specs.declared.slots.PinWorker.PinWorker) → (mach f k x y ws).published ≡ k
count_is false k x y ws = refl
count_is true k x y ws = refl

rest : (f : Bool) (n left k a b : ℕ) (ks : List ℕ) (ls : List (List ℕ)) → 0 < k → length ks ≡ n → 0 < n → n ≤ 32 → k + left ≤ MOST_SERIALS → length ls ≤ n
    → ((w : ℕ) → get_or ks w 0 + ahead (k - 1) (get_or ls w []) ≤ MOST_PINS)
    → Rest (mach f k (cur a 0) (free_slot b) (idles ks)) (rest_steps f n left k ls) (k + left) (k - 1) left ls
rest f n zero k a b ks ls some long pos few most sides room =
    let vs = at_serial (k - 1) 0 ls in
    let are : AreWorkers (length ks) vs = workers_at (length ks) (k - 1) 0 ls (omega (arith, long, sides)) in
    let fits : (w : ℕ) → get_or ks w 0 + times w vs ≤ MOST_PINS = (λ w. let a1 = at_worker (k - 1) w ls in let a2 = ahead_next (k - 1) (get_or ls w []) in let a3 = room w in omega (arith, a1, a2, a3)) in
    let end = mach f k (cur a (0 + length vs)) (free_slot b) (idles (added vs ks)) in
    let e : k ≡ k + 0 = omega arith in
    record {
      end = end;
      goes = subst (λ (l : List PinStep). Goes (mach f k (cur a 0) (free_slot b) (idles ks)) l end) (sym (append-nil (turn_steps vs))) (turns f k a b some vs ks 0 are fits);
      count = count_is f k (cur a (0 + length vs)) (free_slot b) (idles (added vs ks)) ∙ e;
      told = λ w last. turns_tell f k a b some w [] [] vs ks 0 are fits (λ l. refl) last ∙ ap (λ (c : ℕ). twice c (k - 1) ++ []) (at_worker (k - 1) w ls);
    }
rest f n (suc left) k a b ks ls some long pos few most sides room =
    let vs = at_serial (k - 1) 0 ls in
    let are : AreWorkers (length ks) vs = workers_at (length ks) (k - 1) 0 ls (omega (arith, long, sides)) in
    let fits : (w : ℕ) → get_or ks w 0 + times w vs ≤ MOST_PINS = (λ w. let a1 = at_worker (k - 1) w ls in let a2 = ahead_next (k - 1) (get_or ls w []) in let a3 = room w in omega (arith, a1, a2, a3)) in
    let m = mach f k (cur a 0) (free_slot b) (idles ks) in
    let p = 0 + length vs in
    let ks' = added vs ks in
    let m1 = mach f k (cur a p) (free_slot b) (idles ks') in
    let m2 = mach (not f) (k + 1) (cur b 0) (free_slot (a + p)) (idles ks') in
    let len = length_added vs ks in
    let wide : length (idles ks') ≡ n = length-map ks' rested ∙ (len ∙ long) in
    let on = goes_on f k a p b n (idles ks') wide pos few (omega (arith, most)) in
    let s : k + 1 - 1 ≡ k - 1 + 1 = omega (arith, some) in
    let r = rest (not f) n left (k + 1) b (a + p) ks' ls (omega arith) (len ∙ long) pos few (omega (arith, most)) sides
    (λ w. let a1 = at_worker (k - 1) w ls in let a2 = ahead_next (k - 1) (get_or ls w []) in let a3 = room w in let a4 = added_is vs ks w are in
    let a5 : ahead (k + 1 - 1) (get_or ls w []) ≡ ahead (k - 1 + 1) (get_or ls w []) = ap (λ (x : ℕ). ahead x (get_or ls w [])) s in omega (arith, a1, a2, a3, a4, a5)) in
    let e : k + 1 + left ≡ k + suc left = omega arith in
    record {
      end = r.end;
      goes = goes_then m m1 r.end (turn_steps vs) (next_steps f n ++ rest_steps (not f) n left (k + 1) ls) (turns f k a b some vs ks 0 are fits)
          (goes_then m1 m2 r.end (next_steps f n) (rest_steps (not f) n left (k + 1) ls) on r.goes);
      count = r.count ∙ e;
      told = λ w last.
          turns_tell f k a b some w (spell (k - 1 + 1) left (get_or ls w [])) (next_steps f n ++ rest_steps (not f) n left (k + 1) ls) vs ks 0 are fits
          (λ l. told_quiet w l m1 (next_steps f n) (rest_steps (not f) n left (k + 1) ls) (next_quiet f n)
          ∙ (ap (λ (x : Machine). told_by w l x (rest_steps (not f) n left (k + 1) ls)) on.ends ∙ (r.told w l ∙ ap (λ (x : ℕ). spell x left (get_or ls w [])) s))) last
          ∙ ap (λ (c : ℕ). twice c (k - 1) ++ spell (k - 1 + 1) left (get_or ls w [])) (at_worker (k - 1) w ls);
    }

-- a side's serials are its spelling
spell_none : (s left : ℕ) → spell s left [] ≡ []
spell_none s zero = refl
spell_none s (suc left) = spell_none (s + 1) left

times_skip : (t x : ℕ) (l : List ℕ) → x < t → times t (x ∷ l) ≡ times t l
times_skip t x l low = let e : (x == t) ≡ false = grind (arith, low) in let none : ◌≡◌ {A = ℕ} (cond (x == t) 1 0) 0 = ap (λ (b : Bool). cond b 1 0) e in omega (arith, none)

spell_skip : (left t x : ℕ) (l : List ℕ) → x < t → spell t left (x ∷ l) ≡ spell t left l
spell_skip zero t x l low = ap (λ (c : ℕ). twice c t ++ []) (times_skip t x l low)
spell_skip (suc left) t x l low = λ i. twice (times_skip t x l low i) t ++ spell_skip left (t + 1) x l (omega (arith, low)) i

times_none : (bound s from : ℕ) (l : List ℕ) → s < from → RisesTo bound from l → times s l ≡ 0
times_none bound s from [] low rises = refl
times_none bound s from (x ∷ l) low rises =
    let e : (x == s) ≡ false = grind (arith, low, rises.0) in
    let none : ◌≡◌ {A = ℕ} (cond (x == s) 1 0) 0 = ap (λ (b : Bool). cond b 1 0) e in
    let h = times_none bound s x l (let r = rises.0 in omega (arith, low, r)) rises.2 in
    omega (arith, none, h)

times_here : (s x : ℕ) (l : List ℕ) → x ≡ s → times s (x ∷ l) ≡ suc (times s l)
times_here s x l e = let t : (x == s) ≡ true = grind (arith, e) in let one : ◌≡◌ {A = ℕ} (cond (x == s) 1 0) 1 = ap (λ (b : Bool). cond b 1 0) t in omega (arith, one)

spelt_last : (s : ℕ) (l : List ℕ) → RisesTo (s + 1) s l → spell s 0 l ≡ pin_marks l
spelt_last s [] rises = refl
spelt_last s (x ∷ l) rises =
    let e : x ≡ s = let a = rises.0 in let b = rises.1 in omega (arith, a, b) in
    ap (λ (c : ℕ). twice c s ++ []) (times_here s x l e)
    ∙ (ap (λ (r : List PinMark). pinned s ∷ unpinned s ∷ r) (spelt_last s l (subst (λ (y : ℕ). RisesTo (s + 1) y l) e rises.2)) ∙ ap (λ (y : ℕ). pinned y ∷ unpinned y ∷ pin_marks l) (sym e))

spelt_more : (left s : ℕ) (l : List ℕ) → ((m : List ℕ) → RisesTo (s + suc left + 1) (s + 1) m → spell (s + 1) left m ≡ pin_marks m) → RisesTo (s + suc left + 1) s l → spell s (suc left) l ≡ pin_marks l
spelt_more left s [] outer rises = spell_none (s + 1) left
spelt_more left s (x ∷ l) outer rises = by_two (x == s)
    (λ e.
    let same : x ≡ s = eqb-true x s e in
    let inner = spelt_more left s l outer (subst (λ (y : ℕ). RisesTo (s + suc left + 1) y l) same rises.2) in
    (λ i. twice (times_here s x l same i) s ++ spell_skip left (s + 1) x l (omega (arith, same)) i)
    ∙ (ap (λ (r : List PinMark). pinned s ∷ unpinned s ∷ r) inner ∙ ap (λ (y : ℕ). pinned y ∷ unpinned y ∷ pin_marks l) (sym same)))
    (λ e.
    let apart : x ≢ s = (λ t. absurd (grind (arith, e, t))) in
    let a = rises.0 in
    let up : RisesTo (s + suc left + 1) (s + 1) (x ∷ l) = (omega (arith, a, apart), rises.1, rises.2) in
    ap (λ (c : ℕ). twice c s ++ spell (s + 1) left (x ∷ l)) (times_none (s + suc left + 1) s (s + 1) (x ∷ l) (omega arith) up) ∙ outer (x ∷ l) up)

spelt : (left s : ℕ) (l : List ℕ) → RisesTo (s + left + 1) s l → spell s left l ≡ pin_marks l
spelt zero s l rises = spelt_last s l (let e : s + 0 + 1 ≡ s + 1 = omega arith in subst (λ (n : ℕ). RisesTo n s l) e rises)
spelt (suc left) s l rises = spelt_more left s l
    (λ m up. spelt left (s + 1) m (let e : s + suc left + 1 ≡ s + 1 + left + 1 = omega arith in subst (λ (n : ℕ). RisesTo n (s + 1) m) e up)) rises

pinned_at : (published w : ℕ) (ls : List (List ℕ)) → ArePinned published ls → RisesTo published 0 (get_or ls w []) × (length (get_or ls w []) ≤ MOST_PINS)
pinned_at published w [] are = (tt, omega arith)
pinned_at published zero (l ∷ ls) are = (are.0, are.1)
pinned_at published (suc w) (l ∷ ls) are = pinned_at published w ls are.2

marks_at : (w : ℕ) (ls : List (List ℕ)) → get_or (map pin_marks ls) w [] ≡ pin_marks (get_or ls w [])
marks_at w [] = refl
marks_at zero (l ∷ ls) = refl
marks_at (suc w) (l ∷ ls) = marks_at w ls

none_marks : (l : List ℕ) → RisesTo 0 0 l → pin_marks l ≡ []
none_marks [] rises = refl
none_marks (x ∷ l) rises = let h = rises.1 in absurd (omega (arith, h))

zeros_at : (n w : ℕ) → ◌≡◌ {A = ℕ} (get_or (replicate n 0) w 0) 0
zeros_at zero w = refl
zeros_at (suc n) zero = refl
zeros_at (suc n) (suc w) = zeros_at n w

idle_all : (n : ℕ) → replicate n idle ≡ idles (replicate n 0)
idle_all zero = refl
idle_all (suc n) = ap (λ (l : List _). idle ∷ l) (idle_all n)

-- the run
pub one_run : (n published : ℕ) (ls : List (List ℕ)) → 0 < n → n ≤ 32 → published ≤ MOST_SERIALS → length ls ≤ n → ArePinned published ls → OnePinRun n published (map pin_marks ls)
one_run n zero ls some few most sides are = record {
  steps = [];
  lawful = tt;
  pins = λ w. sym (marks_at w ls ∙ none_marks (get_or ls w []) (pinned_at 0 w ls are).0);
  count = refl;
}
one_run n (suc left) ls some few most sides are =
    let ks = replicate n 0 in
    let wide : length ks ≡ n = length-replicate n 0 in
    let same : start n ≡ mach true 0 unused (free_slot 0) (idles ks) = ap (λ (ws : List _). mach true 0 unused (free_slot 0) ws) (idle_all n) in
    let long : length (idles ks) ≡ n = length-map ks rested ∙ wide in
    let first = begins n (idles ks) long some few in
    let m0 = mach true 0 unused (free_slot 0) (idles ks) in
    let m1 = mach false 1 (cur 0 0) (free_slot 0) (idles ks) in
    let r = rest false n left 1 0 0 ks ls (omega arith) wide some few (omega (arith, most)) sides
    (λ w. let a = zeros_at n w in let b = ahead_all 0 (get_or ls w []) in let c = (pinned_at (suc left) w ls are).1 in omega (arith, a, b, c)) in
    let steps = first_steps n ++ rest_steps false n left 1 ls in
    let goes = goes_then m0 m1 r.end (first_steps n) (rest_steps false n left 1 ls) first r.goes in
    let bound : suc left ≡ 0 + left + 1 = omega arith in
    let e : 1 + left ≡ suc left = omega arith in
    let count : (run m0 steps).published ≡ suc left = ap (λ (m : Machine). m.published) goes.ends ∙ (r.count ∙ e) in
    record {
      steps = steps;
      lawful = subst (λ (m : Machine). AreLawful m steps) (sym same) goes.lawful;
      pins = λ w. subst (λ (m : Machine). told_by w 0 m steps ≡ get_or (map pin_marks ls) w []) (sym same)
          (told_quiet w 0 m0 (first_steps n) (rest_steps false n left 1 ls) (first_quiet n)
          ∙ (ap (λ (m : Machine). told_by w 0 m (rest_steps false n left 1 ls)) first.ends
          ∙ (r.told w 0 ∙ (spelt left 0 (get_or ls w []) (subst (λ (x : ℕ). RisesTo x 0 (get_or ls w [])) bound (pinned_at (suc left) w ls are).0) ∙ sym (marks_at w ls)))));
      count = subst (λ (m : Machine). (run m steps).published ≡ suc left) (sym same) count;
    }
