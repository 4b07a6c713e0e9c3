-- Each step keeps the machine sound, and so does each list of steps; what a sound machine tells of its slots.
use Rattle.std.specs.Prelude.{◌≡◌, ◌≢◌, ℕ, ◌+◌, ◌^◌, ◌<◌, ◌≤◌, ◌⊎◌, Bool, true, false, List, [], ◌∷◌, All, length, map, Option, Some, None, refl, slice_set, slice_index_or, sum_by, count_by, nat_lt}
use Rattle.std.proofs.Common.{suc, inl, inr, cond, ltb, sym, ap, ◌∙◌, subst, arith, length-set, eq-eqb}
use Rattle.std.proofs.Math.Logic.{dite}
use Rattle.std.proofs.Math.Decide.{ℕ_discrete}
use Rattle.std.proofs.lemmas.List.{get_or-set_same, get_or-set_other, get_or-map, get_or-replicate, length-map, length-replicate}
use Rattle.std.proofs.lemmas.List.Elements.{All-set, All-get_or, All-from_get_or, All-map, All-replicate}
use Rattle.std.proofs.lemmas.List.Folds.{sum_by-replicate}
use Rattle.std.proofs.lemmas.List.Sums.{sum_by-set, sum_by-cons, sum_by-le, get_or-le-sum_by, passes_at_first, fails_before_first, position_or_len_is}
use Rattle.std.proofs.lemmas.Bool.{false≢true, lt-ltb, ltb-true, ne_eqb, ltb-false}
use Rattle.pin_core.specs.declared.slots.TheConstants.{MOST_PINS, MOST_SERIALS}
use Rattle.pin_core.specs.declared.slots.Slot.{Slot}
use Rattle.pin_core.specs.declared.slots.Phase.{Phase}
use Rattle.pin_core.specs.declared.slots.Phase.TheVariants.{Free, Filling, Current, Replaced}
use Rattle.pin_core.specs.declared.slots.PinWorker.{PinWorker}
use Rattle.pin_core.specs.declared.steps.PinStep.{PinStep}
use Rattle.pin_core.specs.declared.steps.PinStep.TheVariants.{Fill, Publish, Pin, Unpin, Sweep, Drain}
use Rattle.pin_core.specs.declared.steps.PinReply.TheVariants.{Done, Unlawful}
use Rattle.pin_core.specs.Slots.{is_all, with_mark, lacks, filled_phase, filled_slot, is_current, is_replaced, is_drainable, due, due_by, replaced_slot, replaced_phase, published_slot, pinned_slot, pinned_phase, unpinned_slot, is_filled, ready_slot, ready_phase, drained_slot, drained_by}
use Rattle.pin_core.specs.Machine.{Machine, After, DrainsIdle, IsSound, IsSmall, IsSettled, IsSettledBy, IsWithin, IsPinWithin, slot_at, worker_at, count, current, opens, is_open_on, is_pin_on, with_slot, with_worker, published_at, pinned_at, unpinned_at, unused, idle, start, after, run}
use Rattle.pin_core.specs.Laws.RowLemmas.{by_rows}

-- 1 for true
abbrev pub one_if : Bool → ℕ
one_if b = cond b 1 0

-- P of each slot, where one was replaced by y
pub at_slot : (P : ℕ → Slot → Type 0) (slots : List Slot) (s t : ℕ) (y : Slot) → s < length slots → P s y → (t ≢ s → P t (slice_index_or slots t unused)) → P t (slice_index_or (slice_set slots s y) t unused)
at_slot P slots s t y here same other = dite (ℕ_discrete t s)
    (λ e. subst (λ i. P i (slice_index_or (slice_set slots s y) i unused)) (sym e) (subst (P s) (sym (get_or-set_same slots s y unused here)) same))
    (λ ne. subst (P t) (sym (get_or-set_other slots s t y unused ne)) (other ne))

-- no element passes, so none is counted
pub count_by-none : {X : Type 0} (p : X → Bool) (d : X) (xs : List X) → ((i : ℕ) → i < length xs → p (slice_index_or xs i d) ≡ false) → count_by p xs ≡ 0
count_by-none p d [] h = refl
count_by-none p d (x ∷ xs) h = omega (arith, sum_by-cons (λ z. cond (p z) 1 0) x xs, ap one_if (h 0 (omega arith)), count_by-none p d xs (λ i l. h (suc i) (omega arith)))

-- the facts of a sound machine from which the others follow
record Counted (m : Machine) : Type 0 where
  slots : length m.slots ≡ 4
  workers : (0 < count m) × (count m ≤ 32)
  within : All IsWithin m.workers
  balanced : (s : ℕ) → s < 4 → (slot_at m s).ended + opens m s ≡ due (slot_at m s)
  settled : All IsSettled m.slots
  total : sum_by due m.slots ≡ sum_by (λ x. x.pins) m.workers
  pins : All (λ x. x.pins ≤ MOST_PINS) m.workers
  bases : All (λ x. x.base < 2 ^ 52) m.slots
  serials : m.published ≤ MOST_SERIALS
  one_current : count_by (λ x. is_current x.phase) m.slots ≡ cond (nat_lt 0 m.published) 1 0

-- no slot had more pins than all workers made
due_small : (m : Machine) → Counted m → (s : ℕ) → s < 4 → due (slot_at m s) < 2 ^ 52
due_small m h s in' =
    let one = get_or-le-sum_by due m.slots s unused (omega (arith, h.slots)) in
    let all = sum_by-le (λ (x : PinWorker). x.pins) MOST_PINS m.workers h.pins in
    let few : count m ≤ 32 = h.workers.1 in omega (arith, h.total)

sound_of : (m : Machine) → Counted m → IsSound m
sound_of m h = record {
  slots = h.slots;
  workers = h.workers;
  within = h.within;
  balanced = h.balanced;
  settled = h.settled;
  total = h.total;
  pins = h.pins;
  small = All-from_get_or IsSmall m.slots unused (λ s l. let in' : s < 4 = omega (arith, h.slots) in let few = due_small m h s in' in record {
    base = All-get_or (λ (x : Slot). x.base < 2 ^ 52) m.slots s unused l h.bases;
    ended = omega (arith, few, h.balanced s in');
    due = few;
  });
  serials = h.serials;
  one_current = h.one_current;
}

bases_of : (m : Machine) → IsSound m → All (λ x. x.base < 2 ^ 52) m.slots
bases_of m h = All-from_get_or (λ (x : Slot). x.base < 2 ^ 52) m.slots unused (λ s l. let k = All-get_or IsSmall m.slots s unused l h.small in k.base)

-- a slot that goes from x to y with the same counts
pub record Kept (x y : Slot) : Type 0 where
  pub base : (y.base ≡ x.base) ⊎ (y.base ≡ x.ended)
  pub ended : y.ended ≡ x.ended
  pub due : due y ≡ due x
  pub settled : IsSettled x → IsSettled y
  pub current : is_current y.phase ≡ is_current x.phase

pub sound_slot : (m : Machine) (s : ℕ) (y : Slot) → IsSound m → s < 4 → Kept (slot_at m s) y → IsSound (with_slot m s y)
sound_slot m s y h in' k =
    let x = slot_at m s in
    let here : s < length m.slots = omega (arith, h.slots) in
    let small = All-get_or IsSmall m.slots s unused here h.small in
    sound_of (with_slot m s y) record {
      slots = length-set m.slots s y ∙ h.slots;
      workers = h.workers;
      within = h.within;
      balanced = λ t l. at_slot (λ i z. z.ended + opens m i ≡ due z) m.slots s t y here (omega (arith, k.ended, k.due, h.balanced s in')) (λ _. h.balanced t l);
      settled = All-set IsSettled m.slots s y (k.settled (All-get_or IsSettled m.slots s unused here h.settled)) h.settled;
      total = (let e = sum_by-set due m.slots s y unused here in omega (arith, e, k.due, h.total));
      pins = h.pins;
      bases = All-set (λ (z : Slot). z.base < 2 ^ 52) m.slots s y (elim k.base [ inl e ↦ omega (arith, small.base) | inr e ↦ omega (arith, small.ended) ]) (bases_of m h);
      serials = h.serials;
      one_current = (let e = sum_by-set (λ (z : Slot). one_if (is_current z.phase)) m.slots s y unused here in
          let same = ap one_if k.current in omega (arith, e, same, h.one_current));
    }

kept_fill : (w b e : ℕ) (p : Phase) → lacks w p ≡ true → Kept (record { base = b; ended = e; phase = p }) (record { base = b; ended = e; phase = filled_phase w p })
kept_fill w b e Free is = record { base = inl refl; ended = refl; due = refl; settled = λ h. h; current = refl }
kept_fill w b e (Filling marks) is = record { base = inl refl; ended = refl; due = refl; settled = λ h. h; current = refl }
kept_fill w b e (Current pins) is = absurd (false≢true is)
kept_fill w b e (Replaced total ready drained) is = absurd (false≢true is)

kept_ready : (b e : ℕ) (p : Phase) → is_replaced p ≡ true → e ≡ due_by b p → Kept (record { base = b; ended = e; phase = p }) (record { base = b; ended = e; phase = ready_phase p })
kept_ready b e Free is all = absurd (false≢true is)
kept_ready b e (Filling marks) is all = absurd (false≢true is)
kept_ready b e (Current pins) is all = absurd (false≢true is)
kept_ready b e (Replaced total ready drained) is all = record { base = inl refl; ended = refl; due = refl; settled = λ _ _. all; current = refl }

kept_drain : (n w b e : ℕ) (p : Phase) → is_drainable w p ≡ true → IsSettledBy (record { base = b; ended = e; phase = p }) p
    → Kept (record { base = b; ended = e; phase = p }) (drained_by n w (record { base = b; ended = e; phase = p }) p)
kept_drain n w b e Free is h = absurd (false≢true is)
kept_drain n w b e (Filling marks) is h = absurd (false≢true is)
kept_drain n w b e (Current pins) is h = absurd (false≢true is)
kept_drain n w b e (Replaced total false drained) is h = absurd (false≢true is)
kept_drain n w b e (Replaced total true drained) is h = by_all (is_all n (with_mark w drained))
  where
    by_all : (all : Bool) → Kept (record { base = b; ended = e; phase = Replaced total true drained })
        (cond all (record { base = e; ended = e; phase = Free }) (record { base = b; ended = e; phase = Replaced total true (with_mark w drained) }))
    by_all true = record { base = inr refl; ended = refl; due = h refl; settled = λ _. refl; current = refl }
    by_all false = record { base = inl refl; ended = refl; due = refl; settled = λ g. g; current = refl }

pub sound_fill : (m : Machine) (s w : ℕ) → IsSound m → s < 4 → lacks w (slot_at m s).phase ≡ true → IsSound (with_slot m s (filled_slot w (slot_at m s)))
sound_fill m s w h in' is = let x = slot_at m s in sound_slot m s (filled_slot w x) h in' (kept_fill w x.base x.ended x.phase is)

pub sound_ready : (m : Machine) (s : ℕ) → IsSound m → s < 4 → is_replaced (slot_at m s).phase ≡ true → due (slot_at m s) ≤ (slot_at m s).ended → IsSound (with_slot m s (ready_slot (slot_at m s)))
sound_ready m s h in' is all = let x = slot_at m s in sound_slot m s (ready_slot x) h in' (kept_ready x.base x.ended x.phase is (omega (arith, h.balanced s in')))

pub sound_drain : (m : Machine) (s w : ℕ) → IsSound m → s < 4 → is_drainable w (slot_at m s).phase ≡ true → IsSound (with_slot m s (drained_slot (count m) w (slot_at m s)))
sound_drain m s w h in' is =
    let x = slot_at m s in
    sound_slot m s (drained_slot (count m) w x) h in' (kept_drain (count m) w x.base x.ended x.phase is (All-get_or IsSettled m.slots s unused (omega (arith, h.slots)) h.settled))

-- 1 where the worker's open pin is on this slot
abbrev on : ℕ → PinWorker → ℕ
on t z = one_if (is_open_on t z)

-- what a pin or an unpin makes of the slot x and the worker u: y and v
record Moved (s : ℕ) (x y : Slot) (u v : PinWorker) : Type 0 where
  base : y.base ≡ x.base
  others : (t : ℕ) → t ≢ s → on t v ≡ on t u
  mine : y.ended + on s v + due x ≡ x.ended + on s u + due y
  pins : due y + u.pins ≡ due x + v.pins
  settled : IsSettled y
  current : is_current y.phase ≡ is_current x.phase
  within : IsWithin v
  few : v.pins ≤ MOST_PINS

sound_moved : (m : Machine) (s w : ℕ) (y : Slot) (v : PinWorker) → IsSound m → s < 4 → w < count m → Moved s (slot_at m s) y (worker_at m w) v → IsSound (with_worker (with_slot m s y) w v)
sound_moved m s w y v h in' at k =
    let here : s < length m.slots = omega (arith, h.slots) in
    let small = All-get_or IsSmall m.slots s unused here h.small in
    let opened = λ (t : ℕ). sum_by-set (on t) m.workers w v idle at in
    sound_of (with_worker (with_slot m s y) w v) record {
      slots = length-set m.slots s y ∙ h.slots;
      workers = (omega (arith, h.workers.0, length-set m.workers w v), omega (arith, h.workers.1, length-set m.workers w v));
      within = All-set IsWithin m.workers w v k.within h.within;
      balanced = λ t l. at_slot (λ i z. z.ended + count_by (is_open_on i) (slice_set m.workers w v) ≡ due z) m.slots s t y here
          (omega (arith, opened s, k.mine, h.balanced s in'))
          (λ ne. omega (arith, opened t, k.others t ne, h.balanced t l));
      settled = All-set IsSettled m.slots s y k.settled h.settled;
      total = (let e = sum_by-set due m.slots s y unused here in let f = sum_by-set (λ (z : PinWorker). z.pins) m.workers w v idle at in omega (arith, e, f, k.pins, h.total));
      pins = All-set (λ (z : PinWorker). z.pins ≤ MOST_PINS) m.workers w v k.few h.pins;
      bases = All-set (λ (z : Slot). z.base < 2 ^ 52) m.slots s y (omega (arith, k.base, small.base)) (bases_of m h);
      serials = h.serials;
      one_current = (let e = sum_by-set (λ (z : Slot). one_if (is_current z.phase)) m.slots s y unused here in
          let same = ap one_if k.current in omega (arith, e, same, h.one_current));
    }

due_pinned : (b : ℕ) (p : Phase) → is_current p ≡ true → due_by b (pinned_phase p) ≡ due_by b p + 1
due_pinned b Free is = absurd (false≢true is)
due_pinned b (Filling marks) is = absurd (false≢true is)
due_pinned b (Current pins) is = omega arith
due_pinned b (Replaced total ready drained) is = absurd (false≢true is)

settled_pinned : (b e : ℕ) (p : Phase) → is_current p ≡ true → IsSettledBy (record { base = b; ended = e; phase = pinned_phase p }) (pinned_phase p)
settled_pinned b e Free is = absurd (false≢true is)
settled_pinned b e (Filling marks) is = absurd (false≢true is)
settled_pinned b e (Current pins) is = tt
settled_pinned b e (Replaced total ready drained) is = absurd (false≢true is)

current_pinned : (p : Phase) → is_current (pinned_phase p) ≡ is_current p
current_pinned Free = refl
current_pinned (Filling marks) = refl
current_pinned (Current pins) = refl
current_pinned (Replaced total ready drained) = refl

on_none : (t : ℕ) (z : PinWorker) → z.held ≡ None → on t z ≡ 0
on_none t z e = ap (λ (h : Option ℕ). one_if (is_pin_on t h)) e

pub on_same : (t : ℕ) (z : PinWorker) → z.held ≡ Some t → one_if (is_open_on t z) ≡ 1
on_same t z e = ap (λ (h : Option ℕ). one_if (is_pin_on t h)) e ∙ ap one_if (eq-eqb t t refl)

on_other : (t s : ℕ) (z : PinWorker) → z.held ≡ Some s → t ≢ s → on t z ≡ 0
on_other t s z e ne = ap (λ (h : Option ℕ). one_if (is_pin_on t h)) e ∙ ap one_if (ne_eqb s t (λ i. ne (sym i)))

-- once something is published, the current slot is one of the four, and it is the current one
pub current_within : (m : Machine) → IsSound m → 0 < m.published → (current m < 4) × (is_current (slot_at m (current m)).phase ≡ true)
current_within m h some = by_past (ltb (current m) 4) refl
  where
    found : current m < 4 → (current m < 4) × (is_current (slot_at m (current m)).phase ≡ true)
    found l = (l, passes_at_first (λ (x : Slot). is_current x.phase) m.slots unused (omega (arith, h.slots)))

    nothing : 4 ≤ current m → ⊥
    nothing past =
        let zero' = count_by-none (λ (x : Slot). is_current x.phase) unused m.slots (λ i l. fails_before_first (λ (x : Slot). is_current x.phase) m.slots i unused (omega (arith, h.slots))) in
        let one = ap one_if (lt-ltb 0 m.published some) in
        omega (arith, zero', one, h.one_current)

    by_past : (b : Bool) → ltb (current m) 4 ≡ b → (current m < 4) × (is_current (slot_at m (current m)).phase ≡ true)
    by_past true e = found (ltb-true (current m) 4 e)
    by_past false e = absurd (nothing (ltb-false (current m) 4 e))

pub sound_pin : (m : Machine) (s w : ℕ) → IsSound m → s < 4 → w < count m → is_current (slot_at m s).phase ≡ true → (worker_at m w).held ≡ None → (worker_at m w).pins < MOST_PINS → IsSound (pinned_at m s w)
sound_pin m s w h in' at is none few =
    let x = slot_at m s in
    let v : PinWorker = record { held = Some s; pins = (worker_at m w).pins + 1 } in
    let d = due_pinned x.base x.phase is in
    sound_moved m s w (pinned_slot x) v h in' at record {
      base = refl;
      others = λ t ne. on_other t s v refl ne ∙ sym (on_none t (worker_at m w) none);
      mine = omega (arith, d, on_same s v refl, on_none s (worker_at m w) none);
      pins = omega (arith, d);
      settled = settled_pinned x.base x.ended x.phase is;
      current = current_pinned x.phase;
      within = in';
      few = omega arith;
    }

settled_unpinned : (b e k : ℕ) (p : Phase) → 0 < k → e + k ≡ due_by b p → IsSettledBy (record { base = b; ended = e; phase = p }) p → IsSettledBy (record { base = b; ended = e + 1; phase = p }) p
settled_unpinned b e k Free some is h = omega arith
settled_unpinned b e k (Filling marks) some is h = omega arith
settled_unpinned b e k (Current pins) some is h = tt
settled_unpinned b e k (Replaced total ready drained) some is h = λ r. let g = h r in omega arith

pub sound_unpin : (m : Machine) (s w : ℕ) → IsSound m → w < count m → (worker_at m w).held ≡ Some s → IsSound (unpinned_at m s w)
sound_unpin m s w h at is =
    let in' : s < 4 = subst IsPinWithin is (All-get_or IsWithin m.workers w idle at h.within) in
    let x = slot_at m s in
    let u = worker_at m w in
    let v : PinWorker = record { held = None; pins = u.pins } in
    let some = get_or-le-sum_by (on s) m.workers w idle at in
    let one = on_same s u is in
    sound_moved m s w (unpinned_slot x) v h in' at record {
      base = refl;
      others = λ t ne. sym (on_other t s u is ne);
      mine = omega (arith, one);
      pins = refl;
      settled = settled_unpinned x.base x.ended (opens m s) x.phase (omega (arith, some, one)) (h.balanced s in') (All-get_or IsSettled m.slots s unused (omega (arith, h.slots)) h.settled);
      current = refl;
      within = tt;
      few = All-get_or (λ (z : PinWorker). z.pins ≤ MOST_PINS) m.workers w idle at h.pins;
    }

due_replaced : (b : ℕ) (p : Phase) → due_by b (replaced_phase b p) ≡ due_by b p
due_replaced b Free = refl
due_replaced b (Filling marks) = refl
due_replaced b (Current pins) = refl
due_replaced b (Replaced total ready drained) = refl

settled_replaced : (b e : ℕ) (p : Phase) → IsSettledBy (record { base = b; ended = e; phase = p }) p → IsSettledBy (record { base = b; ended = e; phase = replaced_phase b p }) (replaced_phase b p)
settled_replaced b e Free h = h
settled_replaced b e (Filling marks) h = h
settled_replaced b e (Current pins) h = λ r. absurd (false≢true r)
settled_replaced b e (Replaced total ready drained) h = h

none_current : (b : ℕ) (p : Phase) → is_current (replaced_phase b p) ≡ false
none_current b Free = refl
none_current b (Filling marks) = refl
none_current b (Current pins) = refl
none_current b (Replaced total ready drained) = refl

sum_replaced : (xs : List Slot) → sum_by due (map replaced_slot xs) ≡ sum_by due xs
sum_replaced [] = refl
sum_replaced (x ∷ xs) = omega (arith, sum_by-cons due (replaced_slot x) (map replaced_slot xs), sum_by-cons due x xs, due_replaced x.base x.phase, sum_replaced xs)

count_replaced : (xs : List Slot) → count_by (λ x. is_current x.phase) (map replaced_slot xs) ≡ 0
count_replaced [] = refl
count_replaced (x ∷ xs) = omega (arith, sum_by-cons (λ (z : Slot). one_if (is_current z.phase)) (replaced_slot x) (map replaced_slot xs), ap one_if (none_current x.base x.phase), count_replaced xs)

all_settled : (xs : List Slot) → All IsSettled xs → All IsSettled (map replaced_slot xs)
all_settled xs h = All-map IsSettled replaced_slot xs (All-from_get_or (λ (x : Slot). IsSettled (replaced_slot x)) xs unused
    (λ i l. let y = slice_index_or xs i unused in settled_replaced y.base y.ended y.phase (All-get_or IsSettled xs i unused l h)))

due_filled : (n b : ℕ) (p : Phase) → is_filled n p ≡ true → due_by b p ≡ b
due_filled n b Free is = refl
due_filled n b (Filling marks) is = refl
due_filled n b (Current pins) is = absurd (false≢true is)
due_filled n b (Replaced total ready drained) is = absurd (false≢true is)

pub sound_publish : (m : Machine) (s : ℕ) → IsSound m → s < 4 → m.published < MOST_SERIALS → is_filled (count m) (slot_at m s).phase ≡ true → IsSound (published_at m s)
sound_publish m s h in' few is =
    let here : s < length m.slots = omega (arith, h.slots) in
    let old = map replaced_slot m.slots in
    let long : length old ≡ length m.slots = length-map m.slots replaced_slot in
    let here' : s < length old = omega (arith, long) in
    let x = slot_at m s in
    let y = published_slot x in
    let dx = due_filled (count m) x.base x.phase is in
    let at : slice_index_or old s unused ≡ replaced_slot x = get_or-map replaced_slot m.slots s unused unused here in
    let base = λ (z : Slot). z.base < 2 ^ 52 in
    sound_of (published_at m s) record {
      slots = length-set old s y ∙ long ∙ h.slots;
      workers = h.workers;
      within = h.within;
      balanced = λ t l. at_slot (λ i z. z.ended + opens m i ≡ due z) old s t y here' (omega (arith, dx, h.balanced s in'))
          (λ _. let z = slot_at m t in subst (λ (v : Slot). v.ended + opens m t ≡ due v) (sym (get_or-map replaced_slot m.slots t unused unused (omega (arith, h.slots)))) (h.balanced t l ∙ sym (due_replaced z.base z.phase)));
      settled = All-set IsSettled old s y tt (all_settled m.slots h.settled);
      total = (let e = sum_by-set due old s y unused here' in let f = ap due at ∙ due_replaced x.base x.phase in omega (arith, e, f, dx, sum_replaced m.slots, h.total));
      pins = h.pins;
      bases = All-set base old s y (All-get_or base m.slots s unused here (bases_of m h)) (All-map base replaced_slot m.slots (bases_of m h));
      serials = omega arith;
      one_current = (let e = sum_by-set (λ (z : Slot). one_if (is_current z.phase)) old s y unused here' in
          let f = ap (λ (z : Slot). one_if (is_current z.phase)) at ∙ ap one_if (none_current x.base x.phase) in
          let one = ap one_if (lt-ltb 0 (m.published + 1) (omega arith)) in omega (arith, e, f, one, count_replaced m.slots));
    }

at_most_one : (b : Bool) → one_if b ≤ 1
at_most_one true = omega arith
at_most_one false = omega arith

-- no slot but the current one is current
pub current_is : (m : Machine) (s : ℕ) → IsSound m → s < 4 → is_current (slot_at m s).phase ≡ true → current m ≡ s
current_is m s h in' is = position_or_len_is p m.slots s unused (omega (arith, h.slots)) earlier (λ _. is)
  where
    p : Slot → Bool
    p x = is_current x.phase

    here : s < length m.slots
    here = omega (arith, h.slots)

    by_test : (k : ℕ) → k < s → (b : Bool) → p (slot_at m k) ≡ b → p (slot_at m k) ≡ false
    by_test k l false e = e
    by_test k l true e =
        let one = at_most_one (nat_lt 0 m.published) in
        let without = sum_by-set (λ (x : Slot). one_if (p x)) m.slots s unused unused here in
        let other = get_or-le-sum_by (λ (x : Slot). one_if (p x)) (slice_set m.slots s unused) k unused (omega (arith, length-set m.slots s unused)) in
        let same = ap (λ (x : Slot). one_if (p x)) (get_or-set_other m.slots s k unused unused (λ e'. omega arith)) in
        absurd (omega (arith, without, other, same, ap one_if e, ap one_if is, h.one_current, one))

    earlier : (k : ℕ) → k < s → p (slot_at m k) ≡ false
    earlier k l = by_test k l (p (slot_at m k)) refl

-- each step keeps the machine sound
pub sound_after : (m : Machine) (step : PinStep) → IsSound m → IsSound (after m step).0
sound_after m step h = by_rows m (λ _ a. IsSound a.0) (record {
  fill = λ s w in' at is. sound_fill m s w h in' is;
  publish = λ s in' few is. sound_publish m s h in' few is;
  pin = λ w some at none few. let here = current_within m h some in sound_pin m (current m) w h here.0 at here.1 none few;
  unpin = λ s w at is. sound_unpin m s w h at is;
  not_yet = λ s in' is l. h;
  ready = λ s in' is l. sound_ready m s h in' is l;
  drain = λ s w in' at is. sound_drain m s w h in' is;
  refused = λ step. h;
}) step

-- each list of steps keeps the machine sound
pub sound_run : (m : Machine) (steps : List PinStep) → IsSound m → IsSound (run m steps)
sound_run m [] h = h
sound_run m (step ∷ steps) h = sound_run (after m step).0 steps (sound_after m step h)

-- the start is sound
pub sound_start : (n : ℕ) → 0 < n → n ≤ 32 → IsSound (start n)
sound_start n some few = sound_of (start n) record {
  slots = refl;
  workers = (omega (arith, length-replicate n idle), omega (arith, length-replicate n idle));
  within = All-replicate IsWithin n idle tt;
  balanced = λ s l. subst (λ (x : Slot). x.ended + opens (start n) s ≡ due x) (sym (get_or-replicate 4 s unused unused l)) (let e = sum_by-replicate (λ (z : PinWorker). one_if (is_open_on s z)) n idle in omega (arith, e));
  settled = All-replicate IsSettled 4 unused refl;
  total = omega (arith, sum_by-replicate (λ (z : PinWorker). z.pins) n idle);
  pins = All-replicate (λ (z : PinWorker). z.pins ≤ MOST_PINS) n idle (omega arith);
  bases = All-replicate (λ (z : Slot). z.base < 2 ^ 52) 4 unused (omega arith);
  serials = omega arith;
  one_current = refl;
}

idle_by : (w b e p : ℕ) (phase : Phase) → is_drainable w phase ≡ true → IsSettledBy (record { base = b; ended = e; phase = phase }) phase → e + p ≡ due_by b phase → p ≡ 0
idle_by w b e p Free is settled balanced = absurd (false≢true is)
idle_by w b e p (Filling marks) is settled balanced = absurd (false≢true is)
idle_by w b e p (Current made) is settled balanced = absurd (false≢true is)
idle_by w b e p (Replaced total false drained) is settled balanced = absurd (false≢true is)
idle_by w b e p (Replaced total true drained) is settled balanced = let all = settled refl in omega arith

-- a slot that can be drained has no open pin
pub idle_drainable : (m : Machine) (s w : ℕ) → IsSound m → s < 4 → is_drainable w (slot_at m s).phase ≡ true → opens m s ≡ 0
idle_drainable m s w h in' is =
    let x = slot_at m s in
    idle_by w x.base x.ended (opens m s) x.phase is (All-get_or IsSettled m.slots s unused (omega (arith, h.slots)) h.settled) (h.balanced s in')

idle_by_filled : (n b e p : ℕ) (phase : Phase) → is_filled n phase ≡ true → IsSettledBy (record { base = b; ended = e; phase = phase }) phase → e + p ≡ due_by b phase → p ≡ 0
idle_by_filled n b e p Free is settled balanced = omega arith
idle_by_filled n b e p (Filling marks) is settled balanced = omega arith
idle_by_filled n b e p (Current made) is settled balanced = absurd (false≢true is)
idle_by_filled n b e p (Replaced total ready drained) is settled balanced = absurd (false≢true is)

-- a slot that can be published has no open pin
pub idle_filled : (m : Machine) (s : ℕ) → IsSound m → s < 4 → is_filled (count m) (slot_at m s).phase ≡ true → opens m s ≡ 0
idle_filled m s h in' is =
    let x = slot_at m s in
    idle_by_filled (count m) x.base x.ended (opens m s) x.phase is (All-get_or IsSettled m.slots s unused (omega (arith, h.slots)) h.settled) (h.balanced s in')

-- what a drain that is made finds: no open pin
abbrev FindsIdle : Machine → PinStep → After → Type 0
FindsIdle m (Fill s w) a = Unit {0}
FindsIdle m (Publish s) a = Unit {0}
FindsIdle m (Pin w) a = Unit {0}
FindsIdle m (Unpin w) a = Unit {0}
FindsIdle m (Sweep s) a = Unit {0}
FindsIdle m (Drain s w) a = a.1 ≡ Done → opens m s ≡ 0

-- a slot that a drain names where it is made has no open pin
pub idle_drain : (m : Machine) → IsSound m → DrainsIdle m
idle_drain m h s w = by_rows m (FindsIdle m) (record {
  fill = λ s w in' at is. tt;
  publish = λ s in' few is. tt;
  pin = λ w some at none few. tt;
  unpin = λ s w at is. tt;
  not_yet = λ s in' is l. tt;
  ready = λ s in' is l. tt;
  drain = λ s w in' at is _. idle_drainable m s w h in' is;
  refused = refused;
}) (Drain s w)
  where
    refused : (step : PinStep) → FindsIdle m step (m, Unlawful)
    refused (Fill s w) = tt
    refused (Publish s) = tt
    refused (Pin w) = tt
    refused (Unpin w) = tt
    refused (Sweep s) = tt
    refused (Drain s w) = λ e. absurd cc
