-- The log of every list of steps from the start retires each generation once.
use Rattle.std.specs.Prelude.{◌≡◌, ◌≢◌, ℕ, ◌+◌, ◌-◌, ◌<◌, ◌≤◌, Bool, true, false, ◌==◌, List, [], ◌∷◌, ◌++◌, length, replicate, Option, Some, None, refl, slice_set, count_by}
use Rattle.std.proofs.Common.{zero, suc, ltb, sym, ap, ◌∙◌, subst, arith, length-set, eq-eqb}
use Rattle.std.proofs.Math.Logic.{dite}
use Rattle.std.proofs.Math.Decide.{ℕ_discrete}
use Rattle.std.proofs.lemmas.List.{get_or-replicate, length-replicate}
use Rattle.std.proofs.lemmas.List.Elements.{All-get_or}
use Rattle.std.proofs.lemmas.List.Sums.{sum_by-set, sum_by-cons, get_or-le-sum_by}
use Rattle.std.proofs.lemmas.Bool.{false≢true, ne_eqb, ltb-true, ltb-false}
use Rattle.pin_core.specs.declared.slots.TheConstants.{MOST_PINS, MOST_SERIALS}
use Rattle.pin_core.specs.declared.slots.Slot.{Slot}
use Rattle.pin_core.specs.declared.slots.Phase.{Phase}
use Rattle.pin_core.specs.declared.slots.Phase.TheVariants.{Free, Filling, Current, Replaced}
use Rattle.pin_core.specs.declared.slots.PinWorker.{PinWorker}
use Rattle.pin_core.specs.declared.steps.PinStep.{PinStep}
use Rattle.pin_core.specs.declared.steps.PinStep.TheVariants.{Fill, Publish, Pin, Unpin, Sweep, Drain}
use Rattle.pin_core.specs.declared.steps.PinReply.TheVariants.{Unlawful}
use Rattle.pin_core.specs.Slots.{filled_slot, is_current, is_drainable, due_by, pinned_slot, unpinned_slot, is_filled, ready_slot, drained_slot}
use Rattle.pin_core.specs.Machine.{Machine, IsSound, IsSettled, IsSettledBy, IsWithin, IsPinWithin, slot_at, worker_at, count, current, opens, is_open_on, is_pin_on, with_slot, published_at, pinned_at, unpinned_at, unused, idle, start, run}
use Rattle.pin_core.specs.Laws.RowLemmas.{by_rows}
use Rattle.pin_core.specs.Laws.SoundLemmas.{one_if, count_by-none, on_same, current_within, sound_fill, sound_publish, sound_pin, sound_unpin, sound_ready, sound_drain, sound_start, idle_drainable, idle_filled}
use Rattle.pin_core.specs.Log.{Event, was_published, was_pinned, was_unpinned, was_drained, serial_in, pin_serial, event_of, Log, step_log, run_log, log_of, is_pin_of, is_unpin_of, is_drain_of, is_publication_of, pins, unpins, drains, publications, is_undrained, RetiresOnce}
use Rattle.pin_core.specs.Laws.PlacedLemmas.{is_kept, IsNumbered, IsWide, IsPlaced, counted, passed, alike_same, alike_pin, alike_unpin, Same, placed_same, same_fill, same_ready, same_pin, same_phase, drained_phase, other_serial, other_worker, placed_drain, serial_other, placed_publish}

-- whether an open pin is on the generation of this serial, by the serial of each slot
abbrev is_pin_at : ℕ → (ℕ → ℕ) → Option ℕ → Bool
is_pin_at serial serials None = false
is_pin_at serial serials (Some s) = serials s == serial

-- the open pins of a generation
abbrev open_pins : ℕ → List Event → List PinWorker → ℕ
open_pins serial events workers = count_by (λ x. is_pin_at serial (λ s. serial_in s events) x.held) workers

-- what holds of the machine and of the events that led to it
record IsTraced (log : Log) : Type 0 where
  sound : IsSound log.machine
  placed : IsPlaced log.machine log.events
  pins : (serial : ℕ) → pins serial log.events ≡ unpins serial log.events + open_pins serial log.events log.machine.workers
  ended : (serial w : ℕ) → 0 < drains serial w log.events → (open_pins serial log.events log.machine.workers ≡ 0) × (serial + 1 < log.machine.published)
  once : (serial w : ℕ) → drains serial w log.events ≤ 1
  published : (serial : ℕ) → publications serial log.events ≡ one_if (ltb serial log.machine.published)

-- the same events, and a slot that keeps its generation
traced_slot : (m : Machine) (s : ℕ) (y : Slot) (es : List Event) → IsTraced (record { machine = m; events = es }) → s < 4 → IsSound (with_slot m s y) → Same (slot_at m s).phase y.phase → IsTraced (record { machine = with_slot m s y; events = es })
traced_slot m s y es h in' sound same = record {
  sound = sound;
  placed = placed_same m s y m.workers es es h.placed in' refl same (alike_same es);
  pins = h.pins;
  ended = h.ended;
  once = h.once;
  published = h.published;
}

numbered_current : (n k : ℕ) (p : Phase) → is_current p ≡ true → IsNumbered n k p → k + 1 ≡ n
numbered_current n k Free is h = absurd (false≢true is)
numbered_current n k (Filling marks) is h = absurd (false≢true is)
numbered_current n k (Current made) is h = h
numbered_current n k (Replaced total ready drained) is h = absurd (false≢true is)

traced_pin : (m : Machine) (s w : ℕ) (es : List Event) → IsTraced (record { machine = m; events = es }) → s < 4 → w < count m → is_current (slot_at m s).phase ≡ true → (worker_at m w).held ≡ None → (worker_at m w).pins < MOST_PINS
    → IsTraced (record { machine = pinned_at m s w; events = was_pinned (m.published - 1) ∷ es })
traced_pin m s w es h in' at is none few =
    let k = m.published - 1 in
    let fs = was_pinned k ∷ es in
    let x = slot_at m s in
    let v : PinWorker = record { held = Some s; pins = (worker_at m w).pins + 1 } in
    let alike = alike_pin k es in
    let last = numbered_current m.published (serial_in s es) x.phase is (h.placed.numbered s in') in
    let serial : serial_in s es ≡ k = omega (arith, last) in
    let held = λ (j : ℕ) (z : PinWorker). one_if (is_pin_at j (λ t. serial_in t es) z.held) in
    let was = λ (j : ℕ). ap (λ (o : Option ℕ). one_if (is_pin_at j (λ t. serial_in t es) o)) none in
    let opened = λ (j : ℕ). sum_by-set (held j) m.workers w v idle at in record {
      sound = sound_pin m s w h.sound in' at is none few;
      placed = placed_same m s (pinned_slot x) (slice_set m.workers w v) es fs h.placed in' (length-set m.workers w v) (same_pin x.phase) alike;
      pins = λ j. omega (arith, counted (is_pin_of j) (was_pinned k) es, passed (is_unpin_of j) (was_pinned k) es refl, opened j, was j, ap (λ (i : ℕ). one_if (i == j)) serial, h.pins j);
      ended = λ j u some. (let old = h.ended j u (omega (arith, alike.drains j u)) in
          let other : serial_in s es ≢ j = omega (arith, last, old.1) in
          (omega (arith, opened j, was j, ap one_if (ne_eqb (serial_in s es) j other), old.0), old.1));
      once = λ j u. omega (arith, alike.drains j u, h.once j u);
      published = λ j. alike.publications j ∙ h.published j;
    }

traced_unpin : (m : Machine) (s w : ℕ) (es : List Event) → IsTraced (record { machine = m; events = es }) → w < count m → (worker_at m w).held ≡ Some s
    → IsTraced (record { machine = unpinned_at m s w; events = was_unpinned (pin_serial es (worker_at m w).held) ∷ es })
traced_unpin m s w es h at is =
    let in' : s < 4 = subst IsPinWithin is (All-get_or IsWithin m.workers w idle at h.sound.within) in
    let k = pin_serial es (worker_at m w).held in
    let fs = was_unpinned k ∷ es in
    let x = slot_at m s in
    let v : PinWorker = record { held = None; pins = (worker_at m w).pins } in
    let alike = alike_unpin k es in
    let serial : k ≡ serial_in s es = ap (pin_serial es) is in
    let held = λ (j : ℕ) (z : PinWorker). one_if (is_pin_at j (λ t. serial_in t es) z.held) in
    let was = λ (j : ℕ). ap (λ (o : Option ℕ). one_if (is_pin_at j (λ t. serial_in t es) o)) is in
    let opened = λ (j : ℕ). sum_by-set (held j) m.workers w v idle at in record {
      sound = sound_unpin m s w h.sound at is;
      placed = placed_same m s (unpinned_slot x) (slice_set m.workers w v) es fs h.placed in' (length-set m.workers w v) (same_phase x.phase) alike;
      pins = λ j. omega (arith, passed (is_pin_of j) (was_unpinned k) es refl, counted (is_unpin_of j) (was_unpinned k) es, opened j, was j, ap (λ (i : ℕ). one_if (i == j)) serial, h.pins j);
      ended = λ j u some. (let old = h.ended j u (omega (arith, alike.drains j u)) in (omega (arith, opened j, was j, old.0), old.1));
      once = λ j u. omega (arith, alike.drains j u, h.once j u);
      published = λ j. alike.publications j ∙ h.published j;
    }

kept_by : (b e p : ℕ) (phase : Phase) → 0 < p → IsSettledBy (record { base = b; ended = e; phase = phase }) phase → e + p ≡ due_by b phase → is_kept phase ≡ true
kept_by b e p Free some settled balanced = absurd (omega arith)
kept_by b e p (Filling marks) some settled balanced = absurd (omega arith)
kept_by b e p (Current made) some settled balanced = refl
kept_by b e p (Replaced total ready drained) some settled balanced = refl

-- a slot with an open pin has a published generation
kept_open : (m : Machine) (s : ℕ) → IsSound m → s < 4 → 0 < opens m s → is_kept (slot_at m s).phase ≡ true
kept_open m s h in' some =
    let x = slot_at m s in
    kept_by x.base x.ended (opens m s) x.phase some (All-get_or IsSettled m.slots s unused (omega (arith, h.slots)) h.settled) (h.balanced s in')

-- a drained generation has no open pin
none_open : (m : Machine) (s w : ℕ) (es : List Event) → IsSound m → IsPlaced m es → s < 4 → is_drainable w (slot_at m s).phase ≡ true → is_kept (slot_at m s).phase ≡ true → open_pins (serial_in s es) es m.workers ≡ 0
none_open m s w es h placed in' is kept = count_by-none (λ (x : PinWorker). is_pin_at (serial_in s es) (λ t. serial_in t es) x.held) idle m.workers (λ i l. by_held i l (worker_at m i).held refl)
  where
    by_serial : (i t : ℕ) → i < length m.workers → (worker_at m i).held ≡ Some t → serial_in t es ≡ serial_in s es → ⊥
    by_serial i t l e same =
        let in'' : t < 4 = subst IsPinWithin e (All-get_or IsWithin m.workers i idle l h.within) in
        let one = get_or-le-sum_by (λ (z : PinWorker). one_if (is_open_on t z)) m.workers i idle l in
        let some : 0 < opens m t = omega (arith, one, on_same t (worker_at m i) e) in
        let alike = placed.distinct t s in'' in' (kept_open m t h in'' some) kept same in
        let none = idle_drainable m s w h in' is in
        omega (arith, some, none, ap (opens m) alike)

    by_held : (i : ℕ) → i < length m.workers → (o : Option ℕ) → (worker_at m i).held ≡ o → is_pin_at (serial_in s es) (λ t. serial_in t es) (worker_at m i).held ≡ false
    by_held i l None e = ap (is_pin_at (serial_in s es) (λ t. serial_in t es)) e
    by_held i l (Some t) e = ap (is_pin_at (serial_in s es) (λ t. serial_in t es)) e ∙ ne_eqb (serial_in t es) (serial_in s es) (by_serial i t l e)

traced_drain : (m : Machine) (s w : ℕ) (es : List Event) → IsTraced (record { machine = m; events = es }) → s < 4 → w < count m → is_drainable w (slot_at m s).phase ≡ true
    → IsTraced (record { machine = with_slot m s (drained_slot (count m) w (slot_at m s)); events = was_drained s (serial_in s es) w ∷ es })
traced_drain m s w es h in' at is =
    let k = serial_in s es in
    let e = was_drained s k w in
    let x = slot_at m s in
    let y = drained_slot (count m) w x in
    let d = drained_phase (count m) w x.base x.ended x.phase is at h.sound.workers.1 (h.placed.wide s in') in
    let none = h.placed.fresh s w in' d.undrained in record {
      sound = sound_drain m s w h.sound in' is;
      placed = placed_drain m s w y es h.placed in' at d;
      pins = λ j. omega (arith, passed (is_pin_of j) e es refl, passed (is_unpin_of j) e es refl, h.pins j);
      ended = λ j v some. dite (ℕ_discrete k j)
          (λ same. subst (λ (i : ℕ). (open_pins i es m.workers ≡ 0) × (i + 1 < m.published)) same (none_open m s w es h.sound h.placed in' is d.kept, d.replaced m.published k (h.placed.numbered s in')))
          (λ ne. h.ended j v (omega (arith, passed (is_drain_of j v) e es (other_serial j k v w s ne))));
      once = λ j v. dite (ℕ_discrete k j)
          (λ same. dite (ℕ_discrete w v)
          (λ alike. let none' : drains j v es ≡ 0 = ap (λ (i : ℕ). drains i v es) (sym same) ∙ ap (λ (i : ℕ). drains k i es) (sym alike) ∙ none in
          by_test (is_drain_of j v e) (counted (is_drain_of j v) e es) none')
          (λ ne. omega (arith, passed (is_drain_of j v) e es (other_worker j k v w s ne), h.once j v)))
          (λ ne. omega (arith, passed (is_drain_of j v) e es (other_serial j k v w s ne), h.once j v));
      published = λ j. passed (is_publication_of j) e es refl ∙ h.published j;
    }
  where
    by_test : {a n : ℕ} (b : Bool) → a ≡ one_if b + n → n ≡ 0 → a ≤ 1
    by_test true e none = omega arith
    by_test false e none = omega arith

-- a publication in a slot without open pins moves no pin
open_published : (j s n : ℕ) (es : List Event) (ws : List PinWorker) → count_by (is_open_on s) ws ≡ 0 → open_pins j (was_published s n ∷ es) ws ≡ open_pins j es ws
open_published j s n es [] none = refl
open_published j s n es (x ∷ xs) none =
    let first = sum_by-cons (λ (z : PinWorker). one_if (is_open_on s z)) x xs in
    omega (
      arith,
      sum_by-cons (λ (z : PinWorker). one_if (is_pin_at j (λ t. serial_in t (was_published s n ∷ es)) z.held)) x xs,
      sum_by-cons (λ (z : PinWorker). one_if (is_pin_at j (λ t. serial_in t es) z.held)) x xs,
      by_held x.held (omega (arith, first, none)),
      open_published j s n es xs (omega (arith, first, none)),
    )
  where
    by_slot : (t : ℕ) (b : Bool) → t == s ≡ b → one_if b ≡ 0 → serial_in t (was_published s n ∷ es) ≡ serial_in t es
    by_slot t true e zero' = absurd (omega arith)
    by_slot t false e zero' = serial_other t s n es (λ same. false≢true (sym e ∙ eq-eqb t s same))

    by_held : (o : Option ℕ) → one_if (is_pin_on s o) ≡ 0 → one_if (is_pin_at j (λ t. serial_in t (was_published s n ∷ es)) o) ≡ one_if (is_pin_at j (λ t. serial_in t es) o)
    by_held None zero' = refl
    by_held (Some t) zero' = ap (λ (k : ℕ). one_if (k == j)) (by_slot t (t == s) refl zero')

-- one serial more is published
next_serial : (j n : ℕ) → one_if (n == j) + one_if (ltb j n) ≡ one_if (ltb j (n + 1))
next_serial j n = by_tests (ltb j n) refl (ltb j (n + 1)) refl
  where
    by_tests : (a : Bool) → ltb j n ≡ a → (b : Bool) → ltb j (n + 1) ≡ b → one_if (n == j) + one_if (ltb j n) ≡ one_if (ltb j (n + 1))
    by_tests true e true f = let below = ltb-true j n e in omega (arith, ap one_if e, ap one_if f, ap one_if (ne_eqb n j (λ same. omega arith)))
    by_tests true e false f = absurd (let below = ltb-true j n e in let above = ltb-false j (n + 1) f in omega arith)
    by_tests false e true f = let above = ltb-false j n e in let below = ltb-true j (n + 1) f in omega (arith, ap one_if e, ap one_if f, ap one_if (eq-eqb n j (omega arith)))
    by_tests false e false f = let above = ltb-false j (n + 1) f in omega (arith, ap one_if e, ap one_if f, ap one_if (ne_eqb n j (λ same. omega arith)))

traced_publish : (m : Machine) (s : ℕ) (es : List Event) → IsTraced (record { machine = m; events = es }) → s < 4 → m.published < MOST_SERIALS → is_filled (count m) (slot_at m s).phase ≡ true
    → IsTraced (record { machine = published_at m s; events = was_published s m.published ∷ es })
traced_publish m s es h in' few is =
    let n = m.published in
    let e = was_published s n in
    let opened = λ (j : ℕ). open_published j s n es m.workers (idle_filled m s h.sound in' is) in record {
      sound = sound_publish m s h.sound in' few is;
      placed = placed_publish m s es h.placed in' is (λ w. by_count w (drains n w es) refl);
      pins = λ j. omega (arith, passed (is_pin_of j) e es refl, passed (is_unpin_of j) e es refl, opened j, h.pins j);
      ended = λ j w some. (let old = h.ended j w (omega (arith, passed (is_drain_of j w) e es refl)) in (omega (arith, opened j, old.0), omega (arith, old.1)));
      once = λ j w. omega (arith, passed (is_drain_of j w) e es refl, h.once j w);
      published = λ j. omega (arith, counted (is_publication_of j) e es, next_serial j n, h.published j);
    }
  where
    by_count : (w d : ℕ) → drains m.published w es ≡ d → drains m.published w es ≡ 0
    by_count w zero is' = is'
    by_count w (suc d) is' = absurd (let late = h.ended m.published w (omega arith) in omega (arith, late.1))

traced_step : (m : Machine) (es : List Event) (step : PinStep) → IsTraced (record { machine = m; events = es }) → IsTraced (step_log (record { machine = m; events = es }) step)
traced_step m es step h = by_rows m (λ step a. IsTraced (record { machine = a.0; events = event_of m es step a.1 ++ es })) (record {
  fill = λ s w in' at is. let x = slot_at m s in traced_slot m s (filled_slot w x) es h in' (sound_fill m s w h.sound in' is) (same_fill w x.phase is);
  publish = λ s in' few is. traced_publish m s es h in' few is;
  pin = λ w some at none few. let here = current_within m h.sound some in traced_pin m (current m) w es h here.0 at here.1 none few;
  unpin = λ s w at is. traced_unpin m s w es h at is;
  not_yet = λ s in' is l. h;
  ready = λ s in' is l. let x = slot_at m s in traced_slot m s (ready_slot x) es h in' (sound_ready m s h.sound in' is l) (same_ready x.phase is);
  drain = λ s w in' at is. traced_drain m s w es h in' at is;
  refused = refused;
}) step
  where
    refused : (step : PinStep) → IsTraced (record { machine = m; events = event_of m es step Unlawful ++ es })
    refused (Fill s w) = h
    refused (Publish s) = h
    refused (Pin w) = h
    refused (Unpin w) = h
    refused (Sweep s) = h
    refused (Drain s w) = h

traced_run : (log : Log) (steps : List PinStep) → IsTraced log → IsTraced (run_log log steps)
traced_run log [] h = h
traced_run log (step ∷ steps) h = traced_run (step_log log step) steps (traced_step log.machine log.events step h)

traced_start : (n : ℕ) → 0 < n → n ≤ 32 → IsTraced (record { machine = start n; events = [] })
traced_start n some few =
    let free = λ (P : Slot → Type 0) (s : ℕ) (l : s < 4) (x : P unused). subst P (sym (get_or-replicate 4 s unused unused l)) x in record {
      sound = sound_start n some few;
      placed = record {
        four = refl;
        numbered = λ s l. free (λ z. IsNumbered 0 0 z.phase) s l tt;
        distinct = λ s t ls lt ks. absurd (free (λ z. is_kept z.phase ≡ true → ⊥) s ls false≢true ks);
        wide = λ s l. free (λ z. IsWide z.phase) s l tt;
        fresh = λ s w l un. refl;
        each = λ s w l lw. free (λ z. 0 + one_if (is_undrained w z.phase) ≡ 0) s l refl;
      };
      pins = λ j. (let none = count_by-none (λ (x : PinWorker). is_pin_at j (λ _. 0) x.held) idle (replicate n idle)
          (λ i l. ap (λ (x : PinWorker). is_pin_at j (λ _. 0) x.held) (get_or-replicate n i idle idle (omega (arith, length-replicate n idle)))) in omega (arith, none));
      ended = λ j w more. absurd (omega arith);
      once = λ j w. omega arith;
      published = λ j. by_none j (ltb j 0) refl;
    }
  where
    by_none : (j : ℕ) (b : Bool) → ltb j 0 ≡ b → publications j [] ≡ one_if (ltb j 0)
    by_none j true e = absurd (let below = ltb-true j 0 e in omega arith)
    by_none j false e = sym (ap one_if e)

-- the log of every list of steps from the start retires each generation once
pub retires_once : (n : ℕ) (steps : List PinStep) → 0 < n → n ≤ 32 → RetiresOnce (log_of n steps)
retires_once n steps some few =
    let h = traced_run (record { machine = start n; events = [] }) steps (traced_start n some few) in record {
      published = h.published;
      once = h.once;
      ended = λ j w more. omega (arith, h.pins j, (h.ended j w more).0);
      replaced = λ j w more. (h.ended j w more).1;
      each = h.placed.each;
    }

-- the log of a list of steps has the machine behind them
pub machine-run_log : (log : Log) (steps : List PinStep) → (run_log log steps).machine ≡ run log.machine steps
machine-run_log log [] = refl
machine-run_log log (step ∷ steps) = machine-run_log (step_log log step) steps
