-- A machine in which no pin is open goes from one publication to the next.
use Rattle.std.proofs.Common.{◌≡◌, ◌<◌, ◌≤◌, ℕ, zero, suc, ◌+◌, Bool, true, false, not, cond, List, [], ◌∷◌, ◌++◌, length, refl, sym, ap, ◌∙◌, subst, arith}
use Rattle.pin_core.specs.declared.slots.TheConstants.{MOST_SERIALS}
use Rattle.pin_core.specs.declared.slots.Slot.{Slot}
use Rattle.pin_core.specs.declared.slots.Phase.{Phase}
use Rattle.pin_core.specs.declared.slots.Phase.TheVariants.{Free, Current, Replaced}
use Rattle.pin_core.specs.declared.slots.PinWorker.{PinWorker}
use Rattle.pin_core.specs.declared.steps.PinStep.{PinStep}
use Rattle.pin_core.specs.declared.steps.PinStep.TheVariants.{Fill, Publish, Sweep, Drain}
use Rattle.pin_core.specs.declared.steps.PinReply.TheVariants.{Done, Ready}
use Rattle.pin_core.specs.Slots.{drained_to, is_all, is_filled, no_marks, replaced_slot}
use Rattle.pin_core.specs.Machine.{Machine, unused}
use Rattle.pin_core.specs.Laws.{after-Drain, after-Fill, after-Publish, after-Sweep_ready}
use Rattle.pin_core.specs.OneRunLaws.Slots.{filled_all, filled_next, filling, lacks_next, marked_all, marked_some, marks, unmarked_next}
use Rattle.pin_core.specs.OneRunLaws.Steps.{AreQuiet, Goes, done_lawful, goes_none, goes_one, goes_then, quiet-append, ready_lawful}

-- the slot in use, and the other one
abbrev pub mine : Bool → ℕ
mine false = 0
mine true = 1

abbrev pub other : Bool → ℕ
other false = 1
other true = 0

-- a machine with these two slots, the one in use first
abbrev pub mach : Bool → ℕ → Slot → Slot → List PinWorker → Machine
mach false k x y ws = record { published = k; slots = x ∷ y ∷ unused ∷ unused ∷ []; workers = ws }
mach true k x y ws = record { published = k; slots = y ∷ x ∷ unused ∷ unused ∷ []; workers = ws }

abbrev pub cur : ℕ → ℕ → Slot
cur b p = record { base = b; ended = b + p; phase = Current p }

abbrev pub filled_to : ℕ → ℕ → Slot
filled_to b j = record { base = b; ended = b; phase = filling j }

abbrev pub repl : ℕ → ℕ → Slot
repl a p = record { base = a; ended = a + p; phase = Replaced (a + p) false no_marks }

abbrev pub drained_for : ℕ → ℕ → ℕ → Slot
drained_for a p j = record { base = a; ended = a + p; phase = Replaced (a + p) true (marks j) }

abbrev pub free_slot : ℕ → Slot
free_slot b = record { base = b; ended = b; phase = Free }

fill_one : (f : Bool) (k b j : ℕ) (x : Slot) (ws : List PinWorker) → j < 32 → j < length ws → Goes (mach f k x (filled_to b j) ws) (Fill (other f) j ∷ []) (mach f k x (filled_to b (suc j)) ws)
fill_one false k b j x ws low has =
    goes_one (mach false k x (filled_to b j) ws) (mach false k x (filled_to b (suc j)) ws) (Fill 1 j) Done
    (after-Fill (mach false k x (filled_to b j) ws) 1 j (omega arith) has (lacks_next j low)
    ∙ ap (λ (p : Phase). (mach false k x (record { base = b; ended = b; phase = p }) ws, Done)) (filled_next j)) done_lawful
fill_one true k b j x ws low has =
    goes_one (mach true k x (filled_to b j) ws) (mach true k x (filled_to b (suc j)) ws) (Fill 0 j) Done
    (after-Fill (mach true k x (filled_to b j) ws) 0 j (omega arith) has (lacks_next j low)
    ∙ ap (λ (p : Phase). (mach true k x (record { base = b; ended = b; phase = p }) ws, Done)) (filled_next j)) done_lawful

abbrev pub fill_steps : Bool → ℕ → List PinStep
fill_steps f zero = []
fill_steps f (suc j) = fill_steps f j ++ Fill (other f) j ∷ []

fills : (f : Bool) (k b n : ℕ) (x : Slot) (ws : List PinWorker) → n ≤ 32 → n ≤ length ws → Goes (mach f k x (filled_to b 0) ws) (fill_steps f n) (mach f k x (filled_to b n) ws)
fills f k b zero x ws few has = goes_none (mach f k x (filled_to b 0) ws)
fills f k b (suc n) x ws few has =
    goes_then (mach f k x (filled_to b 0) ws) (mach f k x (filled_to b n) ws) (mach f k x (filled_to b (suc n)) ws) (fill_steps f n) (Fill (other f) n ∷ [])
    (fills f k b n x ws (omega (arith, few)) (omega (arith, has))) (fill_one f k b n x ws (omega (arith, few)) (omega (arith, has)))

is_full : (n : ℕ) → 0 < n → n ≤ 32 → is_filled n (filling n) ≡ true
is_full zero some few = absurd (omega (arith, some))
is_full (suc k) some few = filled_all k (omega (arith, few))

publish_one : (f : Bool) (k b n : ℕ) (x : Slot) (ws : List PinWorker) → length ws ≡ n → 0 < n → n ≤ 32 → k < MOST_SERIALS
    → Goes (mach f k x (filled_to b n) ws) (Publish (other f) ∷ []) (mach (not f) (k + 1) (cur b 0) (replaced_slot x) ws)
publish_one false k b n x ws long some few low =
    let e : b ≡ b + 0 = omega arith in
    goes_one (mach false k x (filled_to b n) ws) (mach true (k + 1) (cur b 0) (replaced_slot x) ws) (Publish 1) Done
    (after-Publish (mach false k x (filled_to b n) ws) 1 (omega arith) low (subst (λ (m : ℕ). is_filled m (filling n) ≡ true) (sym long) (is_full n some few))
    ∙ ap (λ (d : ℕ). (mach true (k + 1) (record { base = b; ended = d; phase = Current 0 }) (replaced_slot x) ws, Done)) e) done_lawful
publish_one true k b n x ws long some few low =
    let e : b ≡ b + 0 = omega arith in
    goes_one (mach true k x (filled_to b n) ws) (mach false (k + 1) (cur b 0) (replaced_slot x) ws) (Publish 0) Done
    (after-Publish (mach true k x (filled_to b n) ws) 0 (omega arith) low (subst (λ (m : ℕ). is_filled m (filling n) ≡ true) (sym long) (is_full n some few))
    ∙ ap (λ (d : ℕ). (mach false (k + 1) (record { base = b; ended = d; phase = Current 0 }) (replaced_slot x) ws, Done)) e) done_lawful

sweep_one : (f : Bool) (k a p : ℕ) (y : Slot) (ws : List PinWorker) → Goes (mach f k y (repl a p) ws) (Sweep (other f) ∷ []) (mach f k y (drained_for a p 0) ws)
sweep_one false k a p y ws =
    goes_one (mach false k y (repl a p) ws) (mach false k y (drained_for a p 0) ws) (Sweep 1) Ready
    (after-Sweep_ready (mach false k y (repl a p) ws) 1 (omega arith) refl (omega arith)) ready_lawful
sweep_one true k a p y ws =
    goes_one (mach true k y (repl a p) ws) (mach true k y (drained_for a p 0) ws) (Sweep 0) Ready
    (after-Sweep_ready (mach true k y (repl a p) ws) 0 (omega arith) refl (omega arith)) ready_lawful

-- the slot behind one drain more
drain_to : (n a p j : ℕ) → Slot
drain_to n a p j = drained_to n (drained_for a p j) (a + p) true (marks (suc j))

drain_one : (f : Bool) (k a p j n : ℕ) (y z : Slot) (ws : List PinWorker) → length ws ≡ n → j < n → n ≤ 32
    → cond (is_all n (marks (suc j))) (free_slot (a + p)) (drained_for a p (suc j)) ≡ z
    → Goes (mach f k y (drained_for a p j) ws) (Drain (other f) j ∷ []) (mach f k y z ws)
drain_one false k a p j n y z ws long less few is =
    goes_one (mach false k y (drained_for a p j) ws) (mach false k y z ws) (Drain 1 j) Done
    (after-Drain (mach false k y (drained_for a p j) ws) 1 j (omega arith) (omega (arith, long, less)) (unmarked_next j (omega (arith, less, few)))
    ∙ ap (λ (s : Slot). (mach false k y s ws, Done)) (ap (λ (m : ℕ). cond (is_all m (marks (suc j))) (free_slot (a + p)) (drained_for a p (suc j))) long ∙ is)) done_lawful
drain_one true k a p j n y z ws long less few is =
    goes_one (mach true k y (drained_for a p j) ws) (mach true k y z ws) (Drain 0 j) Done
    (after-Drain (mach true k y (drained_for a p j) ws) 0 j (omega arith) (omega (arith, long, less)) (unmarked_next j (omega (arith, less, few)))
    ∙ ap (λ (s : Slot). (mach true k y s ws, Done)) (ap (λ (m : ℕ). cond (is_all m (marks (suc j))) (free_slot (a + p)) (drained_for a p (suc j))) long ∙ is)) done_lawful

abbrev pub drain_steps : Bool → ℕ → List PinStep
drain_steps f zero = []
drain_steps f (suc j) = drain_steps f j ++ Drain (other f) j ∷ []

drains : (f : Bool) (k a p j n : ℕ) (y : Slot) (ws : List PinWorker) → length ws ≡ n → j < n → n ≤ 32 → Goes (mach f k y (drained_for a p 0) ws) (drain_steps f j) (mach f k y (drained_for a p j) ws)
drains f k a p zero n y ws long less few = goes_none (mach f k y (drained_for a p 0) ws)
drains f k a p (suc j) n y ws long less few =
    goes_then (mach f k y (drained_for a p 0) ws) (mach f k y (drained_for a p j) ws) (mach f k y (drained_for a p (suc j)) ws) (drain_steps f j) (Drain (other f) j ∷ [])
    (drains f k a p j n y ws long (omega (arith, less)) few)
    (drain_one f k a p j n y (drained_for a p (suc j)) ws long (omega (arith, less)) few
    (ap (λ (c : Bool). cond c (free_slot (a + p)) (drained_for a p (suc j))) (marked_some n j less few)))

all_drains : (f : Bool) (k a p n : ℕ) (y : Slot) (ws : List PinWorker) → length ws ≡ n → 0 < n → n ≤ 32 → Goes (mach f k y (drained_for a p 0) ws) (drain_steps f n) (mach f k y (free_slot (a + p)) ws)
all_drains f k a p zero y ws long some few = absurd (omega (arith, some))
all_drains f k a p (suc j) y ws long some few =
    goes_then (mach f k y (drained_for a p 0) ws) (mach f k y (drained_for a p j) ws) (mach f k y (free_slot (a + p)) ws) (drain_steps f j) (Drain (other f) j ∷ [])
    (drains f k a p j (suc j) y ws long (omega arith) few)
    (drain_one f k a p j (suc j) y (free_slot (a + p)) ws long (omega arith) few
    (ap (λ (c : Bool). cond c (free_slot (a + p)) (drained_for a p (suc j))) (marked_all j (omega (arith, few)))))

-- the steps from one publication to the next
abbrev pub first_steps : ℕ → List PinStep
first_steps n = fill_steps true n ++ Publish 0 ∷ []

abbrev pub next_steps : Bool → ℕ → List PinStep
next_steps f n = (fill_steps f n ++ Publish (other f) ∷ []) ++ (Sweep (other (not f)) ∷ [] ++ drain_steps (not f) n)

pub begins : (n : ℕ) (ws : List PinWorker) → length ws ≡ n → 0 < n → n ≤ 32 → Goes (mach true 0 unused (filled_to 0 0) ws) (first_steps n) (mach false 1 (cur 0 0) unused ws)
begins n ws long some few =
    goes_then (mach true 0 unused (filled_to 0 0) ws) (mach true 0 unused (filled_to 0 n) ws) (mach false 1 (cur 0 0) unused ws) (fill_steps true n) (Publish 0 ∷ [])
    (fills true 0 0 n unused ws few (omega (arith, long))) (publish_one true 0 0 n unused ws long some few (omega arith))

pub goes_on : (f : Bool) (k a p b n : ℕ) (ws : List PinWorker) → length ws ≡ n → 0 < n → n ≤ 32 → k < MOST_SERIALS
    → Goes (mach f k (cur a p) (free_slot b) ws) (next_steps f n) (mach (not f) (k + 1) (cur b 0) (free_slot (a + p)) ws)
goes_on f k a p b n ws long some few low =
    goes_then (mach f k (cur a p) (free_slot b) ws) (mach (not f) (k + 1) (cur b 0) (repl a p) ws) (mach (not f) (k + 1) (cur b 0) (free_slot (a + p)) ws)
    (fill_steps f n ++ Publish (other f) ∷ []) (Sweep (other (not f)) ∷ [] ++ drain_steps (not f) n)
    (goes_then (mach f k (cur a p) (free_slot b) ws) (mach f k (cur a p) (filled_to b n) ws) (mach (not f) (k + 1) (cur b 0) (repl a p) ws) (fill_steps f n) (Publish (other f) ∷ [])
    (fills f k b n (cur a p) ws few (omega (arith, long))) (publish_one f k b n (cur a p) ws long some few low))
    (goes_then (mach (not f) (k + 1) (cur b 0) (repl a p) ws) (mach (not f) (k + 1) (cur b 0) (drained_for a p 0) ws) (mach (not f) (k + 1) (cur b 0) (free_slot (a + p)) ws) (Sweep (other (not f)) ∷ []) (drain_steps (not f) n)
    (sweep_one (not f) (k + 1) a p (cur b 0) ws) (all_drains (not f) (k + 1) a p n (cur b 0) ws long some few))

fill_quiet : (f : Bool) (n : ℕ) → AreQuiet (fill_steps f n)
fill_quiet f zero = tt
fill_quiet f (suc n) = quiet-append (fill_steps f n) (Fill (other f) n ∷ []) (fill_quiet f n) (tt, tt)

drain_quiet : (f : Bool) (n : ℕ) → AreQuiet (drain_steps f n)
drain_quiet f zero = tt
drain_quiet f (suc n) = quiet-append (drain_steps f n) (Drain (other f) n ∷ []) (drain_quiet f n) (tt, tt)

pub first_quiet : (n : ℕ) → AreQuiet (first_steps n)
first_quiet n = quiet-append (fill_steps true n) (Publish 0 ∷ []) (fill_quiet true n) (tt, tt)

pub next_quiet : (f : Bool) (n : ℕ) → AreQuiet (next_steps f n)
next_quiet f n = quiet-append (fill_steps f n ++ Publish (other f) ∷ []) (Sweep (other (not f)) ∷ [] ++ drain_steps (not f) n)
    (quiet-append (fill_steps f n) (Publish (other f) ∷ []) (fill_quiet f n) (tt, tt)) (tt, drain_quiet (not f) n)
