-- In which slots the generations of a table stand, step by step.
use Rattle.std.proofs.Common.{◌≡◌, ◌≢◌, ◌<◌, ℕ, ◌+◌, true, false, List, [], ◌∷◌, ◌++◌, length, map, get_or, set, refl, sym, ap, subst, ◌∙◌, arith}
use mathlib.Core.Logic.{dite}
use native.Mathlib.Decide.{ℕ_discrete}
use Rattle.std.proofs.lemmas.List.{get_or-map, get_or-set_other, get_or-set_same, length-map, length-set}
use Rattle.std.proofs.Math.ListN.{get_or-append}
use Rattle.std.proofs.Math.Seq.{get_or-append_seam}
use Rattle.std.proofs.lemmas.List.{length_push}
use Rattle.pin_core.specs.declared.slots.TheConstants.{SLOTS}
use Rattle.pin_core.specs.declared.slots.Phase.{Phase}
use Rattle.pin_core.specs.declared.slots.Phase.TheVariants.{Free, Filling, Current, Replaced}
use Rattle.pin_core.specs.declared.slots.Slot.{Slot}
use Rattle.pin_core.specs.Machine.{unused}
use Rattle.pin_core.specs.Slots.{is_current, is_free, is_replaced, published_slot, replaced_phase}
use Rattle.pin_table.specs.declared.free_slots.FreeSlot.{FreeSlot}
use Rattle.pin_table.specs.declared.sweeper.Swept.{Swept}
use Rattle.pin_table.specs.declared.sweeper.Swept.TheVariants as swept
use Rattle.pin_table.specs.declared.views.Plan.{Plan}
use Rattle.pin_table.specs.Freeing.{IsFreed}
use Rattle.pin_table.specs.Known.{serial_at}
use Rattle.pin_table.specs.Publishing.{fill_to, next_plan}
use Rattle.pin_table.specs.Steps.{named_plan, plan_slot, retired, swept_plan, with_pins}
use Rattle.pin_table.specs.Sweeping.{IsSwept, free_again, retired_plan}
use Rattle.reload_watch.specs.Placing.{IsPlaced}

-- a slot that was replaced isn't free
busy : (phase : Phase) → is_replaced phase ≡ true → is_free phase ≡ false
busy Free is = absurd cc
busy (Filling marks) is = refl
busy (Current pins) is = refl
busy (Replaced total ready drained) is = refl

-- another publication frees no slot, and takes none
same_phase : (pins base : ℕ) (phase : Phase) → is_free (replaced_phase base (with_pins pins phase)) ≡ is_free phase
same_phase pins base Free = refl
same_phase pins base (Filling marks) = refl
same_phase pins base (Current k) = refl
same_phase pins base (Replaced total ready drained) = refl

-- behind a publication: where each slot's serial stands, by the slots, their serials and the published slots before
at_published : (slots : List Slot) (serials published : List ℕ) (slot pins : ℕ) (v u : Slot) → slot < SLOTS → length serials ≡ SLOTS → length slots ≡ SLOTS
    → ((i : ℕ) → i < SLOTS → is_free (get_or slots i unused).phase ≡ false → (get_or serials i 0 < length published) × (get_or published (get_or serials i 0) SLOTS ≡ i))
    → (i : ℕ) → i < SLOTS → is_free (get_or (set (map (retired pins) (set slots slot v)) slot u) i unused).phase ≡ false
    → (get_or (set serials slot (length published)) i 0 < length (published ++ slot ∷ []))
    × (get_or (published ++ slot ∷ []) (get_or (set serials slot (length published)) i 0) SLOTS ≡ i)
at_published slots serials published slot pins v u low four_serials four old i within free = dite (ℕ_discrete i slot)
    (λ e.
    let here : get_or (set serials slot (length published)) i 0 ≡ length published =
    subst (λ (k : ℕ). get_or (set serials slot (length published)) k 0 ≡ length published) (sym e) (get_or-set_same serials slot (length published) 0 (omega (arith, four_serials, low))) in
    subst (λ (k : ℕ). (k < length (published ++ slot ∷ [])) × (get_or (published ++ slot ∷ []) k SLOTS ≡ i)) (sym here)
    (omega (arith, length_push published slot), get_or-append_seam published slot [] SLOTS ∙ sym e))
    (λ ne.
    let long = length-set slots slot v in
    let is_x : get_or (set (map (retired pins) (set slots slot v)) slot u) i unused ≡ retired pins (get_or slots i unused) =
    get_or-set_other (map (retired pins) (set slots slot v)) slot i u unused ne ∙ get_or-map (retired pins) (set slots slot v) i unused unused (omega (arith, long, four, within))
    ∙ ap (λ (x : Slot). retired pins x) (get_or-set_other slots slot i v unused ne) in
    let was = old i within (sym (same_phase pins (get_or slots i unused).base (get_or slots i unused).phase) ∙ (ap (λ (y : Slot). is_free y.phase) (sym is_x) ∙ free)) in
    let less = was.0 in
    subst (λ (m : ℕ). (m < length (published ++ slot ∷ [])) × (get_or (published ++ slot ∷ []) m SLOTS ≡ i)) (sym (get_or-set_other serials slot i (length published) 0 ne))
    (omega (arith, less, length_push published slot), get_or-append published (slot ∷ []) SLOTS (get_or serials i 0) less ∙ was.1))

long_published : (slots : List Slot) (slot pins : ℕ) (v u : Slot) → length slots ≡ SLOTS → length (set (map (retired pins) (set slots slot v)) slot u) ≡ SLOTS
long_published slots slot pins v u four = length-set (map (retired pins) (set slots slot v)) slot u ∙ length-map (set slots slot v) (retired pins) ∙ length-set slots slot v ∙ four

-- behind a publication its slot is current, and has the last serial
front_current : (slots : List Slot) (slot pins : ℕ) (v x : Slot) → slot < SLOTS → length slots ≡ SLOTS → is_current (get_or (set (map (retired pins) (set slots slot v)) slot (published_slot x)) slot unused).phase ≡ true
front_current slots slot pins v x low four =
    let wide : length (map (retired pins) (set slots slot v)) ≡ SLOTS = length-map (set slots slot v) (retired pins) ∙ length-set slots slot v ∙ four in
    ap (λ (y : Slot). is_current y.phase) (get_or-set_same (map (retired pins) (set slots slot v)) slot (published_slot x) unused (omega (arith, wide, low)))

front_last : (serials published : List ℕ) (slot : ℕ) → slot < SLOTS → length serials ≡ SLOTS → get_or (set serials slot (length published)) slot 0 + 1 ≡ length (published ++ slot ∷ [])
front_last serials published slot low four =
    let here = get_or-set_same serials slot (length published) 0 (omega (arith, four, low)) in
    omega (arith, here, length_push published slot)

not_both : (phase : Phase) → is_current phase ≡ true → is_replaced phase ≡ true → ⊥
not_both Free is other = absurd cc
not_both (Filling marks) is other = absurd cc
not_both (Current pins) is other = absurd cc
not_both (Replaced total ready drained) is other = absurd cc

module _ {C : Type 0} where
  -- two replaced slots have different serials
  pub apart : (p : Plan C) → IsPlaced p → (i j : ℕ) → i < j → j < SLOTS → is_replaced (plan_slot p i).phase ≡ true → is_replaced (plan_slot p j).phase ≡ true
      → serial_at p.past.serials i ≢ serial_at p.past.serials j
  apart p is i j less low one two = λ same.
      let first = is.placed i (omega (arith, less, low)) (busy (plan_slot p i).phase one) in
      let second = is.placed j low (busy (plan_slot p j).phase two) in
      let e : i ≡ j = sym first.1 ∙ ap (λ (n : ℕ). get_or p.past.published n SLOTS) same ∙ second.1 in
      omega (arith, e, less)

  -- a slot that is free again
  placed_retired : (p : Plan C) (slot found : ℕ) (chains : List C) → slot < SLOTS → is_replaced (plan_slot p slot).phase ≡ true → IsPlaced p → IsPlaced (retired_plan p slot found chains)
  placed_retired p slot found chains low replaced is = record {
    each_serial = is.each_serial;
    each_slot = length-set p.slots slot (free_again (plan_slot p slot)) ∙ is.each_slot;
    placed = λ i within free. dite (ℕ_discrete i slot)
        (λ e. absurd (
        let here : get_or (set p.slots slot (free_again (plan_slot p slot))) i unused ≡ free_again (plan_slot p slot) =
        subst (λ (k : ℕ). get_or (set p.slots slot (free_again (plan_slot p slot))) k unused ≡ free_again (plan_slot p slot)) (sym e)
        (get_or-set_same p.slots slot (free_again (plan_slot p slot)) unused (let four = is.each_slot in omega (arith, four, low))) in
        let off : true ≡ false = ap (λ (x : Slot). is_free x.phase) (sym here) ∙ free in
        cc
        ))
        (λ ne. is.placed i within (ap (λ (x : Slot). is_free x.phase) (sym (get_or-set_other p.slots slot i (free_again (plan_slot p slot)) unused ne)) ∙ free));
    fronted =
        let f = is.fronted in
        let ne : f.front ≢ slot = λ e. not_both (plan_slot p f.front).phase f.current (ap (λ (k : ℕ). is_replaced (plan_slot p k).phase) e ∙ replaced) in
        record {
          front = f.front;
          low = f.low;
          current = ap (λ (x : Slot). is_current x.phase) (get_or-set_other p.slots slot f.front (free_again (plan_slot p slot)) unused ne) ∙ f.current;
          last = f.last;
        };
  }

  -- behind a sweep
  placed_swept : (p : Plan C) (slot : ℕ) (home : List C) (x : Swept) (home' : List C) (p' : Plan C) → slot < SLOTS → IsSwept p slot home x home' p' → IsPlaced p → IsPlaced p'
  placed_swept p slot home swept.Retired home' p' low swept is = subst IsPlaced (sym swept.then) (placed_retired p slot swept.found swept.chains low swept.replaced is)
  placed_swept p slot home (swept.NotYet ended total) home' p' low swept is =
      let same : IsPlaced (swept_plan p slot ended) = record {
        each_serial = is.each_serial;
        each_slot = is.each_slot;
        placed = is.placed;
        fronted = let f = is.fronted in record { front = f.front; low = f.low; current = f.current; last = f.last };
      } in
      subst IsPlaced (sym swept.4) same
  placed_swept p slot home swept.Current home' p' low swept is = subst IsPlaced (sym swept.2) is
  placed_swept p slot home swept.Bare home' p' low swept is = subst IsPlaced (sym swept.2) is

  -- behind a search
  pub placed_freed : (p : Plan C) (home : List C) (answer : FreeSlot) (home' : List C) (p' : Plan C) → IsFreed p home answer home' p' → IsPlaced p → IsPlaced p'
  placed_freed p home answer home' p' freed is =
      let low_c = freed.order.2 in
      let low_b : freed.b < SLOTS = let l = freed.order.1 in omega (arith, l, low_c) in
      let low_a : freed.a < SLOTS = let l = freed.order.0 in omega (arith, l, low_b) in
      placed_swept freed.plan_2 freed.c freed.home_2 freed.third home' p' low_c freed.sweep_3
      (placed_swept freed.plan_1 freed.b freed.home_1 freed.second freed.home_2 freed.plan_2 low_b freed.sweep_2 (placed_swept p freed.a home freed.first freed.home_1 freed.plan_1 low_a freed.sweep_1 is))

  pub placed_published : (p : Plan C) (slot : ℕ) (chains : List C) (found : ℕ) → slot < SLOTS → IsPlaced p → IsPlaced (next_plan p slot chains found)
  placed_published p slot chains found low is = record {
    each_serial = length-set p.past.serials slot (length p.past.published) ∙ is.each_serial;
    each_slot = long_published p.slots slot _ _ _ is.each_slot;
    placed = at_published p.slots p.past.serials p.past.published slot _ _ _ low is.each_serial is.each_slot is.placed;
    fronted = record { front = slot; low = low; current = front_current p.slots slot _ _ (plan_slot (fill_to (named_plan p slot (length p.past.published)) slot chains p.workers) slot) low is.each_slot; last = front_last p.past.serials p.past.published slot low is.each_serial };
  }
