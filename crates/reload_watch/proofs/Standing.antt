-- Which generations stand behind a search for a free slot.
use Rattle.std.proofs.Common.{◌≡◌, ◌≢◌, ◌<◌, ◌≤◌, ◌+◌, ◌-◌, ℕ, zero, suc, Bool, true, false, eqb, List, [], ◌∷◌, length, Option, Some, None, refl, sym, ap, subst, ◌∙◌, inl, inr, arith, sum_by, slice_index_or}
use Rattle.std.specs.Prelude.{if◌then◌else◌}
use Rattle.std.specs.List.{AllByRecursion, IsDistinct}
use Rattle.std.proofs.lemmas.Bool.{eqb-true}
use Rattle.std.proofs.lemmas.List.Sums.{sum_by-cons}
use Rattle.std.proofs.lemmas.List.{get_or-set_other, get_or-set_same, length-set}
use Rattle.pin_core.specs.declared.slots.TheConstants.{SLOTS}
use Rattle.pin_core.specs.declared.slots.Phase.{Phase}
use Rattle.pin_core.specs.declared.slots.Phase.TheVariants.{Free, Filling, Current, Replaced}
use Rattle.pin_core.specs.declared.slots.Slot.{Slot}
use Rattle.pin_core.specs.Machine.{unused}
use Rattle.pin_core.specs.Slots.{is_current, is_free, is_replaced}
use Rattle.pin_table.specs.declared.free_slots.FreeSlot.{FreeSlot}
use Rattle.pin_table.specs.declared.sweeper.Swept.{Swept}
use Rattle.pin_table.specs.declared.sweeper.Swept.TheVariants as swept
use Rattle.pin_table.specs.declared.views.Plan.{Plan}
use Rattle.pin_table.specs.declared.views.Past.{Past}
use Rattle.pin_table.specs.{count_of, plan_slot}
use Rattle.pin_table.specs.Standing.{standing, standing_at}
use Rattle.pin_table.specs.Freeing.{IsFreed, saw_current}
use Rattle.pin_table.specs.Known.{serial_at}
use Rattle.pin_table.specs.Sweeping.{IsSwept, free_again, retired_plan}
use Rattle.reload_watch.specs.Placing.{IsPlaced}
use Rattle.reload_watch.specs.Standing.{HoldsOnly, SawOpen, filled_sum}
use Rattle.reload_watch.proofs.Placed.{apart}

-- of four slots, whatever the order of the three others
four : (g : ℕ → ℕ) (a b c d : ℕ) → a < b → b < c → c < SLOTS → d < SLOTS → d ≢ a → d ≢ b → d ≢ c → g 0 + g 1 + g 2 + g 3 ≡ g d + (g a + (g b + g c))
four g a b c zero ab bc low_c low_d da db dc =
    let ia : a ≡ 1 = omega (arith, da, ab, bc, low_c) in
    let ib : b ≡ 2 = omega (arith, da, ab, bc, low_c) in
    let ic : c ≡ 3 = omega (arith, da, ab, bc, low_c) in
    rw ia (rw ib (rw ic (omega arith)))
four g a b c (suc zero) ab bc low_c low_d da db dc =
    let ia : a ≡ 0 = omega (arith, da, db, ab, bc, low_c) in
    let ib : b ≡ 2 = omega (arith, da, db, ab, bc, low_c) in
    let ic : c ≡ 3 = omega (arith, da, db, ab, bc, low_c) in
    rw ia (rw ib (rw ic (omega arith)))
four g a b c (suc (suc zero)) ab bc low_c low_d da db dc =
    let ia : a ≡ 0 = omega (arith, da, db, dc, ab, bc, low_c) in
    let ib : b ≡ 1 = omega (arith, da, db, dc, ab, bc, low_c) in
    let ic : c ≡ 3 = omega (arith, da, db, dc, ab, bc, low_c) in
    rw ia (rw ib (rw ic (omega arith)))
four g a b c (suc (suc (suc zero))) ab bc low_c low_d da db dc =
    let ia : a ≡ 0 = omega (arith, da, db, dc, ab, bc, low_c) in
    let ib : b ≡ 1 = omega (arith, da, db, dc, ab, bc, low_c) in
    let ic : c ≡ 2 = omega (arith, da, db, dc, ab, bc, low_c) in
    rw ia (rw ib (rw ic (omega arith)))
four g a b c (suc (suc (suc (suc d)))) ab bc low_c low_d da db dc = absurd (omega (arith, low_d))

-- a slot's serial where its sweep saw open pins
abbrev pub open_in : Swept → ℕ → Option ℕ
open_in swept.Retired serial = None
open_in swept.Bare serial = None
open_in swept.Current serial = None
open_in (swept.NotYet ended total) serial = Some serial

-- the list with it
abbrev pub with_open : Option ℕ → List ℕ → List ℕ
with_open None held = held
with_open (Some serial) held = serial ∷ held

not_true : {G : Type 0} → true ≡ false → G
not_true e = absurd cc

busy : (phase : Phase) → is_replaced phase ≡ true → is_free phase ≡ false
busy Free is = absurd cc
busy (Filling marks) is = refl
busy (Current pins) is = refl
busy (Replaced total ready drained) is = refl

fronts : (phase : Phase) → is_current phase ≡ true → is_free phase ≡ false
fronts Free is = absurd cc
fronts (Filling marks) is = refl
fronts (Current pins) is = refl
fronts (Replaced total ready drained) is = refl

not_both : (phase : Phase) → is_current phase ≡ true → is_replaced phase ≡ true → ⊥
not_both Free is other = absurd cc
not_both (Filling marks) is other = absurd cc
not_both (Current pins) is other = absurd cc
not_both (Replaced total ready drained) is other = absurd cc

if_false : (b : Bool) (x y : ℕ) → b ≡ false → (if b then x else y) ≡ y
if_false true x y is = absurd cc
if_false false x y is = refl

if_true : (b : Bool) (x y : ℕ) → b ≡ true → (if b then x else y) ≡ x
if_true true x y is = refl
if_true false x y is = absurd cc

module _ {C : Type 0} where
  -- a sweep leaves what was published
  past_is : (p : Plan C) (slot : ℕ) (home : List C) (x : Swept) (home' : List C) (p' : Plan C) → IsSwept p slot home x home' p' → p'.past ≡ p.past
  past_is p slot home swept.Retired home' p' is = ap (λ (q : Plan C). q.past) is.then
  past_is p slot home (swept.NotYet ended total) home' p' is = ap (λ (q : Plan C). q.past) is.4
  past_is p slot home swept.Current home' p' is = ap (λ (q : Plan C). q.past) is.2
  past_is p slot home swept.Bare home' p' is = ap (λ (q : Plan C). q.past) is.2

  long_is : (p : Plan C) (slot : ℕ) (home : List C) (x : Swept) (home' : List C) (p' : Plan C) → IsSwept p slot home x home' p' → length p'.slots ≡ length p.slots
  long_is p slot home swept.Retired home' p' is = ap (λ (q : Plan C). length q.slots) is.then ∙ length-set p.slots slot (free_again (plan_slot p slot))
  long_is p slot home (swept.NotYet ended total) home' p' is = ap (λ (q : Plan C). length q.slots) is.4
  long_is p slot home swept.Current home' p' is = ap (λ (q : Plan C). length q.slots) is.2
  long_is p slot home swept.Bare home' p' is = ap (λ (q : Plan C). length q.slots) is.2

  -- and every other slot
  other_is : (p : Plan C) (slot : ℕ) (home : List C) (x : Swept) (home' : List C) (p' : Plan C) (j : ℕ) → j ≢ slot → IsSwept p slot home x home' p' → plan_slot p' j ≡ plan_slot p j
  other_is p slot home swept.Retired home' p' j ne is = ap (λ (q : Plan C). plan_slot q j) is.then ∙ get_or-set_other p.slots slot j (free_again (plan_slot p slot)) unused ne
  other_is p slot home (swept.NotYet ended total) home' p' j ne is = ap (λ (q : Plan C). plan_slot q j) is.4
  other_is p slot home swept.Current home' p' j ne is = ap (λ (q : Plan C). plan_slot q j) is.2
  other_is p slot home swept.Bare home' p' j ne is = ap (λ (q : Plan C). plan_slot q j) is.2

  -- what stands in a slot, by the slot and what was published
  stands_by : (f : C → ℕ) (p q : Plan C) (j : ℕ) → plan_slot q j ≡ plan_slot p j → q.past ≡ p.past → standing_at f q j ≡ standing_at f p j
  stands_by f p q j slot past = λ i. if is_free (slot i).phase then 0 else sum_by f (slice_index_or (past i).filled (serial_at (past i).serials j) [])

  -- what the chains of an open serial come to
  abbrev open_sum : (C → ℕ) → Past C → Option ℕ → ℕ
  open_sum f past None = 0
  open_sum f past (Some serial) = sum_by f (slice_index_or past.filled serial [])

  -- what stands in the slot itself
  self_is : (f : C → ℕ) (p : Plan C) (slot : ℕ) (home : List C) (x : Swept) (home' : List C) (p' : Plan C) → slot < length p.slots → saw_current x ≡ false → IsSwept p slot home x home' p'
      → standing_at f p' slot ≡ open_sum f p.past (open_in x (serial_at p.past.serials slot))
  self_is f p slot home swept.Retired home' p' low other is =
      ap (λ (q : Plan C). standing_at f q slot) is.then
      ∙ if_true (is_free (plan_slot (retired_plan p slot is.found is.chains) slot).phase) 0 (sum_by f (slice_index_or p.past.filled (serial_at p.past.serials slot) []))
      (ap (λ (s : Slot). is_free s.phase) (get_or-set_same p.slots slot (free_again (plan_slot p slot)) unused low))
  self_is f p slot home (swept.NotYet ended total) home' p' low other is =
      ap (λ (q : Plan C). standing_at f q slot) is.4
      ∙ if_false (is_free (plan_slot p slot).phase) 0 (sum_by f (slice_index_or p.past.filled (serial_at p.past.serials slot) [])) (busy (plan_slot p slot).phase is.0)
  self_is f p slot home swept.Current home' p' low other is = absurd (not_true other)
  self_is f p slot home swept.Bare home' p' low other is =
      ap (λ (q : Plan C). standing_at f q slot) is.2
      ∙ if_true (is_free (plan_slot p slot).phase) 0 (sum_by f (slice_index_or p.past.filled (serial_at p.past.serials slot) [])) is.0

  -- a slot that is current isn't the one that was swept
  not_swept : (p : Plan C) (slot : ℕ) (home : List C) (x : Swept) (home' : List C) (p' : Plan C) (j : ℕ) → saw_current x ≡ false → IsSwept p slot home x home' p' → is_current (plan_slot p j).phase ≡ true → j ≢ slot
  not_swept p slot home swept.Retired home' p' j other is current = λ e. not_both (plan_slot p j).phase current (ap (λ (k : ℕ). is_replaced (plan_slot p k).phase) e ∙ is.replaced)
  not_swept p slot home (swept.NotYet ended total) home' p' j other is current = λ e. not_both (plan_slot p j).phase current (ap (λ (k : ℕ). is_replaced (plan_slot p k).phase) e ∙ is.0)
  not_swept p slot home swept.Current home' p' j other is current = absurd (not_true other)
  not_swept p slot home swept.Bare home' p' j other is current = λ e.
      let taken : is_free (plan_slot p slot).phase ≡ false = ap (λ (k : ℕ). is_free (plan_slot p k).phase) (sym e) ∙ fronts (plan_slot p j).phase current in
      not_true (sym is.0 ∙ taken)

  -- one that saw open pins saw a replaced slot
  abbrev IsOpen : Plan C → ℕ → Swept → ℕ → Type 0
  IsOpen p slot x serial = open_in x (serial_at p.past.serials slot) ≡ Some serial

  was_replaced : (p : Plan C) (slot : ℕ) (home : List C) (x : Swept) (home' : List C) (p' : Plan C) (serial : ℕ) → IsSwept p slot home x home' p' → IsOpen p slot x serial
      → is_replaced (plan_slot p slot).phase ≡ true
  was_replaced p slot home swept.Retired home' p' serial is has = absurd cc
  was_replaced p slot home (swept.NotYet ended total) home' p' serial is has = is.0
  was_replaced p slot home swept.Current home' p' serial is has = absurd cc
  was_replaced p slot home swept.Bare home' p' serial is has = absurd cc

  -- and is among the sweeps
  saw_here : (p : Plan C) (slot : ℕ) (home : List C) (x : Swept) (home' : List C) (p' : Plan C) (serial : ℕ) → IsSwept p slot home x home' p' → IsOpen p slot x serial
      → SawOpen p'.sweeps (count_of p - 1) serial
  saw_here p slot home swept.Retired home' p' serial is has = absurd cc
  saw_here p slot home (swept.NotYet ended total) home' p' serial is has =
      subst (λ (q : Plan C). SawOpen q.sweeps (count_of p - 1) serial) (sym is.4)
      (inl (refl, some_is has, let e = is.1 in let l = is.2 in omega (arith, e, l)))
    where
      some_is : {a b : ℕ} → Some a ≡ Some b → a ≡ b
      some_is e = cc
  saw_here p slot home swept.Current home' p' serial is has = absurd cc
  saw_here p slot home swept.Bare home' p' serial is has = absurd cc

  -- what was seen is seen later too
  saw_more : (p : Plan C) (slot : ℕ) (home : List C) (x : Swept) (home' : List C) (p' : Plan C) (last serial : ℕ) → IsSwept p slot home x home' p' → SawOpen p.sweeps last serial → SawOpen p'.sweeps last serial
  saw_more p slot home swept.Retired home' p' last serial is saw = subst (λ (q : Plan C). SawOpen q.sweeps last serial) (sym is.then) (inr saw)
  saw_more p slot home (swept.NotYet ended total) home' p' last serial is saw = subst (λ (q : Plan C). SawOpen q.sweeps last serial) (sym is.4) (inr saw)
  saw_more p slot home swept.Current home' p' last serial is saw = subst (λ (q : Plan C). SawOpen q.sweeps last serial) (sym is.2) saw
  saw_more p slot home swept.Bare home' p' last serial is saw = subst (λ (q : Plan C). SawOpen q.sweeps last serial) (sym is.2) saw

-- two optional serials are never the same
abbrev pub AreApart : Option ℕ → Option ℕ → Type 0
AreApart o p = (s t : ℕ) → o ≡ Some s → p ≡ Some t → s ≢ t

abbrev pub listed : Option ℕ → Option ℕ → Option ℕ → List ℕ
listed o p q = with_open o (with_open p (with_open q []))

unlike : (s t : ℕ) → s ≢ t → eqb s t ≡ false
unlike s t ne = by (eqb s t) refl
  where
    by : (b : Bool) → eqb s t ≡ b → eqb s t ≡ false
    by true is = absurd (ne (eqb-true s t is))
    by false is = is

each_with : (P : ℕ → Type 0) (o : Option ℕ) (held : List ℕ) → ((s : ℕ) → o ≡ Some s → P s) → AllByRecursion P held → AllByRecursion P (with_open o held)
each_with P None held here all = all
each_with P (Some s) held here all = (here s refl, all)

apart_with : (o : Option ℕ) (held : List ℕ) → ((s : ℕ) → o ≡ Some s → AllByRecursion (λ t. eqb s t ≡ false) held) → IsDistinct eqb held → IsDistinct eqb (with_open o held)
unfolding IsDistinct
apart_with None held here all = all
apart_with (Some s) held here all = (here s refl, all)

distinct_of : (o p q : Option ℕ) → AreApart o p → AreApart p q → AreApart o q → IsDistinct eqb (listed o p q)
unfolding IsDistinct
distinct_of o p q one two three =
    apart_with o (with_open p (with_open q [])) (λ s is. each_with (λ t. eqb s t ≡ false) p (with_open q []) (λ t other. unlike s t (one s t is other))
    (each_with (λ t. eqb s t ≡ false) q [] (λ t other. unlike s t (three s t is other)) tt))
    (apart_with p (with_open q []) (λ s is. each_with (λ t. eqb s t ≡ false) q [] (λ t other. unlike s t (two s t is other)) tt)
    (apart_with q [] (λ s is. tt) tt))

long_with : (o : Option ℕ) (held : List ℕ) → length (with_open o held) ≤ length held + 1
long_with None held = omega arith
long_with (Some s) held = omega arith

abbrev pub opt_sum : (ℕ → ℕ) → Option ℕ → ℕ
opt_sum g None = 0
opt_sum g (Some s) = g s

sum_with : (g : ℕ → ℕ) (o : Option ℕ) (held : List ℕ) → sum_by g (with_open o held) ≡ opt_sum g o + sum_by g held
sum_with g None held = omega arith
sum_with g (Some s) held = sum_by-cons g s held

module _ {C : Type 0} where
  opt_is : (f : C → ℕ) (past : Past C) (o : Option ℕ) → open_sum f past o ≡ opt_sum (λ serial. sum_by f (slice_index_or past.filled serial [])) o
  opt_is f past None = refl
  opt_is f past (Some s) = refl

  pub holds : (p p' : Plan C) (home : List C) (answer : FreeSlot) (home' : List C) → IsFreed p home answer home' p' → IsPlaced p → HoldsOnly p'
  unfolding standing
  holds p p' home answer home' w placed =
      let long = placed.each_slot in
      let fronted = placed.fronted in
      let p1 = w.plan_1 in
      let p2 = w.plan_2 in
      let h1 = w.home_1 in
      let h2 = w.home_2 in
      let d = fronted.front in
      let ab = w.order.0 in
      let bc = w.order.1 in
      let low_c = w.order.2 in
      let past_1 = past_is p w.a home w.first h1 p1 w.sweep_1 in
      let past_2 = past_is p1 w.b h1 w.second h2 p2 w.sweep_2 in
      let past_3 = past_is p2 w.c h2 w.third home' p' w.sweep_3 in
      let long_1 = long_is p w.a home w.first h1 p1 w.sweep_1 in
      let long_2 = long_is p1 w.b h1 w.second h2 p2 w.sweep_2 in
      let ba : w.b ≢ w.a = omega (arith, ab) in
      let ca : w.c ≢ w.a = omega (arith, ab, bc) in
      let cb : w.c ≢ w.b = omega (arith, bc) in
      let a_b : w.a ≢ w.b = omega (arith, ab) in
      let a_c : w.a ≢ w.c = omega (arith, ab, bc) in
      let b_c : w.b ≢ w.c = omega (arith, bc) in
      let da = not_swept p w.a home w.first h1 p1 d w.others.0 w.sweep_1 fronted.current in
      let d_1 = other_is p w.a home w.first h1 p1 d da w.sweep_1 in
      let db = not_swept p1 w.b h1 w.second h2 p2 d w.others.1 w.sweep_2 (ap (λ (x : Slot). is_current x.phase) d_1 ∙ fronted.current) in
      let d_2 = other_is p1 w.b h1 w.second h2 p2 d db w.sweep_2 in
      let dc = not_swept p2 w.c h2 w.third home' p' d w.others.2 w.sweep_3 (ap (λ (x : Slot). is_current x.phase) (d_2 ∙ d_1) ∙ fronted.current) in
      let d_3 = other_is p2 w.c h2 w.third home' p' d dc w.sweep_3 in
      let o1 = open_in w.first (serial_at p.past.serials w.a) in
      let o2 = open_in w.second (serial_at p1.past.serials w.b) in
      let o3 = open_in w.third (serial_at p2.past.serials w.c) in
      let count_1 : count_of p1 ≡ count_of p = ap (λ (q : Past C). length q.published) past_1 in
      let count_2 : count_of p2 ≡ count_of p = ap (λ (q : Past C). length q.published) (past_2 ∙ past_1) in
      let count_3 : count_of p' ≡ count_of p = ap (λ (q : Past C). length q.published) (past_3 ∙ past_2 ∙ past_1) in
      let b_1 = other_is p w.a home w.first h1 p1 w.b ba w.sweep_1 in
      let c_1 = other_is p w.a home w.first h1 p1 w.c ca w.sweep_1 in
      let c_2 = other_is p1 w.b h1 w.second h2 p2 w.c cb w.sweep_2 in
      let low_b : w.b < SLOTS = omega (arith, bc, low_c) in
      let low_a : w.a < SLOTS = omega (arith, ab, bc, low_c) in
      let replaced_a : (s : ℕ) → o1 ≡ Some s → is_replaced (plan_slot p w.a).phase ≡ true = λ s is. was_replaced p w.a home w.first h1 p1 s w.sweep_1 is in
      let replaced_b : (s : ℕ) → o2 ≡ Some s → is_replaced (plan_slot p w.b).phase ≡ true = λ s is. ap (λ (x : Slot). is_replaced x.phase) (sym b_1) ∙ was_replaced p1 w.b h1 w.second h2 p2 s w.sweep_2 is in
      let replaced_c : (s : ℕ) → o3 ≡ Some s → is_replaced (plan_slot p w.c).phase ≡ true = λ s is. ap (λ (x : Slot). is_replaced x.phase) (sym (c_2 ∙ c_1)) ∙ was_replaced p2 w.c h2 w.third home' p' s w.sweep_3 is in
      let of_a : (s : ℕ) → o1 ≡ Some s → serial_at p.past.serials w.a ≡ s = λ s is. opened w.first (serial_at p.past.serials w.a) s is in
      let of_b : (s : ℕ) → o2 ≡ Some s → serial_at p.past.serials w.b ≡ s = λ s is. ap (λ (q : Past C). serial_at q.serials w.b) (sym past_1) ∙ opened w.second (serial_at p1.past.serials w.b) s is in
      let of_c : (s : ℕ) → o3 ≡ Some s → serial_at p.past.serials w.c ≡ s = λ s is. ap (λ (q : Past C). serial_at q.serials w.c) (sym (past_2 ∙ past_1)) ∙ opened w.third (serial_at p2.past.serials w.c) s is in
      let apart_ab : AreApart o1 o2 = λ s t is other. λ e. apart p placed w.a w.b ab low_b (replaced_a s is) (replaced_b t other) (of_a s is ∙ e ∙ sym (of_b t other)) in
      let apart_bc : AreApart o2 o3 = λ s t is other. λ e. apart p placed w.b w.c bc low_c (replaced_b s is) (replaced_c t other) (of_b s is ∙ e ∙ sym (of_c t other)) in
      let apart_ac : AreApart o1 o3 = λ s t is other. λ e. apart p placed w.a w.c (omega (arith, ab, bc)) low_c (replaced_a s is) (replaced_c t other) (of_a s is ∙ e ∙ sym (of_c t other)) in
      record {
        held = listed o1 o2 o3;
        each =
            let see_a : (s : ℕ) → o1 ≡ Some s → SawOpen p'.sweeps (count_of p' - 1) s = λ s is.
            subst (λ (n : ℕ). SawOpen p'.sweeps (n - 1) s) (sym count_3)
            (saw_more p2 w.c h2 w.third home' p' (count_of p - 1) s w.sweep_3 (saw_more p1 w.b h1 w.second h2 p2 (count_of p - 1) s w.sweep_2 (saw_here p w.a home w.first h1 p1 s w.sweep_1 is))) in
            let see_b : (s : ℕ) → o2 ≡ Some s → SawOpen p'.sweeps (count_of p' - 1) s = λ s is.
            subst (λ (n : ℕ). SawOpen p'.sweeps (n - 1) s) (count_1 ∙ sym count_3)
            (saw_more p2 w.c h2 w.third home' p' (count_of p1 - 1) s w.sweep_3 (saw_here p1 w.b h1 w.second h2 p2 s w.sweep_2 is)) in
            let see_c : (s : ℕ) → o3 ≡ Some s → SawOpen p'.sweeps (count_of p' - 1) s = λ s is.
            subst (λ (n : ℕ). SawOpen p'.sweeps (n - 1) s) (count_2 ∙ sym count_3) (saw_here p2 w.c h2 w.third home' p' s w.sweep_3 is) in
            each_with (SawOpen p'.sweeps (count_of p' - 1)) o1 (with_open o2 (with_open o3 [])) see_a
            (each_with (SawOpen p'.sweeps (count_of p' - 1)) o2 (with_open o3 []) see_b (each_with (SawOpen p'.sweeps (count_of p' - 1)) o3 [] see_c tt));
        low =
            let under_a : (s : ℕ) → o1 ≡ Some s → s < count_of p' = λ s is. subst (λ (k : ℕ). k < count_of p') (of_a s is) (let l = (placed.placed w.a low_a (busy (plan_slot p w.a).phase (replaced_a s is))).0 in omega (arith, l, count_3)) in
            let under_b : (s : ℕ) → o2 ≡ Some s → s < count_of p' = λ s is. subst (λ (k : ℕ). k < count_of p') (of_b s is) (let l = (placed.placed w.b low_b (busy (plan_slot p w.b).phase (replaced_b s is))).0 in omega (arith, l, count_3)) in
            let under_c : (s : ℕ) → o3 ≡ Some s → s < count_of p' = λ s is. subst (λ (k : ℕ). k < count_of p') (of_c s is) (let l = (placed.placed w.c low_c (busy (plan_slot p w.c).phase (replaced_c s is))).0 in omega (arith, l, count_3)) in
            each_with (λ s. s < count_of p') o1 (with_open o2 (with_open o3 [])) under_a
            (each_with (λ s. s < count_of p') o2 (with_open o3 []) under_b (each_with (λ s. s < count_of p') o3 [] under_c tt));
        apart = distinct_of o1 o2 o3 apart_ab apart_bc apart_ac;
        three = omega (arith, long_with o1 (with_open o2 (with_open o3 [])), long_with o2 (with_open o3 []), long_with o3 []);
        sum = λ f.
            let g = filled_sum f p' in
            let all = four (standing_at f p') w.a w.b w.c d ab bc low_c fronted.low da db dc in
            let at_d : standing_at f p' d ≡ g (count_of p' - 1) =
            stands_by f p p' d (d_3 ∙ d_2 ∙ d_1) (past_3 ∙ past_2 ∙ past_1)
            ∙ if_false (is_free (plan_slot p d).phase) 0 (sum_by f (slice_index_or p.past.filled (serial_at p.past.serials d) [])) (fronts (plan_slot p d).phase fronted.current)
            ∙ ap (λ (n : ℕ). sum_by f (slice_index_or p.past.filled n [])) (let l = fronted.last in let c = count_3 in omega (arith, l, c))
            ∙ ap (λ (q : Past C). sum_by f (slice_index_or q.filled (count_of p' - 1) [])) (sym (past_3 ∙ past_2 ∙ past_1)) in
            let at_a : standing_at f p' w.a ≡ opt_sum g o1 =
            stands_by f p1 p' w.a (other_is p2 w.c h2 w.third home' p' w.a a_c w.sweep_3 ∙ other_is p1 w.b h1 w.second h2 p2 w.a a_b w.sweep_2) (past_3 ∙ past_2)
            ∙ self_is f p w.a home w.first h1 p1 (omega (arith, long, low_a)) w.others.0 w.sweep_1
            ∙ ap (λ (q : Past C). open_sum f q o1) (sym (past_3 ∙ past_2 ∙ past_1)) ∙ opt_is f p'.past o1 in
            let at_b : standing_at f p' w.b ≡ opt_sum g o2 =
            stands_by f p2 p' w.b (other_is p2 w.c h2 w.third home' p' w.b b_c w.sweep_3) past_3
            ∙ self_is f p1 w.b h1 w.second h2 p2 (omega (arith, long, long_1, low_b)) w.others.1 w.sweep_2
            ∙ ap (λ (q : Past C). open_sum f q o2) (sym (past_3 ∙ past_2)) ∙ opt_is f p'.past o2 in
            let at_c : standing_at f p' w.c ≡ opt_sum g o3 =
            self_is f p2 w.c h2 w.third home' p' (omega (arith, long, long_1, long_2, low_c)) w.others.2 w.sweep_3
            ∙ ap (λ (q : Past C). open_sum f q o3) (sym past_3) ∙ opt_is f p'.past o3 in
            let s1 = sum_with g o1 (with_open o2 (with_open o3 [])) in
            let s2 = sum_with g o2 (with_open o3 []) in
            let s3 = sum_with g o3 [] in
            omega (arith, all, at_d, at_a, at_b, at_c, s1, s2, s3);
      }
    where
      opened : (x : Swept) (serial s : ℕ) → open_in x serial ≡ Some s → serial ≡ s
      opened swept.Retired serial s is = absurd cc
      opened swept.Bare serial s is = absurd cc
      opened swept.Current serial s is = absurd cc
      opened (swept.NotYet ended total) serial s is = cc

  -- a search leaves what was published
  pub freed_past : (p p' : Plan C) (home : List C) (answer : FreeSlot) (home' : List C) → IsFreed p home answer home' p' → p'.past ≡ p.past
  freed_past p p' home answer home' w =
      past_is w.plan_2 w.c w.home_2 w.third home' p' w.sweep_3 ∙ past_is w.plan_1 w.b w.home_1 w.second w.home_2 w.plan_2 w.sweep_2 ∙ past_is p w.a home w.first w.home_1 w.plan_1 w.sweep_1
