-- What stands in the slots, behind each call of the publisher.
use Rattle.std.proofs.Common.{◌≡◌, ◌≢◌, ℕ, zero, suc, ◌+◌, ◌*◌, ◌/◌, ◌%◌, ◌<◌, ◌≤◌, Bool, true, false, not, cond, ltb, List, [], ◌∷◌, ◌++◌, length, map, take, get_or, set, Option, Some, None, refl, sym, ap, ◌∙◌, subst, arith, length-set}
use Rattle.std.specs.List.{slice_get, All, sum_by}
use Rattle.std.specs.Option.{option_to_list}
use mathlib.Core.Logic.{dite}
use native.Mathlib.Decide.{ℕ_discrete}
use Rattle.std.proofs.lemmas.Bool.{ltb-true, ltb-false, false≢true}
use Rattle.std.proofs.lemmas.Option.{none-some, same_Some}
use Rattle.std.proofs.lemmas.List.{get_or-map, get_or-replicate, get_or-set_same, get_or-set_other, get_or_append_left, get_or_push, get_or_past, length-map, length_push, take_all}
use Rattle.std.proofs.lemmas.List.Elements.{All-nil, All-head, All-tail, All-push, All-get_or}
use Rattle.std.proofs.lemmas.List.Sums.{sum_by-cons, sum_by-append}
use Rattle.pin_core.specs.declared.slots.Slot.{Slot}
use Rattle.pin_core.specs.declared.slots.Phase.{Phase}
use Rattle.pin_core.specs.declared.slots.Phase.TheVariants.{Free, Filling, Current, Replaced}
use Rattle.pin_core.specs.Slots.{is_free, is_replaced, published_slot, replaced_phase}
use Rattle.pin_core.specs.Machine.{unused}
use Rattle.pin_table.specs.declared.views.Turn.{Turn}
use Rattle.pin_table.specs.declared.views.Past.{Past}
use Rattle.pin_table.specs.declared.views.PassView.{PassView}
use Rattle.pin_table.specs.declared.views.Drain.{Drain}
use Rattle.pin_table.specs.declared.views.Plan.{Plan}
use Rattle.pin_table.specs.declared.sweeper.Swept.{Swept}
use Rattle.pin_table.specs.declared.sweeper.Swept.TheVariants as swept
use Rattle.pin_table.specs.Closing.{IsClosed, chains_left, joined_at, left_at, left_in, with_joined}
use Rattle.pin_table.specs.Known.{serial_at, filled_at, chain_in, first_plan, has_chain}
use Rattle.pin_table.specs.Opening.{with_made}
use Rattle.pin_table.specs.declared.lots.Lot.{Lot}
use Rattle.pin_table.specs.declared.lots.Stage.{Stage}
use Rattle.pin_table.specs.declared.lots.Stage.TheVariants as stage
use Rattle.pin_table.specs.Publishing.{filled_to, next_plan, phase_of, slot_of}
use Rattle.pin_table.specs.Shown.{Chained}
use Rattle.pin_table.specs.Standing.{standing_at, standing, IsOfIdentity, IsStanding, IsWhole}
use Rattle.pin_table.specs.Steps.{plan_slot, retired, swept_plan, with_pins}
use Rattle.pin_table.specs.Sweeping.{IsSwept, free_again, gone_all, retired_plan}
use Rattle.pin_table.specs.Tags.{Identity, IsNamed, AreNamed, AreSame, Keeps}
use Rattle.pin_table.proofs.Basics.{by_two}
use Rattle.pin_table.proofs.Busy.{get_some, get_within, unmarked}
use Rattle.pin_table.proofs.Replacing.{no_lot, lot_at, lots_long}
use Rattle.pin_table.proofs.Remaining.{chains_to, chains_next, chains_all, get_at, of_joined}
use Rattle.pin_table.proofs.Tags.{named_kept, named_push}

-- a lot that isn't free has each worker's chain
lot_has : (x : Stage) (w : ℕ) → is_free (phase_of x) ≡ false → has_chain w (phase_of x) ≡ true
lot_has stage.Free w e = absurd (false≢true (sym e))
lot_has stage.Current w e = refl
lot_has (stage.Replaced total) w e = ap not (unmarked w)

pub lots_have : (slots : List Slot) (lots : List Lot) (i w : ℕ) → slots ≡ map slot_of lots → length slots ≡ 4 → i < 4
    → is_free (get_or slots i unused).phase ≡ false → has_chain w (get_or slots i unused).phase ≡ true
lots_have slots lots i w is wide low free =
    let at = lot_at slots lots i no_lot is (let l = lots_long slots lots is wide in omega (arith, l, low)) in
    ap (λ (x : Slot). has_chain w x.phase) at
    ∙ lot_has (get_or lots i no_lot).stage w (ap (λ (x : Slot). is_free x.phase) (sym at) ∙ free)

-- the sum of the first numbers
unfoldable sum_to : (ℕ → ℕ) → ℕ → ℕ
sum_to g zero = 0
sum_to g (suc k) = g 0 + sum_to (λ w. g (suc w)) k

to_none : (g : ℕ → ℕ) → sum_to g 0 ≡ 0
unfolding sum_to
to_none g = refl

to_first : (g : ℕ → ℕ) (k : ℕ) → sum_to g (suc k) ≡ g 0 + sum_to (λ w. g (suc w)) k
unfolding sum_to
to_first g k = refl

to_last : (g : ℕ → ℕ) (k : ℕ) → sum_to g (suc k) ≡ sum_to g k + g k
to_last g zero = (let a = to_first g 0 in let b = to_none g in let c = to_none (λ w. g (suc w)) in omega (arith, a, b, c))
to_last g (suc k) =
    let a = to_first g (suc k) in
    let b = to_last (λ w. g (suc w)) k in
    let c = to_first g k in omega (arith, a, b, c)

to_alike : (g h : ℕ → ℕ) (k : ℕ) → ((w : ℕ) → w < k → g w ≡ h w) → sum_to g k ≡ sum_to h k
to_alike g h zero e = to_none g ∙ sym (to_none h)
to_alike g h (suc k) e =
    let a = to_last g k in
    let b = to_last h k in
    let c = to_alike g h k (λ w l. e w (omega (arith, l))) in
    let d = e k (omega arith) in omega (arith, a, b, c, d)

to_both : (g : ℕ → ℕ) (a b : ℕ) → sum_to g (a + b) ≡ sum_to g a + sum_to (λ w. g (a + w)) b
to_both g a zero =
    let z : a + 0 ≡ a = omega arith in
    let n = to_none (λ w. g (a + w)) in
    ap (sum_to g) z ∙ omega (arith, n)
to_both g a (suc b) =
    let z : a + suc b ≡ suc (a + b) = omega arith in
    let l = to_last g (a + b) in
    let m = to_last (λ w. g (a + w)) b in
    let h = to_both g a b in
    ap (sum_to g) z ∙ omega (arith, l, m, h)

to_zero : (g : ℕ → ℕ) (k : ℕ) → ((w : ℕ) → w < k → g w ≡ 0) → sum_to g k ≡ 0
to_zero g zero e = to_none g
to_zero g (suc k) e =
    let a = to_last g k in
    let b = to_zero g k (λ w l. e w (omega (arith, l))) in
    let c = e k (omega arith) in omega (arith, a, b, c)

-- a slot that was replaced isn't free
busy : (phase : Phase) → is_replaced phase ≡ true → is_free phase ≡ false
busy Free is = absurd (false≢true is)
busy (Filling marks) is = refl
busy (Current pins) is = refl
busy (Replaced total ready drained) is = refl

-- another publication frees no slot, and takes none
same_phase : (pins base : ℕ) (phase : Phase)
    → is_free (replaced_phase base (with_pins pins phase)) ≡ is_free phase
same_phase pins base Free = refl
same_phase pins base (Filling marks) = refl
same_phase pins base (Current k) = refl
same_phase pins base (Replaced total ready drained) = refl

-- the sum over the slots
abbrev four : (ℕ → ℕ) → ℕ
four g = g 0 + g 1 + g 2 + g 3

-- where one slot changes
one_of_four : (g h : ℕ → ℕ) (i : ℕ) → i < 4 → ((j : ℕ) → j < 4 → j ≢ i → h j ≡ g j)
    → four h + g i ≡ four g + h i
one_of_four g h zero l e =
    let a = e 1 (omega arith) (λ q. omega (arith, q)) in
    let b = e 2 (omega arith) (λ q. omega (arith, q)) in
    let c = e 3 (omega arith) (λ q. omega (arith, q)) in omega (arith, a, b, c)
one_of_four g h (suc zero) l e =
    let a = e 0 (omega arith) (λ q. omega (arith, q)) in
    let b = e 2 (omega arith) (λ q. omega (arith, q)) in
    let c = e 3 (omega arith) (λ q. omega (arith, q)) in omega (arith, a, b, c)
one_of_four g h (suc (suc zero)) l e =
    let a = e 0 (omega arith) (λ q. omega (arith, q)) in
    let b = e 1 (omega arith) (λ q. omega (arith, q)) in
    let c = e 3 (omega arith) (λ q. omega (arith, q)) in omega (arith, a, b, c)
one_of_four g h (suc (suc (suc zero))) l e =
    let a = e 0 (omega arith) (λ q. omega (arith, q)) in
    let b = e 1 (omega arith) (λ q. omega (arith, q)) in
    let c = e 2 (omega arith) (λ q. omega (arith, q)) in omega (arith, a, b, c)
one_of_four g h (suc (suc (suc (suc k)))) l e = absurd (omega (arith, l))

module _ {C : Type 0} where
  -- two lists that come to the same, element by element
  pub same_sum : (f : C → ℕ) (xs ys : List C) → length xs ≡ length ys
      → ((k : ℕ) (x y : C) → slice_get xs k ≡ Some x → slice_get ys k ≡ Some y → f x ≡ f y)
      → sum_by f xs ≡ sum_by f ys
  same_sum f [] [] e h = refl
  same_sum f [] (y ∷ ys) e h = absurd (omega (arith, e))
  same_sum f (x ∷ xs) [] e h = absurd (omega (arith, e))
  same_sum f (x ∷ xs) (y ∷ ys) e h =
      let one = h 0 x y refl refl in
      let rest = same_sum f xs ys (omega (arith, e)) (λ k a b. h (suc k) a b) in
      sum_by-cons f x xs ∙ ((λ i. one i + rest i) ∙ sym (sum_by-cons f y ys))

  pub stands_four : (f : C → ℕ) (p : Plan C) → standing f p ≡ four (standing_at f p)
  unfolding standing
  stands_four f p = refl

  pub stands_made : (f : C → ℕ) (p : Plan C) (k : ℕ) → standing f (with_made p k) ≡ standing f p
  unfolding standing
  stands_made f p k = refl

  pub stands_swept : (f : C → ℕ) (p : Plan C) (slot ended : ℕ) → standing f (swept_plan p slot ended) ≡ standing f p
  unfolding standing
  stands_swept f p slot ended = refl

  pub stands_first : (f : C → ℕ) (n : ℕ) → standing f (first_plan n) ≡ 0
  unfolding standing
  stands_first f n = refl

  pub stands_joined : (f : C → ℕ) (p : Plan C) (qs : List (PassView C)) → standing f (with_joined p qs) ≡ standing f p
  unfolding standing
  stands_joined f p qs = refl

  filled_low : (filled : List (List C)) (a w : ℕ) (c : C) → filled_at filled a w ≡ Some c → a < length filled
  filled_low filled a w c e = by_two (ltb a (length filled))
      (λ is. ltb-true a (length filled) is)
      (λ past. absurd (none-some c (sym (ap (λ (l : List C). slice_get l w) (get_or_past filled a [] (ltb-false a (length filled) past))) ∙ e)))

module _ {C I : Type 0} (identity : C → I) where
  gone_rest : (filled : List (List C)) (serial w : ℕ) (cs : List C) (ds : List (Drain C))
      → All (IsNamed identity filled) (gone_all serial w cs ds) → All (IsNamed identity filled) ds
  gone_rest filled serial w [] ds h = h
  gone_rest filled serial w (c ∷ cs) ds h =
      let d : Drain C = record { serial = serial; worker = w; chain = c } in
      All-tail (IsNamed identity filled) d ds (gone_rest filled serial (suc w) cs (d ∷ ds) h)

  gone_named : (filled : List (List C)) (serial w : ℕ) (cs : List C) (ds : List (Drain C))
      → All (IsNamed identity filled) (gone_all serial w cs ds) → (k : ℕ) (c : C) → slice_get cs k ≡ Some c
      → IsNamed identity filled (record { serial = serial; worker = w + k; chain = c })
  gone_named filled serial w [] ds h k c e = absurd (none-some c e)
  gone_named filled serial w (x ∷ cs) ds h zero c e =
      let d : Drain C = record { serial = serial; worker = w; chain = x } in
      let at : w ≡ w + 0 = omega arith in
      subst (λ (z : ℕ × C). IsNamed identity filled (record { serial = serial; worker = z.0; chain = z.1 })) (λ i. (at i, same_Some x c e i))
      (All-head (IsNamed identity filled) d ds (gone_rest filled serial (suc w) cs (d ∷ ds) h))
  gone_named filled serial w (x ∷ cs) ds h (suc k) c e =
      let at : suc w + k ≡ w + suc k = omega arith in
      subst (λ (z : ℕ). IsNamed identity filled (record { serial = serial; worker = z; chain = c })) at
      (gone_named filled serial (suc w) cs (record { serial = serial; worker = w; chain = x } ∷ ds) h k c e)

  -- the chains of a generation that came home come to what was filled
  home_sum : (f : C → ℕ) → IsOfIdentity identity f → (filled : List (List C)) (n serial : ℕ) (cs : List C) (ds : List (Drain C))
      → 0 < n → length cs ≡ n → All (λ chains. length chains ≡ n) filled
      → All (IsNamed identity filled) (gone_all serial 0 cs ds)
      → sum_by f cs ≡ sum_by f (get_or filled serial [])
  home_sum f of filled n serial cs ds some long full named =
      let at : (k : ℕ) (c : C) → slice_get cs k ≡ Some c → IsNamed identity filled (record { serial = serial; worker = k; chain = c }) =
      λ k c e. let z : 0 + k ≡ k = omega arith in subst (λ (j : ℕ). IsNamed identity filled (record { serial = serial; worker = j; chain = c })) z (gone_named filled serial 0 cs ds named k c e) in
      let t = get_some cs 0 (omega (arith, some, long)) in
      let low = filled_low filled serial 0 (at 0 t.0 t.1).0 (at 0 t.0 t.1).1 in
      let wide : length (get_or filled serial []) ≡ n = All-get_or (λ (l : List C). length l ≡ n) filled serial [] low full in
      same_sum f cs (get_or filled serial []) (long ∙ sym wide)
      (λ k x y ex ey. let h = at k x ex in of x y (h.2 ∙ ap identity (same_Some h.0 y (sym h.1 ∙ ey))))

  -- a slot that is free again
  retired_low : (p : Plan C) (slot found : ℕ) (cs : List C) → slot < 4 → length p.slots ≡ 4
      → ((i : ℕ) → i < 4 → is_free (plan_slot p i).phase ≡ false → serial_at p.past.serials i < length p.past.filled)
      → (i : ℕ) → i < 4 → is_free (plan_slot (retired_plan p slot found cs) i).phase ≡ false
      → serial_at p.past.serials i < length p.past.filled
  retired_low p slot found cs low wide old i within free = dite (ℕ_discrete i slot)
      (λ e. absurd (false≢true (sym free ∙ ap (λ (x : Slot). is_free x.phase) (ap (λ (k : ℕ). get_or (set p.slots slot (free_again (plan_slot p slot))) k unused) e ∙ get_or-set_same p.slots slot (free_again (plan_slot p slot)) unused (omega (arith, low, wide))))))
      (λ ne. old i within (ap (λ (x : Slot). is_free x.phase) (sym (get_or-set_other p.slots slot i (free_again (plan_slot p slot)) unused ne)) ∙ free))

  -- behind a sweep, of which it is known that what came home is what was filled
  pub stands_sweep : (p : Plan C) (slot : ℕ) (home : List C) (x : Swept) (home' : List C) (p' : Plan C) → slot < 4 → length p.slots ≡ 4
      → IsSwept p slot home x home' p' → AreNamed identity p' → IsStanding identity p → IsStanding identity p'
  stands_sweep p slot home swept.Retired home' p' low wide sw named is =
      subst (IsStanding identity) (sym sw.then) (record {
        named = subst (AreNamed identity) sw.then named;
        full = is.full;
        low = retired_low p slot sw.found sw.chains low wide is.low;
      })
  stands_sweep p slot home (swept.NotYet ended total) home' p' low wide sw named is =
      subst (IsStanding identity) (sym sw.4) (record { named = is.named; full = is.full; low = is.low })
  stands_sweep p slot home swept.Current home' p' low wide sw named is = subst (IsStanding identity) (sym sw.2) is
  stands_sweep p slot home swept.Bare home' p' low wide sw named is = subst (IsStanding identity) (sym sw.2) is

  retired_sum : (f : C → ℕ) → IsOfIdentity identity f → (p : Plan C) (slot found : ℕ) (home cs : List C)
      → slot < 4 → length p.slots ≡ 4 → 0 < p.workers → is_replaced (plan_slot p slot).phase ≡ true → length cs ≡ p.workers
      → AreNamed identity (retired_plan p slot found cs) → IsStanding identity p
      → sum_by f (home ++ cs) + standing f (retired_plan p slot found cs) ≡ sum_by f home + standing f p
  retired_sum f of p slot found home cs low wide some was long named is =
      let p' = retired_plan p slot found cs in
      let here : plan_slot p' slot ≡ free_again (plan_slot p slot) = get_or-set_same p.slots slot (free_again (plan_slot p slot)) unused (omega (arith, low, wide)) in
      let nought : standing_at f p' slot ≡ 0 = ap (λ (x : Slot). cond {A = ℕ} (is_free x.phase) 0 (sum_by f (get_or p.past.filled (serial_at p.past.serials slot) []))) here in
      let was_so : standing_at f p slot ≡ sum_by f (get_or p.past.filled (serial_at p.past.serials slot) []) =
      ap (λ (b : Bool). cond {A = ℕ} b 0 (sum_by f (get_or p.past.filled (serial_at p.past.serials slot) []))) (busy (plan_slot p slot).phase was) in
      let came = home_sum f of p.past.filled p.workers (serial_at p.past.serials slot) cs p.drains some long is.full named in
      let moves = one_of_four (standing_at f p) (standing_at f p') slot low
      (λ j l ne. ap (λ (x : Slot). cond {A = ℕ} (is_free x.phase) 0 (sum_by f (get_or p.past.filled (serial_at p.past.serials j) []))) (get_or-set_other p.slots slot j (free_again (plan_slot p slot)) unused ne)) in
      let both = sum_by-append f home cs in
      let before = stands_four f p in
      let behind = stands_four f p' in
      omega (arith, nought, was_so, came, moves, both, before, behind)

  pub sweep_sum : (f : C → ℕ) → IsOfIdentity identity f → (p : Plan C) (slot : ℕ) (home : List C) (x : Swept) (home' : List C) (p' : Plan C)
      → slot < 4 → length p.slots ≡ 4 → 0 < p.workers → IsSwept p slot home x home' p' → AreNamed identity p' → IsStanding identity p
      → sum_by f home' + standing f p' ≡ sum_by f home + standing f p
  sweep_sum f of p slot home swept.Retired home' p' low wide some sw named is =
      (λ i. sum_by f (sw.grown i) + standing f (sw.then i))
      ∙ retired_sum f of p slot sw.found home sw.chains low wide some sw.replaced sw.each (subst (AreNamed identity) sw.then named) is
  sweep_sum f of p slot home (swept.NotYet ended total) home' p' low wide some sw named is =
      (λ i. sum_by f (sw.3 i) + standing f (sw.4 i)) ∙ ap (λ (k : ℕ). sum_by f home + k) (stands_swept f p slot ended)
  sweep_sum f of p slot home swept.Current home' p' low wide some sw named is = λ i. sum_by f (sw.1 i) + standing f (sw.2 i)
  sweep_sum f of p slot home swept.Bare home' p' low wide some sw named is = λ i. sum_by f (sw.1 i) + standing f (sw.2 i)

  -- at the start
  pub first_standing : (n : ℕ) → IsStanding identity (first_plan n)
  first_standing n = record {
    named = All-nil (IsNamed identity []);
    full = All-nil (λ (l : List C). length l ≡ n);
    low = λ slot l free. absurd (false≢true (sym free ∙ ap (λ (x : Slot). is_free x.phase) (get_or-replicate 4 slot unused unused l)));
  }

  -- behind a publication
  module _ (p : Plan C) (slot : ℕ) (chains : List C) (found : ℕ) (low : slot < 4) (wide : length p.slots ≡ 4)
      (deep : length p.past.serials ≡ 4) (count : length p.past.published ≡ length p.past.filled) (long : length chains ≡ p.workers) where
    abbrev p' : Plan C
    p' = next_plan p slot chains found

    abbrev new : ℕ
    new = length p.past.published

    serial_here : serial_at p'.past.serials slot ≡ new
    serial_here = get_or-set_same p.past.serials slot new 0 (omega (arith, low, deep))

    serial_else : (j : ℕ) → j ≢ slot → serial_at p'.past.serials j ≡ serial_at p.past.serials j
    serial_else j ne = get_or-set_other p.past.serials slot j new 0 ne

    whole : take p.workers chains ≡ chains
    whole = take_all p.workers chains (omega (arith, long))

    filled_here : get_or p'.past.filled new [] ≡ chains
    filled_here = get_or_push p.past.filled (take p.workers chains) [] new (sym count) ∙ whole

    filled_else : (a : ℕ) → a < length p.past.filled → get_or p'.past.filled a [] ≡ get_or p.past.filled a []
    filled_else a l = get_or_append_left p.past.filled (take p.workers chains ∷ []) [] a l

    abbrev filling : Slot
    filling = filled_to p.workers (plan_slot p slot)

    abbrev pins : ℕ
    pins = found % 4503599627370496

    wide' : length (map (retired pins) (set p.slots slot filling)) ≡ 4
    wide' = length-map (set p.slots slot filling) (retired pins) ∙ (length-set p.slots slot filling ∙ wide)

    busy_here : is_free (plan_slot p' slot).phase ≡ false
    busy_here = ap (λ (x : Slot). is_free x.phase) (get_or-set_same (map (retired pins) (set p.slots slot filling)) slot (published_slot (get_or (set p.slots slot filling) slot unused)) unused (let w = wide' in omega (arith, low, w)))

    free_else : (j : ℕ) → j < 4 → j ≢ slot → is_free (plan_slot p' j).phase ≡ is_free (plan_slot p j).phase
    free_else j l ne =
        let long' = length-set p.slots slot filling in
        ap (λ (x : Slot). is_free x.phase) (get_or-set_other (map (retired pins) (set p.slots slot filling)) slot j (published_slot (get_or (set p.slots slot filling) slot unused)) unused ne
        ∙ (get_or-map (retired pins) (set p.slots slot filling) j unused unused (omega (arith, long', wide, l))
        ∙ ap (λ (x : Slot). retired pins x) (get_or-set_other p.slots slot j filling unused ne)))
        ∙ same_phase pins (plan_slot p j).base (plan_slot p j).phase

    low_next : IsStanding identity p → (j : ℕ) → j < 4 → is_free (plan_slot p' j).phase ≡ false
        → serial_at p'.past.serials j < length p'.past.filled
    low_next is j l free =
        let more = length_push p.past.filled (take p.workers chains) in
        dite (ℕ_discrete j slot)
        (λ e. let at = ap (serial_at p'.past.serials) e ∙ serial_here in omega (arith, at, count, more))
        (λ ne. let at = serial_else j ne in let was = is.low j l (sym (free_else j l ne) ∙ free) in omega (arith, at, was, more))

    pub stands_next : IsStanding identity p → IsStanding identity p'
    stands_next is = record {
      named = named_push identity p.past.filled (take p.workers chains) p.drains is.named;
      full = All-push (λ (l : List C). length l ≡ p.workers) p.past.filled (take p.workers chains) is.full (ap (λ (l : List C). length l) whole ∙ long);
      low = low_next is;
    }

    pub next_sum : (f : C → ℕ) → is_free (plan_slot p slot).phase ≡ true → IsStanding identity p
        → standing f p' ≡ standing f p + sum_by f chains
    next_sum f free is =
        let here : standing_at f p' slot ≡ sum_by f chains =
        ap (λ (b : Bool). cond {A = ℕ} b 0 (sum_by f (get_or p'.past.filled (serial_at p'.past.serials slot) []))) busy_here
        ∙ (ap (λ (k : ℕ). sum_by f (get_or p'.past.filled k [])) serial_here ∙ ap (λ (l : List C). sum_by f l) filled_here) in
        let none : standing_at f p slot ≡ 0 =
        ap (λ (b : Bool). cond {A = ℕ} b 0 (sum_by f (get_or p.past.filled (serial_at p.past.serials slot) []))) free in
        let others : (j : ℕ) → j < 4 → j ≢ slot → standing_at f p' j ≡ standing_at f p j =
        λ j l ne. by_two (is_free (plan_slot p j).phase)
        (λ e. ap (λ (b : Bool). cond {A = ℕ} b 0 (sum_by f (get_or p'.past.filled (serial_at p'.past.serials j) []))) (free_else j l ne ∙ e)
        ∙ sym (ap (λ (b : Bool). cond {A = ℕ} b 0 (sum_by f (get_or p.past.filled (serial_at p.past.serials j) []))) e))
        (λ e. ap (λ (b : Bool). cond {A = ℕ} b 0 (sum_by f (get_or p'.past.filled (serial_at p'.past.serials j) []))) (free_else j l ne ∙ e)
        ∙ (ap (λ (k : ℕ). sum_by f (get_or p'.past.filled k [])) (serial_else j ne)
        ∙ (ap (λ (l : List C). sum_by f l) (filled_else (serial_at p.past.serials j) (is.low j l e))
        ∙ sym (ap (λ (b : Bool). cond {A = ℕ} b 0 (sum_by f (get_or p.past.filled (serial_at p.past.serials j) []))) e)))) in
        let moves = one_of_four (standing_at f p) (standing_at f p') slot low others in
        let before = stands_four f p in
        let behind = stands_four f p' in
        omega (arith, here, none, moves, before, behind)

module _ {C : Type 0} where
  -- what one chain comes to, if there is one
  abbrev val : (C → ℕ) → Option C → ℕ
  val f None = 0
  val f (Some c) = f c

  val_list : (f : C → ℕ) (o : Option C) → sum_by f (option_to_list o) ≡ val f o
  val_list f None = refl
  val_list f (Some c) = omega arith

  get_past : (xs : List C) (k : ℕ) → length xs ≤ k → slice_get xs k ≡ None
  get_past [] k l = refl
  get_past (x ∷ xs) zero l = absurd (omega (arith, l))
  get_past (x ∷ xs) (suc k) l = get_past xs k (omega (arith, l))

  -- a list comes to what its places come to
  list_sum : (f : C → ℕ) (xs : List C) (k : ℕ) → length xs ≤ k → sum_by f xs ≡ sum_to (λ w. val f (slice_get xs w)) k
  list_sum f [] k l = sym (to_zero (λ w. val f (slice_get {X = C} [] w)) k (λ w _. refl))
  list_sum f (x ∷ xs) zero l = absurd (omega (arith, l))
  list_sum f (x ∷ xs) (suc k) l =
      sum_by-cons f x xs
      ∙ (ap (λ (n : ℕ). f x + n) (list_sum f xs k (omega (arith, l))) ∙ sym (to_first (λ w. val f (slice_get (x ∷ xs) w)) k))

  left_first : (f : C → ℕ) (p : Plan C) (k : ℕ) → sum_by f (chains_to p k) ≡ sum_to (λ j. val f (left_in p j)) k
  left_first f p zero = sym (to_none (λ j. val f (left_in p j)))
  left_first f p (suc k) =
      let z : k + 1 ≡ suc k = omega arith in
      let both = sum_by-append f (chains_to p k) (option_to_list (left_in p k)) in
      let one = val_list f (left_in p k) in
      let before = left_first f p k in
      let last = to_last (λ j. val f (left_in p j)) k in
      ap (λ (l : List C). sum_by f l) (sym (chains_next p k ∙ ap (chains_to p) z)) ∙ omega (arith, both, one, before, last)

  free_none : (past : Past C) (next : List C) (i w : ℕ) (ts : List (Turn C)) (ph : Phase) → is_free ph ≡ true
      → chain_in past next i w ts ph ≡ None
  free_none past next i w ts Free is = refl
  free_none past next i w ts (Filling marks) is = absurd (false≢true is)
  free_none past next i w ts (Current k) is = absurd (false≢true is)
  free_none past next i w ts (Replaced total ready d) is = absurd (false≢true is)

  -- the cell of this slot and worker
  in_cell : (p : Plan C) (i w : ℕ) → w < 32
      → left_in p (32 * i + w) ≡ cond (ltb w p.workers) (left_at p i w) None
  in_cell p i w l =
      let e : (32 * i + w) % 32 ≡ w = omega (arith, l) in
      let d : (32 * i + w) / 32 ≡ i = omega (arith, l) in
      (λ k. cond (ltb (e k) p.workers) (left_at p (d k) (e k)) None)

module _ {C I : Type 0} (identity : C → I) where
  -- what is left in a slot
  slot_sum : (f : C → ℕ) → IsOfIdentity identity f → (p : Plan C) → IsStanding identity p → IsWhole p → p.workers ≤ 32
      → ((w : ℕ) → Chained p.past.filled w (joined_at p.joined w).turns) → ((w : ℕ) → AreSame identity (joined_at p.joined w).turns)
      → (i : ℕ) → i < 4 → sum_to (λ w. val f (left_in p (32 * i + w))) 32 ≡ standing_at f p i
  slot_sum f of p is whole few chained same i low = by_two (is_free (plan_slot p i).phase)
      (λ free. to_zero (λ w. val f (left_in p (32 * i + w))) 32
      (λ w l. ap (val f) (in_cell p i w l) ∙ by_two (ltb w p.workers)
      (λ e. ap (val f) (ap (λ (b : Bool). cond b (left_at p i w) None) e ∙ free_none p.past [] i w (joined_at p.joined w).turns (plan_slot p i).phase free))
      (λ e. ap (λ (b : Bool). val f (cond b (left_at p i w) None)) e))
      ∙ sym (ap (λ (b : Bool). cond {A = ℕ} b 0 (sum_by f (get_or p.past.filled (serial_at p.past.serials i) []))) free))
      (λ not.
      let s = serial_at p.past.serials i in
      let xs = get_or p.past.filled s [] in
      let wide : length xs ≡ p.workers = All-get_or (λ (l : List C). length l ≡ p.workers) p.past.filled s [] (is.low i low not) is.full in
      to_alike (λ w. val f (left_in p (32 * i + w))) (λ w. val f (slice_get xs w)) 32
      (λ w l. ap (val f) (in_cell p i w l) ∙ by_two (ltb w p.workers)
      (λ e.
      let t = whole i w low (ltb-true w p.workers e) not in
      let named = named_kept identity p.past.filled w s (joined_at p.joined w).turns t.0 (chained w) (same w) t.2 in
      ap (val f) (ap (λ (b : Bool). cond b (left_at p i w) None) e ∙ t.1) ∙ (of t.0 named.0 named.2 ∙ sym (ap (val f) named.1)))
      (λ e. ap (λ (b : Bool). val f (cond b (left_at p i w) None)) e
      ∙ sym (ap (val f) (get_past xs w (let n = ltb-false w p.workers e in omega (arith, n, wide))))))
      ∙ (sym (list_sum f xs 32 (omega (arith, wide, few)))
      ∙ sym (ap (λ (b : Bool). cond {A = ℕ} b 0 (sum_by f xs)) not)))

  -- all that is left
  pub close_sum : (f : C → ℕ) → IsOfIdentity identity f → (p : Plan C) → IsStanding identity p → IsWhole p → p.workers ≤ 32
      → ((w : ℕ) → Chained p.past.filled w (joined_at p.joined w).turns) → ((w : ℕ) → AreSame identity (joined_at p.joined w).turns)
      → sum_by f (chains_left p) ≡ standing f p
  close_sum f of p is whole few chained same =
      let g : ℕ → ℕ = λ k. val f (left_in p k) in
      let a = slot_sum f of p is whole few chained same 0 (omega arith) in
      let b = slot_sum f of p is whole few chained same 1 (omega arith) in
      let c = slot_sum f of p is whole few chained same 2 (omega arith) in
      let d = slot_sum f of p is whole few chained same 3 (omega arith) in
      let all = ap (λ (l : List C). sum_by f l) (sym (chains_all p)) ∙ left_first f p 128 in
      let s1 = to_both g 96 32 in
      let s2 = to_both g 64 32 in
      let s3 = to_both g 32 32 in
      let z : sum_to (λ w. g (0 + w)) 32 ≡ sum_to g 32 = to_alike (λ w. g (0 + w)) g 32 (λ w _. let e : 0 + w ≡ w = omega arith in ap g e) in
      let behind = stands_four f p in
      all ∙ (s1 ∙ ((λ k. (s2 k) + d k) ∙ ((λ k. (s3 k + c k) + standing_at f p 3) ∙ ((λ k. ((sym z ∙ a) k + b k) + standing_at f p 2 + standing_at f p 3) ∙ sym behind))))

module _ {C K N : Type 0} (identity : C → Identity K) (log : C → List (List N)) where
  pub joined_chained : (p : Plan C) → IsClosed p → (w : ℕ) → Chained p.past.filled w (joined_at p.joined w).turns
  joined_chained p h w = of_joined identity log (λ w ts. Chained p.past.filled w ts) p.joined h.turns (λ _. tt) w

  same_kept : (ts : List (Turn C)) → Keeps identity log ts → AreSame identity ts
  same_kept [] h = tt
  same_kept (t ∷ ts) h = (h.0, same_kept ts h.2)

  pub joined_same : (p : Plan C) → All (λ (q : PassView C). Keeps identity log q.turns) p.joined
      → (w : ℕ) → AreSame identity (joined_at p.joined w).turns
  joined_same p keeps w = of_joined identity log (λ _ ts. AreSame identity ts) p.joined
      (λ w q e. same_kept q.turns (subst (λ (z : PassView C). Keeps identity log z.turns) (get_at p.joined w q q e) (All-get_or (λ (z : PassView C). Keeps identity log z.turns) p.joined w q (get_within p.joined w q e) keeps)))
      (λ _. tt) w
