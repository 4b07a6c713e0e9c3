-- Each published chain stays accounted for at each sweep and each publication.
use Rattle.std.proofs.Common.{◌≡◌, ◌≢◌, ◌<◌, ◌≤◌, ◌⊎◌, inl, inr, ℕ, zero, suc, ◌+◌, ◌%◌, ◌==◌, Bool, true, false, not, eqb-true, List, [], ◌∷◌, map, length, get_or, set, replicate, refl, sym, ap, ◌∙◌, subst, arith}
use Rattle.std.proofs.lemmas.List.{get_or-set_other, get_or-set_same, length-map, length-set, length_push}
use Rattle.pin_core.specs.declared.slots.TheConstants.{SLOTS}
use Rattle.pin_core.specs.declared.slots.Slot.{Slot}
use Rattle.pin_core.specs.declared.slots.Phase.{Phase}
use Rattle.pin_core.specs.declared.slots.Phase.TheVariants.{Free, Filling, Current, Replaced}
use Rattle.pin_core.specs.Machine.{unused}
use Rattle.pin_core.specs.Slots.{is_free, published_slot, replaced_phase}
use Rattle.pin_table.specs.declared.views.Drain.{Drain}
use Rattle.pin_table.specs.declared.views.Plan.{Plan}
use Rattle.pin_table.specs.declared.free_slots.FreeSlot.{FreeSlot}
use Rattle.pin_table.specs.Freeing.{IsFreed}
use Rattle.pin_table.specs.declared.sweeper.Swept.{Swept}
use Rattle.pin_table.specs.declared.sweeper.Swept.TheVariants as swept
use Rattle.pin_table.specs.Known.{first_plan, has_chain, serial_at}
use Rattle.pin_table.specs.Steps.{count_of, plan_slot, retired, with_pins}
use Rattle.pin_table.specs.Sweeping.{IsSwept, gone_all, retired_plan}
use Rattle.pin_table.specs.Publishing.{next_plan}
use Rattle.pin_table.specs.Opening.{opened_plan}
use Rattle.all_home.specs.AllHome.{AreAccounted, HasDrain, IsLive}

by_two : {R : Type 0} (b : Bool) → (b ≡ true → R) → (b ≡ false → R) → R
by_two true t f = t refl
by_two false t f = f refl

unmarked : (n w : ℕ) → get_or (replicate n false) w false ≡ false
unmarked zero w = refl
unmarked (suc n) zero = refl
unmarked (suc n) (suc w) = unmarked n w

get_map : {A B : Type 0} (g : A → B) (xs : List A) (i : ℕ) (d : A) (e : B) → i < length xs → get_or (map g xs) i e ≡ g (get_or xs i d)
get_map g [] i d e low = absurd (omega (arith, low))
get_map g (x ∷ xs) zero d e low = refl
get_map g (x ∷ xs) (suc i) d e low = get_map g xs i d e (omega (arith, low))

-- a chain that was published still has its slot at another's publication
has_retired : (pins w : ℕ) (x : Slot) → has_chain w x.phase ≡ true → has_chain w (retired pins x).phase ≡ true
has_retired pins w x has = by x.phase refl has
  where
    by : (phase : Phase) → x.phase ≡ phase → has_chain w phase ≡ true → has_chain w (retired pins x).phase ≡ true
    by Free e h = absurd cc
    by (Filling marks) e h = absurd cc
    by (Current k) e h = ap (λ (f : Phase). has_chain w (replaced_phase x.base (with_pins pins f))) e ∙ ap not (unmarked 32 w)
    by (Replaced total ready drained) e h = ap (λ (f : Phase). has_chain w (replaced_phase x.base (with_pins pins f))) e ∙ h

-- a slot that is free
pub free_phase : (phase : Phase) → is_free phase ≡ true → phase ≡ Free
free_phase Free is = refl
free_phase (Filling marks) is = absurd cc
free_phase (Current pins) is = absurd cc
free_phase (Replaced total ready drained) is = absurd cc

module _ {C : Type 0} where
  gone_keeps : (s v t w : ℕ) (cs : List C) (ds : List (Drain C)) → HasDrain s v ds → HasDrain s v (gone_all t w cs ds)
  gone_keeps s v t w [] ds has = has
  gone_keeps s v t w (c ∷ cs) ds has = gone_keeps s v t (suc w) cs (record { serial = t; worker = w; chain = c } ∷ ds) (inr has)

  gone_has : (s v w : ℕ) (cs : List C) (ds : List (Drain C)) → w ≤ v → v < w + length cs → HasDrain s v (gone_all s w cs ds)
  gone_has s v w [] ds low high = absurd (omega (arith, low, high))
  gone_has s v w (c ∷ cs) ds low high = by_two (w == v)
      (λ e. gone_keeps s v s (suc w) cs (record { serial = s; worker = w; chain = c } ∷ ds) (inl (refl, eqb-true w v e)))
      (λ e. let apart : w ≢ v = (λ q. absurd (grind (arith, e, q))) in gone_has s v (suc w) cs (record { serial = s; worker = w; chain = c } ∷ ds) (omega (arith, low, apart)) (omega (arith, high)))

  -- a slot was retired
  retired_live : (p : Plan C) (slot found : ℕ) (cs : List C) (s w : ℕ) → length cs ≡ p.workers → w < p.workers → IsLive p s w
      → HasDrain s w (retired_plan p slot found cs).drains ⊎ IsLive (retired_plan p slot found cs) s w
  retired_live p slot found cs s w long low live = by_two (live.slot == slot)
      (λ e.
      let same : live.slot ≡ slot = eqb-true live.slot slot e in
      let serial : serial_at p.past.serials slot ≡ s = subst (λ (i : ℕ). serial_at p.past.serials i ≡ s) same live.serial_is in
      inl (subst (λ (t : ℕ). HasDrain s w (gone_all t 0 cs p.drains)) (sym serial) (gone_has s w 0 cs p.drains (omega arith) (omega (arith, long, low)))))
      (λ e.
      let apart : live.slot ≢ slot = (λ q. absurd (grind (arith, e, q))) in
      let at = get_or-set_other p.slots slot live.slot (Rattle.pin_table.specs.Sweeping.free_again (plan_slot p slot)) unused apart in
      inr (record { slot = live.slot; within = live.within; serial_is = live.serial_is; has = subst (λ (x : Slot). has_chain w x.phase ≡ true) (sym at) live.has }))

  pub swept_accounts : (p : Plan C) (slot : ℕ) (home : List C) (answer : Swept) (home' : List C) (p' : Plan C) → AreAccounted p → IsSwept p slot home answer home' p' → AreAccounted p'
  swept_accounts p slot home swept.Retired home' p' are is = subst AreAccounted (sym is.then) (record {
    four = length-set p.slots slot (Rattle.pin_table.specs.Sweeping.free_again (plan_slot p slot)) ∙ are.four;
    serials = are.serials;
    each = λ s w low worker. by s w worker (are.each s w low worker);
  })
    where
      by : (s w : ℕ) → w < p.workers → HasDrain s w p.drains ⊎ IsLive p s w → HasDrain s w (retired_plan p slot is.found is.chains).drains ⊎ IsLive (retired_plan p slot is.found is.chains) s w
      by s w worker (inl has) = inl (gone_keeps s w (serial_at p.past.serials slot) 0 is.chains p.drains has)
      by s w worker (inr live) = retired_live p slot is.found is.chains s w is.each worker live
  swept_accounts p slot home (swept.NotYet ended total) home' p' are is = subst AreAccounted (sym is.4) (record { four = are.four; serials = are.serials; each = λ s w low worker. by s w (are.each s w low worker) })
    where
      by : (s w : ℕ) → HasDrain s w p.drains ⊎ IsLive p s w → HasDrain s w p.drains ⊎ IsLive (Rattle.pin_table.specs.Steps.swept_plan p slot ended) s w
      by s w (inl has) = inl has
      by s w (inr live) = inr (record { slot = live.slot; within = live.within; serial_is = live.serial_is; has = live.has })
  swept_accounts p slot home swept.Current home' p' are is = subst AreAccounted (sym is.2) are
  swept_accounts p slot home swept.Bare home' p' are is = subst AreAccounted (sym is.2) are

  -- a generation was published in a free slot
  published_live : (p : Plan C) (slot found : ℕ) (cs : List C) (s w : ℕ) → length p.slots ≡ SLOTS → (plan_slot p slot).phase ≡ Free → IsLive p s w → IsLive (next_plan p slot cs found) s w
  published_live p slot found cs s w four free live =
      let apart : live.slot ≢ slot = (λ e.
      let h : has_chain w (plan_slot p slot).phase ≡ true = subst (λ (i : ℕ). has_chain w (plan_slot p i).phase ≡ true) e live.has in
      absurd (cc (h, ap (λ (f : Phase). has_chain w f) free))) in
      let X : Slot = Rattle.pin_table.specs.Publishing.filled_to p.workers (plan_slot p slot) in
      let inner : List Slot = set p.slots slot X in
      let R : Slot → Slot = retired (found % 4503599627370496) in
      let long = length-set p.slots slot X in
      let within = live.within in
      let at : plan_slot (next_plan p slot cs found) live.slot ≡ R (plan_slot p live.slot) =
      get_or-set_other (map R inner) slot live.slot (published_slot (get_or inner slot unused)) unused apart
      ∙ (get_map R inner live.slot unused unused (omega (arith, long, four, within)) ∙ ap R (get_or-set_other p.slots slot live.slot X unused apart)) in
      record {
        slot = live.slot;
        within = live.within;
        serial_is = get_or-set_other p.past.serials slot live.slot (count_of p) 0 apart ∙ live.serial_is;
        has = subst (λ (x : Slot). has_chain w x.phase ≡ true) (sym at) (has_retired (found % 4503599627370496) w (plan_slot p live.slot) live.has);
      }

  new_live : (p : Plan C) (slot found : ℕ) (cs : List C) (w : ℕ) → slot < SLOTS → length p.slots ≡ SLOTS → length p.past.serials ≡ SLOTS → IsLive (next_plan p slot cs found) (count_of p) w
  new_live p slot found cs w within four serials =
      let X : Slot = Rattle.pin_table.specs.Publishing.filled_to p.workers (plan_slot p slot) in
      let inner : List Slot = set p.slots slot X in
      let R : Slot → Slot = retired (found % 4503599627370496) in
      let long = length-set p.slots slot X in
      let wide = length-map inner R in
      let at : plan_slot (next_plan p slot cs found) slot ≡ published_slot (get_or inner slot unused) =
      get_or-set_same (map R inner) slot (published_slot (get_or inner slot unused)) unused (omega (arith, wide, long, four, within)) in
      record {
        slot = slot;
        within = within;
        serial_is = get_or-set_same p.past.serials slot (count_of p) 0 (omega (arith, serials, within));
        has = ap (λ (x : Slot). has_chain w x.phase) at;
      }

  pub published_accounts : (p : Plan C) (slot found : ℕ) (cs : List C) → slot < SLOTS → (plan_slot p slot).phase ≡ Free → AreAccounted p → AreAccounted (next_plan p slot cs found)
  published_accounts p slot found cs within free are =
      let X : Slot = Rattle.pin_table.specs.Publishing.filled_to p.workers (plan_slot p slot) in
      let inner : List Slot = set p.slots slot X in
      let R : Slot → Slot = retired (found % 4503599627370496) in
      record {
        four = length-set (map R inner) slot (published_slot (get_or inner slot unused)) ∙ (length-map inner R ∙ (length-set p.slots slot X ∙ are.four));
        serials = length-set p.past.serials slot (count_of p) ∙ are.serials;
        each = λ s w low worker.
            let grown : count_of (next_plan p slot cs found) ≡ count_of p + 1 = length_push p.past.published slot in
            by_two (s == count_of p)
            (λ e.
            let same : s ≡ count_of p = eqb-true s (count_of p) e in
            inr (subst (λ (t : ℕ). IsLive (next_plan p slot cs found) t w) (sym same) (new_live p slot found cs w within are.four are.serials)))
            (λ e.
            let apart : s ≢ count_of p = (λ q. absurd (grind (arith, e, q))) in
            by s w (are.each s w (omega (arith, low, grown, apart)) worker));
      }
    where
      by : (s w : ℕ) → HasDrain s w p.drains ⊎ IsLive p s w → HasDrain s w (next_plan p slot cs found).drains ⊎ IsLive (next_plan p slot cs found) s w
      by s w (inl has) = inl has
      by s w (inr live) = inr (published_live p slot found cs s w are.four free live)

  -- so it is once the first generation is published
  pub opened_accounts : (n found : ℕ) (cs : List C) → AreAccounted (opened_plan n cs found)
  opened_accounts n found cs =
      let a = published_accounts (first_plan n) 0 found cs (omega arith) refl (record { four = refl; serials = refl; each = λ s w low worker. absurd (omega (arith, low)) }) in
      record { four = a.four; serials = a.serials; each = λ s w low worker. by s w (a.each s w low worker) }
    where
      by : (s w : ℕ) → HasDrain s w (next_plan (first_plan n) 0 cs found).drains ⊎ IsLive (next_plan (first_plan n) 0 cs found) s w → HasDrain s w (opened_plan n cs found).drains ⊎ IsLive (opened_plan n cs found) s w
      by s w (inl has) = inl has
      by s w (inr live) = inr (record { slot = live.slot; within = live.within; serial_is = live.serial_is; has = live.has })

  -- behind a search for a free slot
  pub freed_accounts : (p : Plan C) (home : List C) (answer : FreeSlot) (home' : List C) (p' : Plan C) → AreAccounted p → IsFreed p home answer home' p' → AreAccounted p'
  freed_accounts p home answer home' p' are w =
      swept_accounts w.plan_2 w.c w.home_2 w.third home' p'
      (swept_accounts w.plan_1 w.b w.home_1 w.second w.home_2 w.plan_2 (swept_accounts p w.a home w.first w.home_1 w.plan_1 are w.sweep_1) w.sweep_2) w.sweep_3
