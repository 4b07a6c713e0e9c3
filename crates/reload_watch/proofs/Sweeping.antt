-- What a search for a free slot swept.
use Rattle.std.proofs.Common.{◌≡◌, ◌≢◌, ◌<◌, ℕ, true, false, List, [], ◌∷◌, length, refl, sym, ap, subst, ◌∙◌, inl, inr, arith}
use Rattle.pin_core.specs.declared.slots.TheConstants.{SLOTS}
use Rattle.pin_table.specs.declared.free_slots.FreeSlot.{FreeSlot}
use Rattle.pin_table.specs.declared.free_slots.FreeSlot.TheVariants as found
use Rattle.pin_table.specs.declared.free_slots.Left.{Left}
use Rattle.pin_table.specs.declared.sweeper.Swept.{Swept}
use Rattle.pin_table.specs.declared.sweeper.Swept.TheVariants as swept
use Rattle.pin_table.specs.declared.views.Plan.{Plan}
use Rattle.pin_table.specs.declared.views.Sweep.{Sweep}
use Rattle.pin_table.specs.Freeing.{IsFreed, answer_of, saw_current}
use Rattle.pin_table.specs.Known.{serial_at}
use Rattle.pin_table.specs.Steps.{count_of, look_at, swept_plan}
use Rattle.pin_table.specs.Sweeping.{IsSwept}
use Rattle.run_meaning.specs.declared.looking.Looking.{Looking}
use Rattle.run_meaning.specs.declared.looking.Looking.TheVariants as looking
use Rattle.chain_build.specs.declared.chain.Chain.{Chain}
use Rattle.plugin_api.specs.declared.extra.Extra as extra
use Rattle.plugin_api.specs.declared.rulebook.Rulebook as rulebook
use Rattle.reload_watch.specs.Look.{Searches, SearchesFirst}
use Rattle.reload_watch.specs.Placing.{IsPlaced}
use Rattle.reload_watch.specs.Sweeps.{KeepsSweeps, SweptFor, SweptThree}
use Rattle.reload_watch.proofs.Placed.{apart, placed_freed}
use Rattle.reload_watch.proofs.Standing.{freed_past}
use Rattle.pin_table.specs.declared.views.Past.{Past}

-- a sweep more
more : (sweep : Sweep) (before after : List Sweep) → after ≡ sweep ∷ before → KeepsSweeps before after
more sweep before after is = rw is (λ last serial left has. inr has)

-- no sweep more
same : (before after : List Sweep) → after ≡ before → KeepsSweeps before after
same before after is = rw is (λ last serial left has. has)

-- what an answer tells of each slot, or else this
abbrev left_first : Left → FreeSlot → Left
left_first other (found.Free slot) = other
left_first other (found.AllPinned first second third) = first

abbrev left_second : Left → FreeSlot → Left
left_second other (found.Free slot) = other
left_second other (found.AllPinned first second third) = second

abbrev left_third : Left → FreeSlot → Left
left_third other (found.Free slot) = other
left_third other (found.AllPinned first second third) = third

-- where no slot was free, none was
not_free : (first second third : Left) (slot : ℕ) → found.AllPinned first second third ≡ found.Free slot → ⊥
not_free first second third slot e = absurd cc

not_current : true ≡ false → ⊥
not_current e = absurd cc

module _ {C : Type 0} where
  -- a sweep of a slot
  by_one : (p : Plan C) (slot : ℕ) (home : List C) (x : Swept) (home' : List C) (p' : Plan C) → IsSwept p slot home x home' p' → KeepsSweeps p.sweeps p'.sweeps
  by_one p slot home swept.Retired home' p' is = more (look_at p slot is.found) p.sweeps p'.sweeps (ap (λ (q : Plan C). q.sweeps) is.then)
  by_one p slot home (swept.NotYet ended total) home' p' is = more (look_at p slot ended) p.sweeps p'.sweeps (ap (λ (q : Plan C). q.sweeps) is.4)
  by_one p slot home swept.Current home' p' is = same p.sweeps p'.sweeps (ap (λ (q : Plan C). q.sweeps) is.2)
  by_one p slot home swept.Bare home' p' is = same p.sweeps p'.sweeps (ap (λ (q : Plan C). q.sweeps) is.2)

  -- the sweeps of a search
  pub kept_by : (p : Plan C) (home : List C) (answer : FreeSlot) (home' : List C) (p' : Plan C) → IsFreed p home answer home' p' → KeepsSweeps p.sweeps p'.sweeps
  kept_by p home answer home' p' is = λ last serial left has.
      by_one is.plan_2 is.c is.home_2 is.third home' p' is.sweep_3 last serial left
      (by_one is.plan_1 is.b is.home_1 is.second is.home_2 is.plan_2 is.sweep_2 last serial left (by_one p is.a home is.first is.home_1 is.plan_1 is.sweep_1 last serial left has))

  -- three sweeps one after another, each of which saw open pins
  three_swept : (p : Plan C) (a b c : ℕ) (x y z : ℕ) (first second third : Left) → (first.slot < second.slot) × (second.slot < third.slot)
      → (serial_at p.past.serials a ≢ serial_at p.past.serials b) × (serial_at p.past.serials b ≢ serial_at p.past.serials c) × (serial_at p.past.serials a ≢ serial_at p.past.serials c)
      → (first.ended ≡ x) × (first.total ≡ (look_at p a x).total) → (second.ended ≡ y) × (second.total ≡ (look_at (swept_plan p a x) b y).total)
      → (third.ended ≡ z) × (third.total ≡ (look_at (swept_plan (swept_plan p a x) b y) c z).total)
      → SweptThree (swept_plan (swept_plan (swept_plan p a x) b y) c z).sweeps (count_of p) first second third
  three_swept p a b c x y z first second third order apart one two three = record {
    order = order;
    a = serial_at p.past.serials a;
    b = serial_at p.past.serials b;
    c = serial_at p.past.serials c;
    apart = apart;
    one = inr (inr (inl (refl, refl, sym one.0, sym one.1)));
    two = inr (inl (refl, refl, sym two.0, sym two.1));
    three = inl (refl, refl, sym three.0, sym three.1);
  }

  -- a search that found no free slot swept three slots with open pins
  by_three : (p : Plan C) (a b c : ℕ) (x y z : Swept) (h1 h2 h3 : List C) (p1 p2 p3 : Plan C) (first second third : Left) → IsPlaced p → (a < b) × (b < c) × (c < SLOTS)
      → IsSwept p a [] x h1 p1 → IsSwept p1 b h1 y h2 p2 → IsSwept p2 c h2 z h3 p3
      → (saw_current x ≡ false) × (saw_current y ≡ false) × (saw_current z ≡ false) → found.AllPinned first second third ≡ answer_of a x b y c z
      → SweptThree p3.sweeps (count_of p) first second third
  by_three p a b c swept.Retired y z h1 h2 h3 p1 p2 p3 first second third placed order s1 s2 s3 others answers = absurd (not_free first second third a answers)
  by_three p a b c swept.Bare y z h1 h2 h3 p1 p2 p3 first second third placed order s1 s2 s3 others answers = absurd (not_free first second third a answers)
  by_three p a b c swept.Current y z h1 h2 h3 p1 p2 p3 first second third placed order s1 s2 s3 others answers = absurd (not_current others.0)
  by_three p a b c (swept.NotYet e1 t1) swept.Retired z h1 h2 h3 p1 p2 p3 first second third placed order s1 s2 s3 others answers = absurd (not_free first second third b answers)
  by_three p a b c (swept.NotYet e1 t1) swept.Bare z h1 h2 h3 p1 p2 p3 first second third placed order s1 s2 s3 others answers = absurd (not_free first second third b answers)
  by_three p a b c (swept.NotYet e1 t1) swept.Current z h1 h2 h3 p1 p2 p3 first second third placed order s1 s2 s3 others answers = absurd (not_current others.1)
  by_three p a b c (swept.NotYet e1 t1) (swept.NotYet e2 t2) swept.Retired h1 h2 h3 p1 p2 p3 first second third placed order s1 s2 s3 others answers = absurd (not_free first second third c answers)
  by_three p a b c (swept.NotYet e1 t1) (swept.NotYet e2 t2) swept.Bare h1 h2 h3 p1 p2 p3 first second third placed order s1 s2 s3 others answers = absurd (not_free first second third c answers)
  by_three p a b c (swept.NotYet e1 t1) (swept.NotYet e2 t2) swept.Current h1 h2 h3 p1 p2 p3 first second third placed order s1 s2 s3 others answers = absurd (not_current others.2)
  by_three p a b c (swept.NotYet e1 t1) (swept.NotYet e2 t2) (swept.NotYet e3 t3) h1 h2 h3 p1 p2 p3 first second third placed order s1 s2 s3 others answers =
      let l1 : Left = record { slot = a; ended = e1; total = t1 } in
      let l2 : Left = record { slot = b; ended = e2; total = t2 } in
      let l3 : Left = record { slot = c; ended = e3; total = t3 } in
      let one : first ≡ l1 = ap (left_first l1) answers in
      let two : second ≡ l2 = ap (left_second l1) answers in
      let three : third ≡ l3 = ap (left_third l1) answers in
      let s2' : IsSwept (swept_plan p a e1) b h1 (swept.NotYet e2 t2) h2 p2 = subst (λ (q : Plan C). IsSwept q b h1 (swept.NotYet e2 t2) h2 p2) s1.4 s2 in
      let s3' : IsSwept (swept_plan (swept_plan p a e1) b e2) c h2 (swept.NotYet e3 t3) h3 p3 = subst (λ (q : Plan C). IsSwept q c h2 (swept.NotYet e3 t3) h3 p3) s2'.4 s3 in
      let ordered : (first.slot < second.slot) × (second.slot < third.slot) = rw one (rw two (rw three (order.0, order.1))) in
      let low : b < SLOTS = let l = order.1 in let h = order.2 in omega (arith, l, h) in
      let wide : a < c = let l = order.0 in let h = order.1 in omega (arith, l, h) in
      subst (λ (q : Plan C). SweptThree q.sweeps (count_of p) first second third) (sym s3'.4) (three_swept p a b c e1 e2 e3 first second third ordered
      (apart p placed a b order.0 low s1.0 s2'.0, apart p placed b c order.1 order.2 s2'.0 s3'.0, apart p placed a c wide order.2 s1.0 s3'.0)
      (ap (λ (l : Left). l.ended) one, ap (λ (l : Left). l.total) one ∙ s1.1)
      (ap (λ (l : Left). l.ended) two, ap (λ (l : Left). l.total) two ∙ s2'.1)
      (ap (λ (l : Left). l.ended) three, ap (λ (l : Left). l.total) three ∙ s3'.1))

-- what a look swept, by its answer
module _ {B E : Type 0} {bk : rulebook.Ghosts B} {ex : extra.Ghosts E} where
  swept_on : (p p' : Plan (Chain B E bk ex)) (answer : Looking) → IsPlaced p → Searches p p' answer → SweptFor p'.sweeps (count_of p) answer
  swept_on p p' looking.NoReload placed is = tt
  swept_on p p' (looking.ReadFailed name) placed is = tt
  swept_on p p' looking.Same placed is = tt
  swept_on p p' (looking.Refused why) placed is = tt
  swept_on p p' (looking.PortsDiffer ports others) placed is = tt
  swept_on p p' looking.SerialsSpent placed is = tt
  swept_on p p' (looking.AllPinned one two three) placed is =
      let f = is.1 in
      by_three p f.a f.b f.c f.first f.second f.third f.home_1 f.home_2 is.0 f.plan_1 f.plan_2 p' one two three placed f.order f.sweep_1 f.sweep_2 f.sweep_3 f.others f.answers
  swept_on p p' (looking.StockShort name asked had) placed is = tt
  swept_on p p' (looking.Published serial) placed is = tt
  swept_on p p' looking.NoMemory placed is = tt

  pub swept_by : (p p' : Plan (Chain B E bk ex)) (answer : Looking) → IsPlaced p → SearchesFirst p p' answer → SweptFor p'.sweeps (count_of p) answer
  swept_by p p' answer placed is =
      let past = freed_past p is.mid [] is.swept is.frees.0 is.frees.1 in
      subst (λ (q : Past (Chain B E bk ex)). SweptFor p'.sweeps (length q.published) answer) past
      (swept_on is.mid p' answer (placed_freed p [] is.swept is.frees.0 is.mid is.frees.1 placed) is.searches)
