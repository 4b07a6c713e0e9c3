-- What is left at the end: chains that their passes keep, and that did not come home before.
use Rattle.std.proofs.Common.{◌≡◌, ℕ, zero, suc, ◌+◌, ◌/◌, ◌%◌, ◌<◌, ◌≤◌, Bool, true, false, not, cond, ltb, List, [], ◌∷◌, ◌++◌, length, map, Option, Some, None, refl, sym, ap, ◌∙◌, subst, arith, append_assoc, get_or}
use Rattle.std.specs.List.{All, slice_get}
use Rattle.std.specs.Option.{option_to_list}
use mathlib.Core.List.{map-append}
use Rattle.std.proofs.lemmas.Bool.{ltb-true, ltb-false, false≢true}
use Rattle.std.proofs.lemmas.List.{get_or_past}
use Rattle.std.proofs.lemmas.Option.{none-some, same_Some}
use Rattle.std.proofs.lemmas.List.Elements.{All-nil, All-cons, All-head, All-tail, All-append, All-weaker, All-get_or}
use Rattle.pin_core.specs.declared.slots.Phase.{Phase}
use Rattle.pin_core.specs.declared.slots.Phase.TheVariants.{Free, Filling, Current, Replaced}
use Rattle.pin_core.specs.Slots.{is_marked}
use Rattle.pin_table.specs.declared.views.Turn.{Turn}
use Rattle.pin_table.specs.declared.views.PassView.{PassView}
use Rattle.pin_table.specs.declared.views.Past.{Past}
use Rattle.pin_table.specs.declared.views.Drain.{Drain}
use Rattle.pin_table.specs.declared.views.Plan.{Plan}
use Rattle.pin_table.specs.Known.{serial_at, kept, chain_in, has_chain, is_live, fresh}
use Rattle.pin_table.specs.Shown.{Chained, IsOther, Once}
use Rattle.pin_table.specs.Steps.{plan_slot}
use Rattle.pin_table.specs.Closing.{joined_at, left_at, left_in, left_to, drain_of, drains_left, IsClosed, IsTraced}
use Rattle.pin_table.specs.Tags.{Identity, Keeps, AreFilled, IsKept}
use Rattle.pin_table.proofs.Basics.{by_two}
use Rattle.pin_table.proofs.Busy.{get_some, get_within}
use Rattle.pin_table.proofs.Tags.{kept_is, given_are}

-- a slot that has a chain was published
pub live_of : (w : ℕ) (x : Phase) → has_chain w x ≡ true → is_live x ≡ true
live_of w Free e = absurd (false≢true e)
live_of w (Filling marks) e = absurd (false≢true e)
live_of w (Current pins) e = refl
live_of w (Replaced total ready drained) e = refl

pub get_at : {A : Type 0} (xs : List A) (w : ℕ) (d a : A) → slice_get xs w ≡ Some a
    → get_or xs w d ≡ a
get_at [] w d a e = absurd (none-some a e)
get_at (x ∷ xs) zero d a e = same_Some x a e
get_at (x ∷ xs) (suc w) d a e = get_at xs w d a e

all_insert : {A : Type 0} (P : A → Type 0) (xs : List A) (d : A) (ys : List A) → All P (xs ++ ys)
    → P d → All P (xs ++ d ∷ ys)
all_insert P [] d ys h p = All-cons P d ys p h
all_insert P (x ∷ xs) d ys h p =
    All-cons P x (xs ++ d ∷ ys) (All-head P x (xs ++ ys) h)
    (all_insert P xs d ys (All-tail P x (xs ++ ys) h) p)

module _ {C : Type 0} where
  -- what lies in a cell at the end is a chain of its slot, as its pass keeps it
  lying_kept : (past : Past C) (s w : ℕ) (ts : List (Turn C)) (x : Phase) (c : C)
      → chain_in past [] s w ts x ≡ Some c
      → (has_chain w x ≡ true) × (Some c ≡ kept past.filled w (serial_at past.serials s) ts)
  lying_kept past s w ts Free c e = absurd (none-some c e)
  lying_kept past s w ts (Filling marks) c e = absurd (none-some c e)
  lying_kept past s w ts (Current pins) c e = (refl, sym e)
  lying_kept past s w ts (Replaced total ready drained) c e =
      let there = kept past.filled w (serial_at past.serials s) ts in
      by_two (is_marked w drained)
      (λ marked. absurd (none-some c (sym (ap (λ (b : Bool). cond b None there) marked) ∙ e)))
      (λ unmarked. (ap not unmarked, sym (sym (ap (λ (b : Bool). cond b None there) unmarked) ∙ e)))

  -- the chain lies in one of the first k cells, and its pass keeps it
  pub record IsLeft (p : Plan C) (k : ℕ) (d : Drain C) : Type 0 where
    pub cell : ℕ
    pub below : cell < k
    pub serial : d.serial ≡ serial_at p.past.serials (cell / 32)
    pub worker : d.worker ≡ cell % 32
    pub here : has_chain (cell % 32) (plan_slot p (cell / 32)).phase ≡ true
    pub is : Some d.chain ≡ kept p.past.filled (cell % 32) (serial_at p.past.serials (cell / 32)) (joined_at p.joined (cell % 32)).turns

  left_here : (p : Plan C) (k : ℕ) (c : C) → left_in p k ≡ Some c
      → (has_chain (k % 32) (plan_slot p (k / 32)).phase ≡ true) × (Some c ≡ kept p.past.filled (k % 32) (serial_at p.past.serials (k / 32)) (joined_at p.joined (k % 32)).turns)
  left_here p k c e =
      let there = left_at p (k / 32) (k % 32) in
      by_two (ltb (k % 32) p.workers)
      (λ is. lying_kept p.past (k / 32) (k % 32) (joined_at p.joined (k % 32)).turns (plan_slot p (k / 32)).phase c (sym (ap (λ (b : Bool). cond b there None) is) ∙ e))
      (λ past. absurd (none-some c (sym (ap (λ (b : Bool). cond b there None) past) ∙ e)))

  left_one : (p : Plan C) (k : ℕ) (c : C) → left_in p k ≡ Some c
      → IsLeft p (suc k) (record { serial = serial_at p.past.serials (k / 32); worker = k % 32; chain = c })
  left_one p k c e =
      let t = left_here p k c e in record {
        cell = k;
        below = omega arith;
        serial = refl;
        worker = refl;
        here = t.0;
        is = t.1;
      }

  left_cell : (p : Plan C) (k : ℕ) (o : Option C) → left_in p k ≡ o
      → All (IsLeft p (suc k)) (drain_of (serial_at p.past.serials (k / 32)) (k % 32) o)
  left_cell p k None e = All-nil (IsLeft p (suc k))
  left_cell p k (Some c) e = All-cons (IsLeft p (suc k)) _ [] (left_one p k c e) (All-nil (IsLeft p (suc k)))

  pub all_left : (p : Plan C) (k : ℕ) → All (IsLeft p k) (left_to p k)
  all_left p zero = All-nil (IsLeft p 0)
  all_left p (suc k) =
      All-append (IsLeft p (suc k)) (left_to p k) _
      (All-weaker (IsLeft p k) (IsLeft p (suc k)) (λ d h. record {
        cell = h.cell;
        below = (let l = h.below in omega (arith, l));
        serial = h.serial;
        worker = h.worker;
        here = h.here;
        is = h.is;
      }) (left_to p k) (all_left p k))
      (left_cell p k (left_in p k) refl)

  -- its pass keeps it
  pub left_kept : (p : Plan C) (k : ℕ) (d : Drain C) → IsLeft p k d
      → Some d.chain ≡ kept p.past.filled d.worker d.serial (joined_at p.joined d.worker).turns
  left_kept p k d h =
      h.is ∙ (λ i. kept p.past.filled (sym h.worker i) (sym h.serial i) (joined_at p.joined (sym h.worker i)).turns)

  -- one chain more that is none of these
  once_insert : (xs : List (Drain C)) (d : Drain C) (ys : List (Drain C)) → Once (xs ++ ys)
      → All (λ x. IsOther x d) xs → All (IsOther d) ys → Once (xs ++ d ∷ ys)
  once_insert [] d ys h a b = (b, h)
  once_insert (x ∷ xs) d ys h a b =
      (all_insert (IsOther x) xs d ys h.0 (All-head (λ z. IsOther z d) x xs a), once_insert xs d ys h.1 (All-tail (λ z. IsOther z d) x xs a) b)

  -- no slot has the chain any more
  abbrev pub IsGone : Plan C → Drain C → Type 0
  IsGone p e = (i : ℕ) → i < 4 → has_chain e.worker (plan_slot p i).phase ≡ true → serial_at p.past.serials i ≡ e.serial → true ≡ false

  -- what the last state says of slots that have chains
  pub record IsLast (p : Plan C) : Type 0 where
    pub live : (i w : ℕ) → i < 4 → has_chain w (plan_slot p i).phase ≡ true
        → slice_get p.past.published (serial_at p.past.serials i) ≡ Some i
    pub gone : All (IsGone p) p.drains
    pub once : Once p.drains

  -- two cells of slots that have chains are of other serials or workers
  left_apart : (p : Plan C) (k : ℕ) (c : C) → IsLast p → k < 128 → left_in p k ≡ Some c
      → (x : Drain C) → IsLeft p k x
      → IsOther x (record { serial = serial_at p.past.serials (k / 32); worker = k % 32; chain = c })
  left_apart p k c h lk e x l es ew =
      let j = l.cell in
      let below = l.below in
      let one = h.live (j / 32) (j % 32) (omega (arith, below, lk)) l.here in
      let two = h.live (k / 32) (k % 32) (omega (arith, lk)) (left_here p k c e).0 in
      let same : serial_at p.past.serials (j / 32) ≡ serial_at p.past.serials (k / 32) = sym l.serial ∙ es in
      let slots = same_Some (j / 32) (k / 32) (sym one ∙ (ap (λ (a : ℕ). slice_get p.past.published a) same ∙ two)) in
      let workers : j % 32 ≡ k % 32 = sym l.worker ∙ ew in
      absurd (omega (arith, slots, workers, below))

  -- nothing that is left came home before
  pub once_left : (p : Plan C) → IsLast p → (k : ℕ) → k ≤ 128 → Once (left_to p k ++ p.drains)
  once_left p h zero le = h.once
  once_left p h (suc k) le =
      let before = once_left p h k (omega arith) in
      let d = drain_of (serial_at p.past.serials (k / 32)) (k % 32) (left_in p k) in
      subst (λ (l : List (Drain C)). Once l) (sym (append_assoc (left_to p k) d p.drains)) (once_cell p k h (omega arith) before (left_in p k) refl)
    where
      once_cell : (p : Plan C) (k : ℕ) → IsLast p → k < 128 → Once (left_to p k ++ p.drains) → (o : Option C)
          → left_in p k ≡ o
          → Once (left_to p k ++ (drain_of (serial_at p.past.serials (k / 32)) (k % 32) o ++ p.drains))
      once_cell p k h lk before None e = before
      once_cell p k h lk before (Some c) e =
          let d : Drain C = record { serial = serial_at p.past.serials (k / 32); worker = k % 32; chain = c } in
          once_insert (left_to p k) d p.drains before
          (All-weaker (IsLeft p k) (λ x. IsOther x d) (λ x l. left_apart p k c h lk e x l) (left_to p k) (all_left p k))
          (All-weaker (IsGone p) (IsOther d) (λ y g. λ es ew. g (k / 32) (omega (arith, lk)) (subst (λ (w : ℕ). has_chain w (plan_slot p (k / 32)).phase ≡ true) ew (left_here p k c e).0) es) p.drains h.gone)

  -- the chains of the first cells
  abbrev pub chains_to : Plan C → ℕ → List C
  chains_to p k = map (λ (d : Drain C). d.chain) (left_to p k)

  drain_chain : (s w : ℕ) (o : Option C) → map (λ (d : Drain C). d.chain) (drain_of s w o) ≡ option_to_list o
  drain_chain s w None = refl
  drain_chain s w (Some c) = refl

  pub chains_next : (p : Plan C) (k : ℕ) → chains_to p k ++ option_to_list (left_in p k) ≡ chains_to p (k + 1)
  chains_next p k =
      let d = drain_of (serial_at p.past.serials (k / 32)) (k % 32) (left_in p k) in
      let e : suc k ≡ k + 1 = omega arith in
      ap (λ (l : List C). chains_to p k ++ l) (sym (drain_chain (serial_at p.past.serials (k / 32)) (k % 32) (left_in p k)))
      ∙ (sym (map-append (λ (z : Drain C). z.chain) (left_to p k) d) ∙ ap (chains_to p) e)

  pub chains_all : (p : Plan C) → chains_to p 128 ≡ map (λ (d : Drain C). d.chain) (drains_left p)
  unfolding drains_left
  chains_all p = refl

  pub all_of_left : (p : Plan C) → All (IsLeft p 128) (drains_left p)
  unfolding drains_left
  all_of_left p = all_left p 128

  pub once_of_left : (p : Plan C) → IsLast p → Once (drains_left p ++ p.drains)
  unfolding drains_left
  once_of_left p h = once_left p h 128 (omega arith)

module _ {C K N : Type 0} (identity : C → Identity K) (log : C → List (List N)) where
  -- what holds of each pass that came back, and of one that did nothing
  pub of_joined : (P : ℕ → List (Turn C) → Type 0) (qs : List (PassView C))
      → ((w : ℕ) (q : PassView C) → slice_get qs w ≡ Some q → P w q.turns) → ((w : ℕ) → P w []) → (w : ℕ)
      → P w (joined_at qs w).turns
  of_joined P qs each none w = by_two (ltb w (length qs))
      (λ is. let t = get_some qs w (ltb-true w (length qs) is) in subst (λ (z : PassView C). P w z.turns) (sym (get_at qs w (fresh w) t.0 t.1)) (each w t.0 t.1))
      (λ past. subst (λ (z : PassView C). P w z.turns) (sym (get_or_past qs w (fresh w) (ltb-false w (length qs) past))) (none w))

  -- identities and logs at the end
  pub traced : (p : Plan C) → IsClosed p → AreFilled identity log 0 p.past.filled
      → All (λ (q : PassView C). Keeps identity log q.turns) p.joined → IsTraced identity log p
  traced p h filled keeps =
      let keeps_at : (w : ℕ) (q : PassView C) → slice_get p.joined w ≡ Some q → Keeps identity log q.turns =
      λ w q e. subst (λ (z : PassView C). Keeps identity log z.turns) (get_at p.joined w q q e) (All-get_or (λ (z : PassView C). Keeps identity log z.turns) p.joined w q (get_within p.joined w q e) keeps) in record {
        turns = λ w q e. given_are identity log p.past.filled w q.turns filled (h.turns w q e) (keeps_at w q e);
        homes = All-weaker (λ (d : Drain C). Some d.chain ≡ kept p.past.filled d.worker d.serial (joined_at p.joined d.worker).turns) (λ (d : Drain C). IsKept identity log p.past.filled (joined_at p.joined d.worker).turns d)
            (λ d e. kept_is identity log p.past.filled d.worker d.serial (joined_at p.joined d.worker).turns d.chain filled
            (of_joined (λ w ts. Chained p.past.filled w ts) p.joined h.turns (λ _. tt) d.worker)
            (of_joined (λ _ ts. Keeps identity log ts) p.joined keeps_at (λ _. tt) d.worker) (sym e))
            (drains_left p ++ p.drains) h.homes;
      }
