-- Rings of slots.
use Rattle.std.proofs.Common.{◌≡◌, ◌≢◌, ℕ, ◌<◌, List, [], ◌∷◌, ◌++◌, length, refl, inl, inr, sym, ap, subst, ◌∙◌, arith}
use Rattle.std.specs.Prelude.{slice_index, slice_set}
use Rattle.std.proofs.lemmas.List.{get_or-set_same, get_or-set_other, length-set, append_assoc}
use Rattle.std.proofs.lemmas.Bool.{cases_eq}
use Rattle.slot_lists.specs.Links.{Leads, IsIn, Once}
use Rattle.slot_lists.specs.Rings.{IsRing, ring_of}
use Rattle.slot_lists.proofs.Links.{in_middle, in_more, once_less, once_gone, ended, below, next_in, unmoved, skipped, next_is, last_is, walked_is, short}

-- a link of a ring leads to a slot of it, or to place 0
pub onward : (before after slots : List ℕ) (s : ℕ) → IsRing before after slots → IsIn s (0 ∷ slots) → IsIn (slice_index after s) (0 ∷ slots)
onward before after slots s r h = elim (next_in after 0 (0 ∷ slots) 0 s r.path h) [ inl i ↦ i | inr e ↦ inl e ]

pub inside : (before after slots : List ℕ) (s : ℕ) → IsRing before after slots → IsIn s (0 ∷ slots) → s < length after
inside before after slots s r h = below after 0 (0 ∷ slots) 0 s r.path h

-- the place in front of a slot
pub record Front (before after xs ys : List ℕ) (i : ℕ) : Type 0 where
  pub zs : List ℕ
  pub q : ℕ
  pub is : 0 ∷ (xs ++ i ∷ ys) ≡ zs ++ q ∷ i ∷ ys
  pub less : 0 ∷ (xs ++ ys) ≡ zs ++ q ∷ ys
  pub before_is : slice_index before i ≡ q
  pub after_is : slice_index after q ≡ i

pub front_of : (before after xs ys : List ℕ) (i : ℕ) → IsRing before after (xs ++ i ∷ ys) → Front before after xs ys i
front_of before after xs ys i r =
    let w = ended 0 xs in
    let is : 0 ∷ (xs ++ i ∷ ys) ≡ w.0 ++ w.1 ∷ i ∷ ys = ap (λ (l : List ℕ). l ++ i ∷ ys) w.2 ∙ append_assoc w.0 (w.1 ∷ []) (i ∷ ys) in
    let less : 0 ∷ (xs ++ ys) ≡ w.0 ++ w.1 ∷ ys = ap (λ (l : List ℕ). l ++ ys) w.2 ∙ append_assoc w.0 (w.1 ∷ []) ys in
    let next = next_is after 0 w.0 w.1 i ys 0 (subst (λ (l : List ℕ). Leads after 0 l 0) is r.path) in
    let in_it : IsIn w.1 (0 ∷ (xs ++ i ∷ ys)) = subst (λ (l : List ℕ). IsIn w.1 l) (sym is) (in_middle w.0 w.1 (i ∷ ys)) in
    record {
      zs = w.0;
      q = w.1;
      is = is;
      less = less;
      before_is = ap (slice_index before) (sym next) ∙ r.back w.1 in_it;
      after_is = next;
    }

-- a slot is taken out
pub detached : (before after xs ys : List ℕ) (i : ℕ) → IsRing before after (xs ++ i ∷ ys)
    → IsRing (slice_set before (slice_index after i) (slice_index before i)) (slice_set after (slice_index before i) (slice_index after i)) (xs ++ ys)
detached before after xs ys i r =
    let f = front_of before after xs ys i r in
    let q = f.q in
    let to = slice_index after i in
    let once : Once (f.zs ++ q ∷ i ∷ ys) = subst Once f.is r.once in
    let i_in : IsIn i (0 ∷ (xs ++ i ∷ ys)) = inr (in_middle xs i ys) in
    let to_in : IsIn to (0 ∷ (xs ++ i ∷ ys)) = onward before after (xs ++ i ∷ ys) i r i_in in
    let to_low : to < length before = subst (λ (n : ℕ). to < n) (sym r.long) (inside before after (xs ++ i ∷ ys) to r to_in) in
    let q_in : IsIn q (0 ∷ (xs ++ i ∷ ys)) = subst (IsIn q) (sym f.is) (in_middle f.zs q (i ∷ ys)) in
    let q_low = inside before after (xs ++ i ∷ ys) q r q_in in
    let path : Leads (slice_set after q to) 0 (f.zs ++ q ∷ ys) 0 = skipped after 0 f.zs q i ys 0 once (subst (λ (l : List ℕ). Leads after 0 l 0) f.is r.path) in
    let gone : IsIn i (0 ∷ (xs ++ ys)) → ⊥ = once_gone (0 ∷ xs) i ys r.once in
    let back : (s : ℕ) → IsIn s (0 ∷ (xs ++ ys)) → slice_index (slice_set before to q) (slice_index (slice_set after q to) s) ≡ s = λ s h.
    elim (cases_eq s q) [
      | inl e ↦
          subst (λ (z : ℕ). slice_index (slice_set before to q) (slice_index (slice_set after q to) z) ≡ z) (sym e)
          (ap (slice_index (slice_set before to q)) (get_or-set_same after q to 0 q_low) ∙ get_or-set_same before to q 0 to_low)
      | inr n ↦
          let was : IsIn s (0 ∷ (xs ++ i ∷ ys)) = in_more (0 ∷ xs) i ys s h in
          let same = get_or-set_other after q s to 0 n in
          let other : slice_index after s ≢ to = λ e.
          gone (subst (λ (z : ℕ). IsIn z (0 ∷ (xs ++ ys))) (sym (r.back s was) ∙ ap (slice_index before) e ∙ r.back i i_in) h) in
          ap (slice_index (slice_set before to q)) same ∙ get_or-set_other before to (slice_index after s) q 0 other ∙ r.back s was
    ] in
    subst (λ (p : ℕ). IsRing (slice_set before to p) (slice_set after p to) (xs ++ ys)) (sym f.before_is)
    (record {
      path = subst (λ (l : List ℕ). Leads (slice_set after q to) 0 l 0) (sym f.less) path;
      back = back;
      once = once_less (0 ∷ xs) i ys r.once;
      long = length-set before to q ∙ r.long ∙ sym (length-set after q to);
    })

-- a slot is put in front
pub attached : (before after slots : List ℕ) (i : ℕ) → IsRing before after slots → (IsIn i (0 ∷ slots) → ⊥) → i < length after
    → IsRing (slice_set (slice_set before i 0) (slice_index after 0) i) (slice_set (slice_set after i (slice_index after 0)) 0 i) (i ∷ slots)
attached before after slots i r out low =
    let first = slice_index after 0 in
    let now = slice_set (slice_set after i first) 0 i in
    let then = slice_set (slice_set before i 0) first i in
    let some : i ≢ 0 = λ e. out (inl e) in
    let first_in : IsIn first (0 ∷ slots) = onward before after slots 0 r (inl refl) in
    let apart : i ≢ first = λ e. out (subst (λ (z : ℕ). IsIn z (0 ∷ slots)) (sym e) first_in) in
    let zero_low : 0 < length after = r.path.1 in
    let first_low : first < length before = subst (λ (n : ℕ). first < n) (sym r.long) (inside before after slots first r first_in) in
    let len_after : length now ≡ length after = length-set (slice_set after i first) 0 i ∙ length-set after i first in
    let len_before : length then ≡ length before = length-set (slice_set before i 0) first i ∙ length-set before i 0 in
    let at_zero : slice_index now 0 ≡ i = get_or-set_same (slice_set after i first) 0 i 0 (subst (λ (n : ℕ). 0 < n) (sym (length-set after i first)) zero_low) in
    let at_i : slice_index now i ≡ first = get_or-set_other (slice_set after i first) 0 i i 0 some ∙ get_or-set_same after i first 0 low in
    let elsewhere : (s : ℕ) → s ≢ 0 → s ≢ i → slice_index now s ≡ slice_index after s = λ s n m.
    get_or-set_other (slice_set after i first) 0 s i 0 n ∙ get_or-set_other after i s first 0 m in
    let rest : Leads now first slots 0 = unmoved (slice_set after i first) 0 i first slots 0 r.once.0
    (unmoved after i first first slots 0 (λ h. out (inr h)) r.path.2) in
    let path : Leads now 0 (0 ∷ i ∷ slots) 0 = (
      refl,
      subst (λ (n : ℕ). 0 < n) (sym len_after) zero_low,
      (
        at_zero,
        subst (λ (n : ℕ). i < n) (sym len_after) low,
        subst (λ (m : ℕ). Leads now m slots 0) (sym at_i) rest,
      ),
    ) in
    let back_zero : slice_index then (slice_index now 0) ≡ 0 =
    ap (slice_index then) at_zero ∙ get_or-set_other (slice_set before i 0) first i i 0 apart
    ∙ get_or-set_same before i 0 0 (subst (λ (n : ℕ). i < n) (sym r.long) low) in
    let back_i : slice_index then (slice_index now i) ≡ i =
    ap (slice_index then) at_i ∙ get_or-set_same (slice_set before i 0) first i 0 (subst (λ (n : ℕ). first < n) (sym (length-set before i 0)) first_low) in
    let back_rest : (s : ℕ) → IsIn s slots → slice_index then (slice_index now s) ≡ s = λ s h.
    let not_zero : s ≢ 0 = λ e. r.once.0 (subst (λ (z : ℕ). IsIn z slots) e h) in
    let not_i : s ≢ i = λ e. out (inr (subst (λ (z : ℕ). IsIn z slots) e h)) in
    let was = r.back s (inr h) in
    let next_in : IsIn (slice_index after s) (0 ∷ slots) = onward before after slots s r (inr h) in
    let not_first : slice_index after s ≢ first = λ e. not_zero (sym was ∙ ap (slice_index before) e ∙ r.back 0 (inl refl)) in
    let not_new : slice_index after s ≢ i = λ e. out (subst (λ (z : ℕ). IsIn z (0 ∷ slots)) e next_in) in
    ap (slice_index then) (elsewhere s not_zero not_i) ∙ get_or-set_other (slice_set before i 0) first (slice_index after s) i 0 not_first
    ∙ get_or-set_other before i (slice_index after s) 0 0 not_new ∙ was in
    record {
      path = path;
      back = λ s h. elim h [
        | inl e ↦ subst (λ (z : ℕ). slice_index then (slice_index now z) ≡ z) (sym e) back_zero
        | inr more ↦ elim more [
          | inl e ↦ subst (λ (z : ℕ). slice_index then (slice_index now z) ≡ z) (sym e) back_i
          | inr h ↦ back_rest s h
        ]
      ];
      once = (λ h. elim h [ inl e ↦ some (sym e) | inr h ↦ r.once.0 h ], (λ h. out (inr h), r.once.1));
      long = len_before ∙ r.long ∙ sym len_after;
    }

-- the ring tells its slots
pub ring_is : (before after slots : List ℕ) → IsRing before after slots → ring_of after ≡ slots
ring_is before after slots r =
    walked_is (length after) after (slice_index after 0) slots
    (short slots (length after) r.once.1 (λ s h. inside before after slots s r (inr h))) r.once.0 r.path.2

-- the last slot is in front of place 0
pub last_in : (before after slots : List ℕ) → IsRing before after slots → 0 < length slots
    → (front : List ℕ) × (slots ≡ front ++ slice_index before 0 ∷ [])
last_in before after [] r some = absurd (omega arith)
last_in before after (x ∷ xs) r some =
    let w = ended x xs in
    let next : slice_index after w.1 ≡ 0 = last_is after 0 (0 ∷ w.0) w.1 0 (subst (λ (l : List ℕ). Leads after 0 (0 ∷ l) 0) w.2 r.path) in
    let in_it : IsIn w.1 (0 ∷ x ∷ xs) = inr (subst (IsIn w.1) (sym w.2) (in_middle w.0 w.1 [])) in
    let is : slice_index before 0 ≡ w.1 = ap (slice_index before) (sym next) ∙ r.back w.1 in_it in
    (w.0, subst (λ (z : ℕ). x ∷ xs ≡ w.0 ++ z ∷ []) (sym is) w.2)

-- places that a slot's links lead to
pub low_slot : (before after xs ys : List ℕ) (i : ℕ) → IsRing before after (xs ++ i ∷ ys) → i < length before
low_slot before after xs ys i r =
    subst (λ (n : ℕ). i < n) (sym r.long) (inside before after (xs ++ i ∷ ys) i r (inr (in_middle xs i ys)))

pub low_front : (before after xs ys : List ℕ) (i : ℕ) → IsRing before after (xs ++ i ∷ ys) → slice_index before i < length after
low_front before after xs ys i r =
    let f = front_of before after xs ys i r in
    subst (λ (n : ℕ). n < length after) (sym f.before_is)
    (inside before after (xs ++ i ∷ ys) f.q r (subst (IsIn f.q) (sym f.is) (in_middle f.zs f.q (i ∷ ys))))

pub low_back : (before after xs ys : List ℕ) (i : ℕ) → IsRing before after (xs ++ i ∷ ys) → slice_index after i < length before
low_back before after xs ys i r =
    subst (λ (n : ℕ). slice_index after i < n) (sym r.long)
    (inside before after (xs ++ i ∷ ys) (slice_index after i) r (onward before after (xs ++ i ∷ ys) i r (inr (in_middle xs i ys))))

pub as_ring : (before after slots : List ℕ) → IsRing before after slots → IsRing before after (ring_of after)
as_ring before after slots r = subst (λ (l : List ℕ). IsRing before after l) (sym (ring_is before after slots r)) r
