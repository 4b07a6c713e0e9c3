-- Links and the slots that they lead over.
use Rattle.std.proofs.Common.{◌≡◌, ◌≢◌, ℕ, zero, suc, ◌<◌, ◌≤◌, true, false, eqb, List, [], ◌∷◌, ◌++◌, length, refl, inl, inr, sym, ap, subst, ◌∙◌, arith, eqb-true, eq-eqb}
use Rattle.std.specs.Prelude.{◌⊎◌, slice_index, slice_set}
use Rattle.std.specs.List.{AllByRecursion, IsDistinct, list_any}
use Rattle.std.proofs.lemmas.List.{get_or-set_same, get_or-set_other, length-set}
use Rattle.std.proofs.lemmas.Bool.{false_from_ne_true}
use Rattle.std.proofs.lemmas.Map.Steps.{length-le_from_distinct_below}
use Rattle.slot_lists.specs.Links.{Leads, IsIn, Once, walked}

not_equal : (a b : ℕ) → a ≢ b → eqb a b ≡ false
not_equal a b h = false_from_ne_true (eqb a b) (λ t. h (eqb-true a b t))

-- membership and `++`
pub in_middle : (zs : List ℕ) (q : ℕ) (ys : List ℕ) → IsIn q (zs ++ q ∷ ys)
in_middle [] q ys = inl refl
in_middle (z ∷ zs) q ys = inr (in_middle zs q ys)

pub in_back : (zs ys : List ℕ) (s : ℕ) → IsIn s ys → IsIn s (zs ++ ys)
in_back [] ys s h = h
in_back (z ∷ zs) ys s h = inr (in_back zs ys s h)

pub in_more : (zs : List ℕ) (q : ℕ) (ys : List ℕ) (s : ℕ) → IsIn s (zs ++ ys) → IsIn s (zs ++ q ∷ ys)
in_more [] q ys s h = inr h
in_more (z ∷ zs) q ys s h = elim h [ inl e ↦ inl e | inr r ↦ inr (in_more zs q ys s r) ]

pub in_less : (zs : List ℕ) (q : ℕ) (ys : List ℕ) (s : ℕ) → s ≢ q → IsIn s (zs ++ q ∷ ys) → IsIn s (zs ++ ys)
in_less [] q ys s n h = elim h [ inl e ↦ absurd (n e) | inr r ↦ r ]
in_less (z ∷ zs) q ys s n h = elim h [ inl e ↦ inl e | inr r ↦ inr (in_less zs q ys s n r) ]

pub once_less : (zs : List ℕ) (q : ℕ) (ys : List ℕ) → Once (zs ++ q ∷ ys) → Once (zs ++ ys)
once_less [] q ys o = o.1
once_less (z ∷ zs) q ys o = (λ h. o.0 (in_more zs q ys z h), once_less zs q ys o.1)

pub once_gone : (zs : List ℕ) (q : ℕ) (ys : List ℕ) → Once (zs ++ q ∷ ys) → IsIn q (zs ++ ys) → ⊥
once_gone [] q ys o h = o.0 h
once_gone (z ∷ zs) q ys o h = elim h [
  | inl e ↦ o.0 (subst (λ (s : ℕ). IsIn s (zs ++ q ∷ ys)) e (in_middle zs q ys))
  | inr r ↦ once_gone zs q ys o.1 r
]

-- where a slot stands
pub split_at : (slots : List ℕ) (s : ℕ) → IsIn s slots → (xs ys : List ℕ) × (slots ≡ xs ++ s ∷ ys)
split_at [] s h = absurd h
split_at (x ∷ slots) s h = elim h [
  | inl e ↦ ([], slots, ap (λ (z : ℕ). z ∷ slots) (sym e))
  | inr r ↦ let w = split_at slots s r in (x ∷ w.0, w.1, ap (λ (l : List ℕ). x ∷ l) w.2)
]

-- the last of some
pub ended : (x : ℕ) (xs : List ℕ) → (zs : List ℕ) × (q : ℕ) × (x ∷ xs ≡ zs ++ q ∷ [])
ended x [] = ([], x, refl)
ended x (y ∷ xs) = let w = ended y xs in (x ∷ w.0, w.1, ap (λ (l : List ℕ). x ∷ l) w.2)

-- links
pub below : (links : List ℕ) (from : ℕ) (slots : List ℕ) (end s : ℕ) → Leads links from slots end → IsIn s slots → s < length links
below links from [] end s p h = absurd h
below links from (x ∷ slots) end s p h = elim h [
  | inl e ↦ subst (λ (z : ℕ). z < length links) (sym e) p.1
  | inr r ↦ below links (slice_index links x) slots end s p.2 r
]

pub next_in : (links : List ℕ) (from : ℕ) (slots : List ℕ) (end s : ℕ) → Leads links from slots end → IsIn s slots
    → IsIn (slice_index links s) slots ⊎ (slice_index links s ≡ end)
next_in links from [] end s p h = absurd h
next_in links from (x ∷ slots) end s p h = elim h [
  | inl e ↦ subst (λ (z : ℕ). IsIn (slice_index links z) (x ∷ slots) ⊎ (slice_index links z ≡ end)) (sym e) (first slots p.2)
  | inr r ↦ elim (next_in links (slice_index links x) slots end s p.2 r) [ inl i ↦ inl (inr i) | inr e ↦ inr e ]
]
  where
    first : (rest : List ℕ) → Leads links (slice_index links x) rest end → IsIn (slice_index links x) (x ∷ rest) ⊎ (slice_index links x ≡ end)
    first [] q = inr q
    first (y ∷ rest) q = inl (inr (inl q.0))

-- a link that is changed elsewhere
pub unmoved : (links : List ℕ) (at to from : ℕ) (slots : List ℕ) (end : ℕ) → (IsIn at slots → ⊥) → Leads links from slots end
    → Leads (slice_set links at to) from slots end
unmoved links at to from [] end out p = p
unmoved links at to from (s ∷ slots) end out p =
    let other : s ≢ at = λ e. out (inl (sym e)) in
    let same : slice_index (slice_set links at to) s ≡ slice_index links s = get_or-set_other links at s to 0 other in (
      p.0,
      subst (λ (n : ℕ). s < n) (sym (length-set links at to)) p.1,
      subst (λ (m : ℕ). Leads (slice_set links at to) m slots end) (sym same)
          (unmoved links at to (slice_index links s) slots end (λ i. out (inr i)) p.2),
    )

-- a slot is passed over
pub skipped : (links : List ℕ) (from : ℕ) (zs : List ℕ) (q i : ℕ) (ys : List ℕ) (end : ℕ) → Once (zs ++ q ∷ i ∷ ys)
    → Leads links from (zs ++ q ∷ i ∷ ys) end → Leads (slice_set links q (slice_index links i)) from (zs ++ q ∷ ys) end
skipped links from [] q i ys end once p =
    let to = slice_index links i in
    let same : slice_index (slice_set links q to) q ≡ to = get_or-set_same links q to 0 p.1 in (
      p.0,
      subst (λ (n : ℕ). q < n) (sym (length-set links q to)) p.1,
      subst (λ (m : ℕ). Leads (slice_set links q to) m ys end) (sym same) (unmoved links q to to ys end (λ h. once.0 (inr h)) p.2.2),
    )
skipped links from (z ∷ zs) q i ys end once p =
    let to = slice_index links i in
    let other : z ≢ q = λ e. once.0 (subst (λ (s : ℕ). IsIn s (zs ++ q ∷ i ∷ ys)) (sym e) (in_middle zs q (i ∷ ys))) in
    let same : slice_index (slice_set links q to) z ≡ slice_index links z = get_or-set_other links q z to 0 other in (
      p.0,
      subst (λ (n : ℕ). z < n) (sym (length-set links q to)) p.1,
      subst (λ (m : ℕ). Leads (slice_set links q to) m (zs ++ q ∷ ys) end) (sym same)
          (skipped links (slice_index links z) zs q i ys end once.1 p.2),
    )

-- what a link leads to
pub next_is : (links : List ℕ) (from : ℕ) (zs : List ℕ) (q i : ℕ) (ys : List ℕ) (end : ℕ) → Leads links from (zs ++ q ∷ i ∷ ys) end
    → slice_index links q ≡ i
next_is links from [] q i ys end p = p.2.0
next_is links from (z ∷ zs) q i ys end p = next_is links (slice_index links z) zs q i ys end p.2

pub last_is : (links : List ℕ) (from : ℕ) (zs : List ℕ) (q : ℕ) (end : ℕ) → Leads links from (zs ++ q ∷ []) end → slice_index links q ≡ end
last_is links from [] q end p = p.2
last_is links from (z ∷ zs) q end p = last_is links (slice_index links z) zs q end p.2

-- the links tell the slots
pub walked_is : (most : ℕ) (links : List ℕ) (from : ℕ) (slots : List ℕ) → length slots ≤ most → (IsIn 0 slots → ⊥) → Leads links from slots 0
    → walked most links from ≡ slots
walked_is zero links from [] few out p = refl
walked_is zero links from (s ∷ slots) few out p = absurd (omega arith)
walked_is (suc most) links from [] few out p = rw (eq-eqb from 0 p) refl
walked_is (suc most) links from (s ∷ slots) few out p =
    let some : from ≢ 0 = λ e. out (inl (sym e ∙ p.0)) in
    rw (not_equal from 0 some) (
    (λ j. p.0 j ∷ walked most links (slice_index links (p.0 j)))
    ∙ ap (λ (l : List ℕ). s ∷ l) (walked_is most links (slice_index links s) slots (omega arith) (λ h. out (inr h)) p.2)
    )

-- slots that stand once each, and stand in links, are no more than these
all_apart : (x : ℕ) (xs : List ℕ) → (IsIn x xs → ⊥) → AllByRecursion (λ y. eqb x y ≡ false) xs
all_apart x [] h = tt
all_apart x (y ∷ xs) h = (not_equal x y (λ e. h (inl e)), all_apart x xs (λ i. h (inr i)))

distinct : (xs : List ℕ) → Once xs → IsDistinct eqb xs
unfolding IsDistinct
distinct [] o = tt
distinct (x ∷ xs) o = (all_apart x xs o.0, distinct xs o.1)

any_in : (q : ℕ) (xs : List ℕ) → list_any (eqb q) xs ≡ true → IsIn q xs
any_in q [] h = cc
any_in q (x ∷ xs) h = (elim (eqb q x) as (λ b. eqb q x ≡ b → IsIn q (x ∷ xs)) [
  | true ↦ λ e. inl (eqb-true q x e)
  | false ↦ λ e. inr (any_in q xs (rw e at h))
]) refl

pub short : (xs : List ℕ) (n : ℕ) → Once xs → ((s : ℕ) → IsIn s xs → s < n) → length xs ≤ n
short xs n o h = length-le_from_distinct_below xs n (distinct xs o) (λ q t. h q (any_in q xs t))
