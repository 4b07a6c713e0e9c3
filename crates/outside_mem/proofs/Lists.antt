-- A fact of each item and the items before it, over a list with one item more.
use Rattle.std.specs.List.{All}
use Rattle.std.proofs.Common.{suc, ◌≡◌, ℕ, ◌+◌, ◌⊎◌, inl, inr, List, [], ◌∷◌, ◌++◌, length, refl, sym, ap, subst, arith, length-append, Bool, cond, count_by, ◌<◌, ◌^◌}
use Rattle.std.proofs.lemmas.List.Sums.{count_by-le-length, sum_by-append}

snoc_split : {A : Type 0} (xs : List A) (y : A) (before : List A) (x : A) (after : List A) → xs ++ y ∷ [] ≡ before ++ x ∷ after → ((before ≡ xs) × (x ≡ y)) ⊎ ((rest : List A) × (xs ≡ before ++ x ∷ rest))
snoc_split [] y [] x after e = inl (refl, sym cc)
snoc_split [] y (b ∷ before) x after e = let n = ap length e in absurd (omega (arith, length-append before (x ∷ after)))
snoc_split (a ∷ xs) y [] x after e = inr (xs, cc)
snoc_split (a ∷ xs) y (b ∷ before) x after e = elim (snoc_split xs y before x after cc) [
  | inl (same, is) ↦ inl (cc, is)
  | inr (rest, same) ↦ inr (rest, cc)
]

-- it holds of each item where it holds of those before the last and of the last
pub each_more : {A : Type 0} (P : List A → A → Type 0) (xs : List A) (y : A) → ((before : List A) (x : A) (after : List A) → xs ≡ before ++ x ∷ after → P before x) → P xs y
    → (before : List A) (x : A) (after : List A) → xs ++ y ∷ [] ≡ before ++ x ∷ after → P before x
each_more {A} P xs y each last before x after e = elim (snoc_split xs y before x after e) [
  | inl (same, is) ↦ subst (λ (z : A). P before z) (sym is) (subst (λ (l : List A). P l y) (sym same) last)
  | inr (rest, same) ↦ each before x rest same
]

one_item : {A : Type 0} (is : A → Bool) (x : A) → count_by is (x ∷ []) ≡ cond (is x) 1 0
one_item is x = omega arith

-- a count of 64 bits is that of the items, also with one item more
pub count_more : {A : Type 0} (is : A → Bool) (xs : List A) (x : A) (old new : ℕ) → count_by is xs ≡ old → length (xs ++ x ∷ []) < 2 ^ 64
    → (old + cond (is x) 1 0 < 2 ^ 64 → new ≡ old + cond (is x) 1 0) → count_by is (xs ++ x ∷ []) ≡ new
count_more is xs x old new was few step =
    let both : count_by is (xs ++ x ∷ []) ≡ count_by is xs + count_by is (x ∷ []) = sum_by-append _ xs (x ∷ []) in
    let most = count_by-le-length is (xs ++ x ∷ []) in
    let one = one_item is x in
    let small : old + cond (is x) 1 0 < 2 ^ 64 = omega arith in
    let now = step small in
    omega arith

-- no item stands in an empty list
pub no_item : {A : Type 0} (before : List A) (x : A) (after : List A) → [] ≡ before ++ x ∷ after → ⊥
no_item before x after e = let n = ap length e in omega (arith, length-append before (x ∷ after))

-- what holds of each item holds of the first, and of each behind it
pub all_head : {A : Type 0} (P : A → Type 0) {x : A} {xs all : List A} → all ≡ x ∷ xs → All P all → P x
all_head P {x} e each = subst (All P) e each 0 x (omega arith)

pub all_rest : {A : Type 0} (P : A → Type 0) {x : A} {xs all : List A} → all ≡ x ∷ xs → All P all → All P xs
all_rest P e each k d h = subst (All P) e each (suc k) d (omega arith)
