-- A list in which a function acts on one item after the other, each in its place.
use Rattle.std.proofs.Common.{◌≡◌, ◌∙◌, ℕ, zero, suc, ◌+◌, ◌<◌, List, [], ◌∷◌, ◌++◌, length, map, take, drop, get_or, Some, refl, sym, ap, add-one, arith}
use Rattle.std.specs.Prelude.{slice_get, slice_set}
use Rattle.std.proofs.lemmas.List.{length-set}
use Rattle.std.proofs.lemmas.Option.{get_or_from_slice_get}

set_next : {A : Type 0} (f : A → A) (xs : List A) (i : ℕ) (r : A) → slice_get xs i ≡ Some r
    → take (suc i) (slice_set xs i (f r)) ++ map f (drop (suc i) (slice_set xs i (f r))) ≡ take i xs ++ map f (drop i xs)
set_next f [] i r e = absurd cc
set_next f (x ∷ xs) zero r e = let same : x ≡ r = cc in ap (λ y. f y ∷ map f xs) (sym same)
set_next {A} f (x ∷ xs) (suc i) r e = ap (λ (l : List A). x ∷ l) (set_next f xs i r e)

item_at : {A : Type 0} (xs : List A) (i : ℕ) → i < length xs → (r : A) × (slice_get xs i ≡ Some r)
item_at [] i l = absurd (omega arith)
item_at (x ∷ xs) zero l = (x, refl)
item_at (x ∷ xs) (suc i) l = item_at xs i (omega arith)

-- the item at an index is what the function makes of it
pub changed_next : {A : Type 0} (f : A → A) (old new : List A) (i : ℕ) → i < length old → ((r : A) → slice_get old i ≡ Some r → new ≡ slice_set old i (f r))
    → take (i + 1) new ++ map f (drop (i + 1) new) ≡ take i old ++ map f (drop i old)
changed_next f old new i l h =
    let found = item_at old i l in
    rw (h found.0 found.1, add-one i) (set_next f old i found.0 found.1)

pub changed_length : {A : Type 0} (f : A → A) (old new : List A) (i : ℕ) → i < length old → ((r : A) → slice_get old i ≡ Some r → new ≡ slice_set old i (f r)) → length new ≡ length old
changed_length f old new i l h =
    let found = item_at old i l in
    ap length (h found.0 found.1) ∙ length-set old i (f found.0)

set_same : {A : Type 0} (xs : List A) (i : ℕ) (r : A) → slice_get xs i ≡ Some r → xs ≡ slice_set xs i r
set_same [] i r e = absurd cc
set_same {A} (x ∷ xs) zero r e = let same : x ≡ r = cc in ap (λ (y : A). y ∷ xs) same
set_same {A} (x ∷ xs) (suc i) r e = ap (λ (l : List A). x ∷ l) (set_same xs i r e)

-- the item at an index is one that the function leaves
pub left_at : {A : Type 0} (f : A → A) (xs ys : List A) (i : ℕ) (x : A) → ys ≡ xs → x ≡ get_or ys i x → f x ≡ x
    → (r : A) → slice_get xs i ≡ Some r → xs ≡ slice_set xs i (f r)
left_at f xs ys i x all is same r e =
    let s : x ≡ r = is ∙ rw all (get_or_from_slice_get xs i r x e) in
    set_same xs i r e ∙ ap (slice_set xs i) (sym s ∙ sym same ∙ ap f s)

-- a function that leaves all
pub left_all : {A : Type 0} (f : A → A) (xs : List A) (i : ℕ) → ((x : A) → f x ≡ x) → (r : A) → slice_get xs i ≡ Some r → xs ≡ slice_set xs i (f r)
left_all f xs i same r e = set_same xs i r e ∙ ap (slice_set xs i) (sym (same r))

-- a function that does the same to the item
pub changed_as : {A : Type 0} (f g : A → A) (old ys new : List A) (i : ℕ) (x : A) → ys ≡ old → x ≡ get_or ys i x → f x ≡ g x → ((r : A) → slice_get old i ≡ Some r → new ≡ slice_set old i (f r))
    → (r : A) → slice_get old i ≡ Some r → new ≡ slice_set old i (g r)
changed_as f g old ys new i x all is same h r e =
    let s : x ≡ r = is ∙ rw all (get_or_from_slice_get old i r x e) in
    h r e ∙ ap (slice_set old i) (ap f (sym s) ∙ same ∙ ap g s)
