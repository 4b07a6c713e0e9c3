-- A stable sort by type gives the order by type.
use Rattle.std.proofs.Common.{◌≡◌, ℕ, zero, suc, ◌<◌, ◌≤◌, Bool, true, false, List, [], ◌∷◌, ◌++◌, length, get_or, filter, nat_cmp, is_lt, refl, sym, ap, ◌∙◌, arith, inl, inr, suc-le-suc, zero-le, append_assoc}
use Rattle.std.specs.Prelude.{nat_le}
use Rattle.std.proofs.lemmas.Bool.{cond-true, cond-false, cases_Bool}
use Rattle.std.proofs.lemmas.Bool.Decides.{nat_tests}
use Rattle.std.proofs.lemmas.List.{append-nil}
use Rattle.std.proofs.lemmas.List.Elements.{filter-append}
use Rattle.std.specs.List.Sorted.{ties, IsNonDecreasingBy, IsStableByKey}
use Rattle.dns_data.specs.Record.{RecordData, kind_of}
use Rattle.zone_lookup.specs.Zone.{placed, by_type}

abbrev pub type_at : RecordData → ℕ
type_at r = kind_of r.rdata

abbrev same_type : RecordData → RecordData → Bool
same_type = ties (λ x y. is_lt (nat_cmp (type_at x) (type_at y)))

ties_at : (m n : ℕ) → (ties (λ x y. is_lt (nat_cmp x y)) m n ≡ true → m ≡ n) × (m ≡ n → ties (λ x y. is_lt (nat_cmp x y)) m n ≡ true)
ties_at m n = (λ h. grind (arith, nat_tests), λ h. grind (arith, nat_tests))

same_type-true : (x y : RecordData) → same_type x y ≡ true → type_at x ≡ type_at y
same_type-true x y = (ties_at (type_at x) (type_at y)).0

same_type_from : (x y : RecordData) → type_at x ≡ type_at y → same_type x y ≡ true
same_type_from x y = (ties_at (type_at x) (type_at y)).1

filter-kept : (p : RecordData → Bool) (y : RecordData) (ys : List RecordData) → p y ≡ true → filter p (y ∷ ys) ≡ y ∷ filter p ys
filter-kept p y ys h = cond-true _ _ _ h

filter-dropped : (p : RecordData → Bool) (y : RecordData) (ys : List RecordData) → p y ≡ false → filter p (y ∷ ys) ≡ filter p ys
filter-dropped p y ys h = cond-false _ _ _ h

abbrev AreAtLeast : ℕ → List RecordData → Type 0
AreAtLeast n [] = Unit {0}
AreAtLeast n (y ∷ ys) = (n ≤ type_at y) × AreAtLeast n ys

abbrev Rises : List RecordData → Type 0
Rises [] = Unit {0}
Rises (y ∷ ys) = AreAtLeast (type_at y) ys × Rises ys

AreAtLeast-le : (n m : ℕ) (ys : List RecordData) → n ≤ m → AreAtLeast m ys → AreAtLeast n ys
AreAtLeast-le n m [] le h = tt
AreAtLeast-le n m (y ∷ ys) le h = let first = h.0 in (omega arith, AreAtLeast-le n m ys le h.1)

AreAtLeast-at : (n : ℕ) (d : RecordData) (ys : List RecordData) → ((j : ℕ) → j < length ys → n ≤ type_at (get_or ys j d)) → AreAtLeast n ys
AreAtLeast-at n d [] h = tt
AreAtLeast-at n d (y ∷ ys) h = (h zero (suc-le-suc zero-le), AreAtLeast-at n d ys (λ j lt. h (suc j) (suc-le-suc lt)))

Rises-from_sort : (ys : List RecordData) → IsNonDecreasingBy type_at ys → Rises ys
Rises-from_sort [] h = tt
Rises-from_sort (y ∷ ys) h = (
  AreAtLeast-at (type_at y) y ys (λ j lt. h zero (suc j) y zero-le (suc-le-suc lt)),
  Rises-from_sort ys (λ i j d le lt. h (suc i) (suc j) d (suc-le-suc le) (suc-le-suc lt)),
)

le_from : (a b : ℕ) → nat_le a b ≡ true → a ≤ b
le_from a b h = grind (arith, nat_tests)

lt_from : (a b : ℕ) → nat_le a b ≡ false → b < a
lt_from a b h = grind (arith, nat_tests)

placed_past : (r d : RecordData) (ds : List RecordData) → nat_le (type_at d) (type_at r) ≡ true → placed r (d ∷ ds) ≡ d ∷ placed r ds
unfolding placed
placed_past r d ds h = cond-true _ _ _ h

placed_before : (r d : RecordData) (ds : List RecordData) → nat_le (type_at d) (type_at r) ≡ false → placed r (d ∷ ds) ≡ r ∷ d ∷ ds
unfolding placed
placed_before r d ds h = cond-false _ _ _ h

placed_nil : (r : RecordData) → placed r [] ≡ r ∷ []
unfolding placed
placed_nil r = refl

-- none of these has the type
none_of : (x : RecordData) (n : ℕ) (ds : List RecordData) → AreAtLeast n ds → type_at x < n → filter (same_type x) ds ≡ []
none_of x n [] h lt = refl
none_of x n (d ∷ ds) h lt =
    elim (cases_Bool (same_type x d)) [
      | inl same ↦ absurd (omega (arith, same_type-true x d same, h.0))
      | inr other ↦ filter-dropped (same_type x) d ds other ∙ none_of x n ds h.1 lt
    ]

-- a record that is placed stands behind those of its type
filter-placed : (x r : RecordData) (ds : List RecordData) → Rises ds → filter (same_type x) (placed r ds) ≡ filter (same_type x) ds ++ filter (same_type x) (r ∷ [])
filter-placed x r [] h = ap (filter (same_type x)) (placed_nil r)
filter-placed x r (d ∷ ds) h =
    let p = same_type x in
    elim (cases_Bool (nat_le (type_at d) (type_at r))) [
      | inl past ↦
          ap (filter p) (placed_past r d ds past)
          ∙ elim (cases_Bool (p d)) [
            | inl with ↦
                filter-kept p d (placed r ds) with ∙ ap (λ l. d ∷ l) (filter-placed x r ds h.1)
                ∙ ap (λ l. l ++ filter p (r ∷ [])) (sym (filter-kept p d ds with))
            | inr without ↦
                filter-dropped p d (placed r ds) without ∙ filter-placed x r ds h.1
                ∙ ap (λ l. l ++ filter p (r ∷ [])) (sym (filter-dropped p d ds without))
          ]
      | inr first ↦
          ap (filter p) (placed_before r d ds first)
          ∙ elim (cases_Bool (p r)) [
            | inl with ↦
                let low = lt_from (type_at d) (type_at r) first in
                let low_x : type_at x < type_at d = omega (arith, same_type-true x r with, low) in
                let none : filter p (d ∷ ds) ≡ [] = none_of x (type_at d) (d ∷ ds) (omega arith, h.0) low_x in
                filter-kept p r (d ∷ ds) with ∙ ap (λ l. r ∷ l) none ∙ sym (filter-kept p r [] with)
                ∙ ap (λ l. l ++ filter p (r ∷ [])) (sym none)
            | inr without ↦
                let last : filter p (r ∷ []) ≡ [] = filter-dropped p r [] without in
                filter-dropped p r (d ∷ ds) without ∙ sym (append-nil (filter p (d ∷ ds)))
                ∙ ap (λ l. filter p (d ∷ ds) ++ l) (sym last)
          ]
    ]

at_least_placed : (n : ℕ) (r : RecordData) (ds : List RecordData) → AreAtLeast n ds → n ≤ type_at r → AreAtLeast n (placed r ds)
at_least_placed n r [] h le = rw (placed_nil r) (le, tt)
at_least_placed n r (d ∷ ds) h le =
    elim (cases_Bool (nat_le (type_at d) (type_at r))) [
      | inl past ↦ rw (placed_past r d ds past) (h.0, at_least_placed n r ds h.1 le)
      | inr first ↦ rw (placed_before r d ds first) (le, h)
    ]

rises_placed : (r : RecordData) (ds : List RecordData) → Rises ds → Rises (placed r ds)
rises_placed r [] h = rw (placed_nil r) (tt, tt)
rises_placed r (d ∷ ds) h =
    elim (cases_Bool (nat_le (type_at d) (type_at r))) [
      | inl past ↦ rw (placed_past r d ds past) (at_least_placed (type_at d) r ds h.0 (le_from _ _ past), rises_placed r ds h.1)
      | inr first ↦
          let low = lt_from (type_at d) (type_at r) first in
          rw (placed_before r d ds first) ((omega arith, AreAtLeast-le (type_at r) (type_at d) ds (omega arith) h.0), h)
    ]

rises_by_type : (done rs : List RecordData) → Rises done → Rises (by_type done rs)
unfolding by_type
rises_by_type done [] h = h
rises_by_type done (r ∷ rs) h = rises_by_type (placed r done) rs (rises_placed r done h)

append_one : (xs : List RecordData) (r : RecordData) (ys : List RecordData) → (xs ++ r ∷ []) ++ ys ≡ xs ++ r ∷ ys
append_one xs r ys = append_assoc xs (r ∷ []) ys

filter-by_type : (x : RecordData) (done rs : List RecordData) → Rises done → filter (same_type x) (by_type done rs) ≡ filter (same_type x) done ++ filter (same_type x) rs
unfolding by_type
filter-by_type x done [] h = sym (append-nil (filter (same_type x) done))
filter-by_type x done (r ∷ rs) h =
    let p = same_type x in
    filter-by_type x (placed r done) rs (rises_placed r done h)
    ∙ ap (λ l. l ++ filter p rs) (filter-placed x r done h ∙ sym (filter-append p done (r ∷ [])))
    ∙ sym (filter-append p (done ++ r ∷ []) rs)
    ∙ ap (filter p) (append_one done r rs)
    ∙ filter-append p done (r ∷ rs)

-- the type occurs among them
AreAtLeast-found : (n : ℕ) (x : RecordData) (ys : List RecordData) (w : RecordData) (ws : List RecordData) → AreAtLeast n ys → filter (same_type x) ys ≡ w ∷ ws → n ≤ type_at x
AreAtLeast-found n x [] w ws h e = cc
AreAtLeast-found n x (y ∷ ys) w ws h e =
    elim (cases_Bool (same_type x y)) [
      | inl with ↦ omega (arith, h.0, same_type-true x y with)
      | inr without ↦ AreAtLeast-found n x ys w ws h.1 (sym (filter-dropped (same_type x) y ys without) ∙ e)
    ]

same_from_types : (ys zs : List RecordData) → Rises ys → Rises zs → ((x : RecordData) → filter (same_type x) ys ≡ filter (same_type x) zs) → ys ≡ zs
same_from_types [] [] left right same = refl
same_from_types [] (z ∷ zs) left right same =
    let clash = same z ∙ filter-kept (same_type z) z zs (same_type_from z z refl) in cc
same_from_types (y ∷ ys) [] left right same =
    let clash = sym (same y) ∙ filter-kept (same_type y) y ys (same_type_from y y refl) in cc
same_from_types (y ∷ ys) (z ∷ zs) left right same =
    let at_y = filter-kept (same_type y) y ys (same_type_from y y refl) in
    let at_z = filter-kept (same_type z) z zs (same_type_from z z refl) in
    let up = AreAtLeast-found (type_at z) y (z ∷ zs) y _ (omega arith, right.0) (sym (same y) ∙ at_y) in
    let down = AreAtLeast-found (type_at y) z (y ∷ ys) z _ (omega arith, left.0) (same z ∙ at_z) in
    let heads = sym at_y ∙ same y ∙ filter-kept (same_type y) z zs (same_type_from y z (omega arith)) in
    let head : y ≡ z = cc in
    let tails : (x : RecordData) → filter (same_type x) ys ≡ filter (same_type x) zs =
    λ x. elim (cases_Bool (same_type x y)) [
      | inl with ↦
          let both = sym (filter-kept (same_type x) y ys with) ∙ same x ∙ filter-kept (same_type x) z zs (ap (same_type x) (sym head) ∙ with) in cc
      | inr without ↦
          sym (filter-dropped (same_type x) y ys without) ∙ same x ∙ filter-dropped (same_type x) z zs (ap (same_type x) (sym head) ∙ without)
    ] in
    ap (λ w. w ∷ ys) head ∙ ap (λ l. z ∷ l) (same_from_types ys zs left.1 right.1 tails)

pub by_type_from_sort : (xs ys : List RecordData) → IsNonDecreasingBy type_at ys → IsStableByKey type_at nat_cmp xs ys → ys ≡ by_type [] xs
by_type_from_sort xs ys sorted stable =
    same_from_types ys (by_type [] xs) (Rises-from_sort ys sorted) (rises_by_type [] xs tt)
    (λ x. stable x ∙ sym (filter-by_type x [] xs tt))
