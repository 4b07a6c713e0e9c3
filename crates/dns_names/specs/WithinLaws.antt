-- Laws of names that are the same, and of names within zones: the test says what the relation says.
use Rattle.std.proofs.Common.{◌≡◌, ◌↔◌, ℕ, zero, suc, ◌+◌, ◌-◌, ◌≤◌, Bool, IsTrue, List, [], ◌∷◌, length, drop, map, subst, ap, refl, arith}
use Rattle.std.proofs.lemmas.List.{length-map}
use Rattle.std.proofs.lemmas.Bool.Decides.{same_from_decides, Decides-eqb}
use Rattle.std.proofs.lemmas.Slice.Eq.{slice_eq-Decides}
use Rattle.std.specs.Char.{to_ascii_lowercase}
use Rattle.std.specs.Bool.{Decides}
use Rattle.dns_names.specs.Name.{IsWithin, is_same, is_within, lowered}

-- names are the same where they are in lower case
pub same_is : (a b : List (List ℕ)) → Decides (is_same a b) (lowered a ≡ lowered b)
same_is a b = slice_eq-Decides (λ x y. slice_eq-Decides Decides-eqb x y _ refl) (lowered a) (lowered b) _ refl

-- a test that is true just where they are is `is_same`
pub decides_same : (a b : List (List ℕ)) (test : Bool) → (IsTrue test ↔ (lowered a ≡ lowered b)) → test ≡ is_same a b
decides_same a b test e = same_from_decides _ _ e (same_is a b)

length_drop : {X : Type 0} (n : ℕ) (xs : List X) → n ≤ length xs → length (drop n xs) + n ≡ length xs
length_drop zero xs h = omega arith
length_drop (suc n) [] h = absurd (omega arith)
length_drop (suc n) (x ∷ xs) h = omega (arith, length_drop n xs (omega arith))

within_is : (name zone : List (List ℕ)) → IsWithin name zone → lowered (drop (length name - length zone) name) ≡ lowered zone
within_is name zone w =
    let long : length (lowered (drop w.above name)) ≡ length (lowered zone) = ap length w.same in
    let above : w.above ≡ length name - length zone =
    omega (arith, long, length-map (drop w.above name) (λ (label : List ℕ). map to_ascii_lowercase label), length-map zone (λ (label : List ℕ). map to_ascii_lowercase label), length_drop w.above name w.inside, w.inside) in
    subst (λ (n : ℕ). lowered (drop n name) ≡ lowered zone) above w.same

-- a test that is true just where the name is within the zone is `is_within`
pub decides_within : (name zone : List (List ℕ)) (b : Bool) → (IsTrue b ↔ IsWithin name zone) → b ≡ is_within name zone
unfolding is_within
decides_within name zone b e =
    decides_same (drop (length name - length zone) name) zone b
    (λ t. within_is name zone (e.0 t), λ h. e.1 (record { above = length name - length zone; inside = omega arith; same = h }))

-- the test is true just where the name is within the zone
pub exact_within : (name zone : List (List ℕ)) → IsTrue (is_within name zone) ↔ IsWithin name zone
unfolding is_within
exact_within name zone =
    let last = drop (length name - length zone) name in
    let same : IsTrue (is_within name zone) ↔ (lowered last ≡ lowered zone) = same_is last zone in
    (λ t. record { above = length name - length zone; inside = omega arith; same = same.0 t }, λ w. same.1 (within_is name zone w))
