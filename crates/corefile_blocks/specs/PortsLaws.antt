-- The ports of blocks are one list: numbers that rise are one list, where the members are the same.
use Rattle.std.proofs.Common.{◌≡◌, ◌⊎◌, ℕ, zero, suc, List, [], ◌∷◌, refl, sym, ap, subst, ◌∙◌}
use Rattle.std.proofs.Common.{inl, inr, arith}
use Rattle.std.specs.Prelude.{◌↔◌, ◌<◌, ◌+◌, slice_index, slice_index_or}
use Rattle.std.specs.List.{All, Contains}
use Rattle.std.specs.List.Sorted.{IsStrictlyIncreasing}
use Rattle.std.proofs.lemmas.List.Elements.{All-contains}
use Rattle.dns_data.specs.declared.block.Block.{Block}
use Rattle.corefile_blocks.specs.Ports.{ArePorts}

-- two lists have the same members
abbrev SameMembers : List ℕ → List ℕ → Type 0
SameMembers xs ys = (n : ℕ) → Contains xs n ↔ Contains ys n

rest_rises : (x : ℕ) (xs : List ℕ) → IsStrictlyIncreasing (x ∷ xs) → IsStrictlyIncreasing xs
rest_rises x xs up k inside =
    let e : suc k + 1 ≡ suc (k + 1) = omega arith in
    subst (λ n. slice_index xs k < slice_index (x ∷ xs) n) e (up (suc k) (omega arith))

-- the first is below each that follows
first_below : (x : ℕ) (xs : List ℕ) → IsStrictlyIncreasing (x ∷ xs) → All (λ y. x < y) xs
first_below x [] up = λ k d inside. absurd (omega arith)
first_below x (y ∷ xs) up = each (first_below y xs (rest_rises x (y ∷ xs) up))
  where
    next : x < y
    next = up 0 (omega arith)

    each : All (λ z. y < z) xs → All (λ z. x < z) (y ∷ xs)
    each later zero d inside = next
    each later (suc k) d inside =
        let further : y < slice_index_or xs k d = later k d (omega arith) in omega (arith, next)

member : (x : ℕ) (xs : List ℕ) (n : ℕ) → Contains (x ∷ xs) n → (x ≡ n) ⊎ Contains xs n
member x xs n (zero, inside, is) = inl is
member x xs n (suc k, inside, is) = inr (k, omega arith, is)

behind : (x : ℕ) (xs : List ℕ) (n : ℕ) → Contains xs n → Contains (x ∷ xs) n
behind x xs n (k, inside, is) = (suc k, omega arith, is)

head_in : (x : ℕ) (xs : List ℕ) → Contains (x ∷ xs) x
head_in x xs = (0, omega arith, refl)

nothing_in : (n : ℕ) → Contains [] n → ⊥
nothing_in n (k, inside, is) = absurd (omega arith)

-- where the members are the same, so is the first
first_same : (x y : ℕ) (xs ys : List ℕ) → IsStrictlyIncreasing (x ∷ xs)
    → IsStrictlyIncreasing (y ∷ ys) → SameMembers (x ∷ xs) (y ∷ ys) → x ≡ y
first_same x y xs ys up other same =
    by (member y ys x ((same x).0 (head_in x xs))) (member x xs y ((same y).1 (head_in y ys)))
  where
    by : (y ≡ x) ⊎ Contains ys x → (x ≡ y) ⊎ Contains xs y → x ≡ y
    by (inl is) two = sym is
    by (inr in_ys) (inl is) = is
    by (inr in_ys) (inr in_xs) =
        let over : y < x = All-contains (λ n. y < n) ys x (first_below y ys other) in_ys in
        let under : x < y = All-contains (λ n. x < n) xs y (first_below x xs up) in_xs in
        omega arith

-- behind the same first, a member of the rest of one list stands in the rest of the other
in_rest : (x : ℕ) (xs ys : List ℕ) → IsStrictlyIncreasing (x ∷ xs)
    → ((n : ℕ) → Contains (x ∷ xs) n → Contains (x ∷ ys) n)
    → (n : ℕ) → Contains xs n → Contains ys n
in_rest x xs ys up same n in_xs = by (member x ys n (same n (behind x xs n in_xs)))
  where
    by : (x ≡ n) ⊎ Contains ys n → Contains ys n
    by (inl is) =
        let over : x < n = All-contains (λ m. x < m) xs n (first_below x xs up) in_xs in
        absurd (omega arith)
    by (inr in_ys) = in_ys

-- numbers that rise are one list, where the members are the same
one_rising : (xs ys : List ℕ) → IsStrictlyIncreasing xs → IsStrictlyIncreasing ys
    → SameMembers xs ys → xs ≡ ys
one_rising [] [] up other same = refl
one_rising [] (y ∷ ys) up other same = absurd (nothing_in y ((same y).1 (head_in y ys)))
one_rising (x ∷ xs) [] up other same = absurd (nothing_in x ((same x).0 (head_in x xs)))
one_rising (x ∷ xs) (y ∷ ys) up other same =
    let is : x ≡ y = first_same x y xs ys up other same in
    let forth : (n : ℕ) → Contains (x ∷ xs) n → Contains (x ∷ ys) n =
    λ n h. subst (λ z. Contains (z ∷ ys) n) (sym is) ((same n).0 h) in
    let back : (n : ℕ) → Contains (y ∷ ys) n → Contains (y ∷ xs) n =
    λ n h. subst (λ z. Contains (z ∷ xs) n) is ((same n).1 h) in
    ap (λ n. n ∷ xs) is
    ∙ ap (λ ns. y ∷ ns)
    (one_rising xs ys (rest_rises x xs up) (rest_rises y ys other)
    (λ n. (in_rest x xs ys up forth n, in_rest y ys xs other back n)))

-- two lists of the ports of the same blocks are the same
pub ports_are_one : (blocks : List Block) (ports other : List ℕ) → ArePorts blocks ports
    → ArePorts blocks other → ports ≡ other
ports_are_one blocks ports other one two =
    one_rising ports other one.ascending two.ascending (λ port. (
      λ h. (two.those port).1 ((one.those port).0 h),
      λ h. (one.those port).1 ((two.those port).0 h),
    ))
