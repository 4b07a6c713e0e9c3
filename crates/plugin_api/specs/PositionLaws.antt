-- Laws of the first element that passes a test. No public clause cites this module.
use Rattle.std.proofs.Common.{◌≡◌, ℕ, zero, suc, ◌+◌, ◌≤◌, Bool, true, false, cond, List, [], ◌∷◌, ◌++◌, length, Option, Some, None, refl, ap, ◌∙◌, arith}
use Rattle.std.specs.Prelude.{slice_get}
use Rattle.std.specs.Option.{option_or}
use Rattle.std.specs.List.{position_from}

-- the first element that passes is found at a place, counted from a start
pub record IsFirst {X : Type 0} (p : X → Bool) (start : ℕ) (xs : List X) (at : ℕ) : Type 0 where
  pub index : ℕ
  pub item : X
  pub at_is : at ≡ start + index
  pub stands : slice_get xs index ≡ Some item
  pub passes : p item ≡ true
  pub first : (i : ℕ) (x : X) → slice_get xs i ≡ Some x → p x ≡ true → index ≤ i

abbrev pub IsFound : {X : Type 0} → (X → Bool) → ℕ → List X → Option ℕ → Type 0
IsFound p start xs (Some at) = IsFirst p start xs at
IsFound {X} p start xs None = (i : ℕ) (x : X) → slice_get xs i ≡ Some x → p x ≡ true → ⊥

none_behind : {X : Type 0} (p : X → Bool) (x : X) (xs : List X) → p x ≡ false → ((i : ℕ) (y : X) → slice_get xs i ≡ Some y → p y ≡ true → ⊥) → (i : ℕ) (y : X) → slice_get (x ∷ xs) i ≡ Some y → p y ≡ true → ⊥
none_behind p x xs e h zero y s t = let same : x ≡ y = cc in let one : p x ≡ true = ap p same ∙ t in absurd cc
none_behind p x xs e h (suc i) y s t = h i y s t

first_behind : {X : Type 0} (p : X → Bool) (x : X) (xs : List X) (index : ℕ) → p x ≡ false → ((i : ℕ) (y : X) → slice_get xs i ≡ Some y → p y ≡ true → index ≤ i) → (i : ℕ) (y : X) → slice_get (x ∷ xs) i ≡ Some y → p y ≡ true → index + 1 ≤ i
first_behind p x xs index e h zero y s t = let same : x ≡ y = cc in let one : p x ≡ true = ap p same ∙ t in absurd cc
first_behind p x xs index e h (suc i) y s t = omega (arith, h i y s t)

stands_behind : {X : Type 0} (x y : X) (xs : List X) (index : ℕ) → slice_get xs index ≡ Some y → slice_get (x ∷ xs) (index + 1) ≡ Some y
stands_behind x y xs index e = let more : index + 1 ≡ suc index = omega arith in rw more e

by_test : {X : Type 0} (p : X → Bool) (start : ℕ) (x : X) (xs : List X) (b : Bool) (o : Option ℕ) → p x ≡ b → IsFound p (start + 1) xs o → IsFound p start (x ∷ xs) (cond b (Some start) o)
by_test p start x xs true o e h = record {
  index = 0;
  item = x;
  at_is = omega arith;
  stands = refl;
  passes = e;
  first = λ i y s t. omega arith;
}
by_test p start x xs false None e h = none_behind p x xs e h
by_test p start x xs false (Some at) e h = record {
  index = h.index + 1;
  item = h.item;
  at_is = omega (arith, h.at_is);
  stands = stands_behind x h.item xs h.index h.stands;
  passes = h.passes;
  first = first_behind p x xs h.index e h.first;
}

-- what `position_from` finds is the first that passes, and it finds none where none passes
pub found : {X : Type 0} (p : X → Bool) (start : ℕ) (xs : List X) → IsFound p start xs (position_from p start xs)
found p start [] = λ i x s t. absurd cc
found p start (x ∷ xs) = by_test p start x xs (p x) (position_from p (start + 1) xs) refl (found p (start + 1) xs)

or_behind : (b c : Bool) (start at : ℕ) (o r : Option ℕ) → r ≡ option_or o (cond c (Some at) None) → cond b (Some start) r ≡ option_or (cond b (Some start) o) (cond c (Some at) None)
or_behind true c start at o r e = refl
or_behind false c start at o r e = e

position_push : {X : Type 0} (p : X → Bool) (start : ℕ) (xs : List X) (x : X) → position_from p start (xs ++ x ∷ []) ≡ option_or (position_from p start xs) (cond (p x) (Some (start + length xs)) None)
position_push p start [] x = ap (λ (n : ℕ). cond (p x) (Some n) None) (omega arith)
position_push p start (y ∷ xs) x =
    let more : start + 1 + length xs ≡ start + suc (length xs) = omega arith in
    or_behind (p y) (p x) start (start + suc (length xs)) (position_from p (start + 1) xs) (position_from p (start + 1) (xs ++ x ∷ []))
    (position_push p (start + 1) xs x ∙ ap (λ (n : ℕ). option_or (position_from p (start + 1) xs) (cond (p x) (Some n) None)) more)

-- with an element more at the end
pub position_more : {X : Type 0} (p : X → Bool) (xs : List X) (x : X) → position_from p 0 (xs ++ x ∷ []) ≡ option_or (position_from p 0 xs) (cond (p x) (Some (length xs)) None)
position_more p xs x = position_push p 0 xs x ∙ ap (λ (n : ℕ). option_or (position_from p 0 xs) (cond (p x) (Some n) None)) (omega arith)
