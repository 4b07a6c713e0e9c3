-- Laws of names by number, and of lists of which an item is set or that get one more. No public clause
-- cites this module.
use Rattle.std.proofs.Common.{◌≡◌, ◌<◌, ◌⊎◌, ℕ, zero, suc, List, [], ◌∷◌, ◌++◌, length, Option, Some, None, refl, ap, ◌∙◌, arith, inl, inr, option_map}
use Rattle.std.specs.Prelude.{slice_get, slice_set}
use Rattle.std.proofs.lemmas.Option.{slice_get_within}
use Rattle.dns_names.specs.Name.{lowered}
use Rattle.name_table.specs.Table.{IsNamed}

-- the name that a number names
pub record Named (o : Option (List (List ℕ))) (small : List (List ℕ)) : Type 0 where
  pub name : List (List ℕ)
  pub is : o ≡ Some name
  pub same : lowered name ≡ small

pub named_by : (o : Option (List (List ℕ))) (small : List (List ℕ)) → option_map lowered o ≡ Some small → Named o small
named_by None small e = absurd cc
named_by (Some name) small e = record { name = name; is = refl; same = cc }

pub named_within : (names : List (List (List ℕ))) (key : List (List ℕ)) (i : ℕ) → IsNamed names i key → i < length names
named_within names key i n = let there = named_by (slice_get names i) (lowered key) n in slice_get_within names i there.name there.is

-- a name in other letters
pub named_as : (zones : List (List (List ℕ))) (i : ℕ) (a b : List (List ℕ)) → IsNamed zones i a → lowered a ≡ lowered b → IsNamed zones i b
named_as zones i a b n e = n ∙ ap Some e

pub set_same : {X : Type 0} (xs : List X) (i : ℕ) (x : X) → i < length xs → slice_get (slice_set xs i x) i ≡ Some x
set_same [] i x l = absurd (omega arith)
set_same (y ∷ xs) zero x l = refl
set_same (y ∷ xs) (suc i) x l = set_same xs i x (omega arith)

pub set_other : {X : Type 0} (xs : List X) (i j : ℕ) (x : X) → (i ≡ j → ⊥) → slice_get (slice_set xs i x) j ≡ slice_get xs j
set_other [] i j x n = refl
set_other (y ∷ xs) zero zero x n = absurd (n refl)
set_other (y ∷ xs) zero (suc j) x n = refl
set_other (y ∷ xs) (suc i) zero x n = refl
set_other (y ∷ xs) (suc i) (suc j) x n = set_other xs i j x (λ e. n (ap suc e))

pub front : {X : Type 0} (xs : List X) (x : X) (i : ℕ) → i < length xs → slice_get (xs ++ x ∷ []) i ≡ slice_get xs i
front [] x i l = absurd (omega arith)
front (y ∷ xs) x zero l = refl
front (y ∷ xs) x (suc i) l = front xs x i (omega arith)

pub last : {X : Type 0} (xs : List X) (x : X) → slice_get (xs ++ x ∷ []) (length xs) ≡ Some x
last [] x = refl
last (y ∷ xs) x = last xs x

-- an item of a list with one more is an earlier one, or the last
pub push_cases : {X : Type 0} (xs : List X) (x : X) (i : ℕ) (y : X) → slice_get (xs ++ x ∷ []) i ≡ Some y → (slice_get xs i ≡ Some y) ⊎ ((i ≡ length xs) × (x ≡ y))
push_cases [] x zero y e = inr (refl, cc)
push_cases [] x (suc i) y e = absurd cc
push_cases (z ∷ xs) x zero y e = inl e
push_cases (z ∷ xs) x (suc i) y e = elim (push_cases xs x i y e) [
  | inl h ↦ inl h
  | inr h ↦ inr (ap suc h.0, h.1)
]
