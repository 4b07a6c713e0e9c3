-- Laws of the bytes before the first that passes a test, for those who cut lines.
use Rattle.std.proofs.Common.{◌≡◌, ℕ, suc, ◌+◌, ◌<◌, ◌≤◌, Bool, true, false, cond, not, ltb, List, [], ◌∷◌, length, get_or, take, Option, Some, None, unwrap_or, refl, ap, ◌∙◌, arith}
use Rattle.std.specs.List.{position_or_len}
use Rattle.std.proofs.lemmas.Bool.Decides.{nat_tests}
use Rattle.corefile_words.specs.Lines.{before}

pub before-le : (p : ℕ → Bool) (xs : List ℕ) → length (before p xs) ≤ length xs
before-le p [] = omega arith
before-le p (x ∷ xs) =
    elim (p x) as (λ b. length (cond b [] (x ∷ before p xs)) ≤ suc (length xs)) [ true ↦ omega arith | false ↦ omega (arith, before-le p xs) ]

pub take_before : (p : ℕ → Bool) (xs : List ℕ) → take (length (before p xs)) xs ≡ before p xs
take_before p [] = refl
take_before p (x ∷ xs) =
    elim (p x) as (λ b. take (length (cond b [] (x ∷ before p xs))) (x ∷ xs) ≡ cond b [] (x ∷ before p xs))
    [ true ↦ refl | false ↦ ap (λ (l : List ℕ). x ∷ l) (take_before p xs) ]

pub passes_behind : (p : ℕ → Bool) (xs : List ℕ) → length (before p xs) < length xs → p (get_or xs (length (before p xs)) 0) ≡ true
passes_behind p [] h = absurd (omega arith)
passes_behind p (x ∷ xs) h =
    elim (p x) as (λ b. p x ≡ b → length (cond b [] (x ∷ before p xs)) < suc (length xs) → p (get_or (x ∷ xs) (length (cond b [] (x ∷ before p xs))) 0) ≡ true)
    [ true ↦ λ e _. e | false ↦ λ _ l. passes_behind p xs (omega arith) ] refl h

position_is : (p : ℕ → Bool) (xs : List ℕ) → position_or_len p xs ≡ length (before p xs)
position_is p [] = refl
position_is p (x ∷ xs) =
    elim (p x) as (λ b. cond (not b) (1 + position_or_len p xs) 0 ≡ length (cond b [] (x ∷ before p xs))) [ true ↦ refl | false ↦ omega (arith, position_is p xs) ]

pick : (b : Bool) (n m : ℕ) → ltb n m ≡ b → n ≤ m → unwrap_or (cond b (Some n) None) m ≡ n
pick true n m e h = refl
pick false n m e h = grind (arith, nat_tests)

-- what `position` and then `unwrap_or` give
pub size_before : (p : ℕ → Bool) (xs : List ℕ) (o : Option ℕ) (r : ℕ) → o ≡ cond (ltb (position_or_len p xs) (length xs)) (Some (position_or_len p xs)) None
    → r ≡ unwrap_or o (length xs) → r ≡ length (before p xs)
size_before p xs o r e h =
    let is = position_is p xs in
    h ∙ ap (λ (s : Option ℕ). unwrap_or s (length xs)) e
    ∙ pick (ltb (position_or_len p xs) (length xs)) (position_or_len p xs) (length xs) refl (omega (arith, before-le p xs))
    ∙ is
