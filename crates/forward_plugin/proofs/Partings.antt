-- Lists whose first element was taken off, and put back as another.
use Rattle.std.proofs.Common.{◌≡◌, List, ◌∷◌, subst}
use Rattle.std.specs.List.{All}
use Rattle.std.proofs.lemmas.List.Elements.{All-cons, All-head, All-tail}

module _ {A : Type 0} (P : A → Type 0) (xs : List A) (x : A) (rest : List A) (is : xs ≡ x ∷ rest) (all : All P xs) where
  both : All P (x ∷ rest)
  both = subst (All P) is all

  pub first_one : P x
  first_one = All-head P x rest both

  pub the_rest : All P rest
  the_rest = All-tail P x rest both

  pub put_back : (y : A) → P y → All P (y ∷ rest)
  put_back y p = All-cons P y rest p the_rest
