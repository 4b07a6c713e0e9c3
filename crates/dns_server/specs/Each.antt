-- Lists place by place.
use Rattle.std.specs.Prelude.{List, [], ◌∷◌}

-- R holds of the elements of three lists, place by place
abbrev pub Each3 : {A B C : Type 0} → (A → B → C → Type 0) → List A → List B → List C → Type 0
Each3 R [] [] [] = Unit {0}
Each3 R [] [] (z ∷ zs) = ⊥
Each3 R [] (y ∷ ys) zs = ⊥
Each3 R (x ∷ xs) [] zs = ⊥
Each3 R (x ∷ xs) (y ∷ ys) [] = ⊥
Each3 R (x ∷ xs) (y ∷ ys) (z ∷ zs) = R x y z × Each3 R xs ys zs
