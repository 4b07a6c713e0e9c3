-- A name that becomes another one where it stands.
use Rattle.std.specs.Prelude.{◌≡◌, ℕ, Bool, true, false, List, Option, Some, None}

-- a name becomes the other one, where there is one, and stays where there is none
abbrev pub Becomes : Option (List (List ℕ)) → Bool → List (List ℕ) → List (List ℕ) → Type 0
Becomes None done old new = (done ≡ false) × (new ≡ old)
Becomes (Some name) done old new = (done ≡ true) × (new ≡ name)
