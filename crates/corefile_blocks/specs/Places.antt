-- Places of bytes, so that what is looked up is held against few others. This server's own rule.
use Rattle.std.specs.Prelude.{◌≡◌, ℕ, ◌+◌, ◌*◌, ◌%◌, List, [], ◌∷◌, length, Some, slice_get}

-- the place among so many to which bytes lead from another one
abbrev pub place_from : ℕ → ℕ → List ℕ → ℕ
place_from count place [] = place
place_from count place (byte ∷ bytes) = place_from count ((31 * place + byte) % count) bytes

-- so many places, and nothing at any
pub record AreFree {X : Type 0} (places : List (List X)) (count : ℕ) : Type 0 where
  pub many : length places ≡ count
  pub free : (i : ℕ) (set : List X) → slice_get places i ≡ Some set → set ≡ []
