-- Names that were read of a message, by the offsets at which they stand.
use Rattle.std.specs.Prelude.{◌≡◌, ℕ, List, Some, slice_get}
use Rattle.std.specs.List.{AllByRecursion}
use Rattle.dns_wire.specs.Wire.{WholeNameAt}

-- the name is kept for the offset
abbrev pub IsAmong : List (ℕ × List (List ℕ)) → ℕ → List (List ℕ) → Type 0
IsAmong known at name = (index : ℕ) × (slice_get known index ≡ Some (at, name))

-- a whole name stands at its offset
abbrev pub IsKnown : List ℕ → ℕ × List (List ℕ) → Type 0
IsKnown bytes pair = (behind : ℕ) × WholeNameAt bytes pair.0 pair.1 behind

-- each name stands at its offset
abbrev pub AreKnown : List ℕ → List (ℕ × List (List ℕ)) → Type 0
AreKnown bytes known = AllByRecursion (IsKnown bytes) known
