-- Offsets of suffixes as the writer keeps them.
use Rattle.std.specs.Prelude.{◌≡◌, ◌<◌, ◌≤◌, ℕ, ◌+◌, List, [], ◌∷◌, ◌++◌, length, take, nat_lt, if◌then◌else◌}
use Rattle.std.specs.List.{AllByRecursion}
use Rattle.std.proofs.Common.{Bor}
use Rattle.dns_names.specs.Name.{IsWire, labels_of}
use Rattle.dns_data.specs.declared.limit.TheConstants as limits
use Rattle.dns_write.specs.Written.{OffsetData}

-- an offset by the wire format of its suffix
abbrev pub offset_of : Bor (List ℕ) × ℕ → OffsetData
offset_of p = record { suffix = labels_of p.0.now; at = p.1 }

abbrev pub IsOffset : Bor (List ℕ) × ℕ → Type 0
IsOffset p = IsWire p.0.now × (p.1 < limits.POINTER_END)

-- the suffixes of labels that are written out from an offset on, and where each begins
unfoldable pub suffixes_at : ℕ → List (List ℕ) → List OffsetData
suffixes_at at [] = []
suffixes_at at (label ∷ labels) =
    record { suffix = label ∷ labels; at = at } ∷ suffixes_at (at + length label + 1) labels

-- with an offset for a suffix, where a pointer can name that offset
abbrev pub with_offset : List OffsetData → List (List ℕ) → ℕ → List OffsetData
with_offset offsets suffix at =
    if nat_lt at limits.POINTER_END
    then offsets ++ record { suffix = suffix; at = at } ∷ []
    else offsets

-- the suffixes that count are some of the first name's; three offsets of others stand near, and
-- only then some stand far
pub record AreStored (first : List ℕ) (kept count : ℕ) (near far : List (Bor (List ℕ) × ℕ))
    : Type 0 where
  pub wire : IsWire first
  pub few : kept ≤ length (labels_of first)
  pub inside : count ≤ 3
  pub long : length near ≡ 3
  pub none_far : count < 3 → far ≡ []
  pub near_are : AllByRecursion IsOffset (take count near)
  pub far_are : AllByRecursion IsOffset far
