-- What was read of a name: its labels up to an offset.
use Rattle.std.specs.Prelude.{◌≡◌, ◌≤◌, ◌<◌, ℕ, List, ◌++◌, length, slice_range, Option, None, unwrap_or}
use Rattle.dns_names.specs.Name.{IsWire, labels_of}
use Rattle.dns_wire.specs.Wire.{LabelAt, NameAt}

-- What was read from origin up to an offset, in a sequence that began at start, is these labels:
-- whatever goes on from there completes them, and nothing else does. Where a pointer was passed,
-- the offset behind the first one is passed.
pub record ReadSoFar (bytes : List ℕ) (origin start at : ℕ) (front : List (List ℕ))
    (passed : Option ℕ) : Type 0 where
  pub inside : at ≤ length bytes
  pub sound : (others : List (List ℕ)) (behind : ℕ) → NameAt bytes start at others behind
      → NameAt bytes origin origin (front ++ others) (unwrap_or passed behind)
  pub complete : (whole : List (List ℕ)) (behind : ℕ) → NameAt bytes origin origin whole behind
      → (others : List (List ℕ)) × (other : ℕ) × (whole ≡ front ++ others)
      × NameAt bytes start at others other

-- a sequence of labels that ends at a zero byte or at what may be a pointer
pub record SequenceAt (bytes : List ℕ) (start end : ℕ) : Type 0 where
  pub order : start ≤ end
  pub inside : end < length bytes
  pub wire : IsWire (slice_range bytes start end)
  pub so_far : ReadSoFar bytes start start end (labels_of (slice_range bytes start end)) None
  pub stops : (label : List ℕ) → LabelAt bytes end label → ⊥
