-- Slots in an order, linked in both directions. This server's own rule.
use Rattle.std.specs.Prelude.{◌≡◌, ℕ, List, ◌∷◌, length, slice_index}
use Rattle.slot_lists.specs.Links.{Leads, IsIn, Once, walked}

-- the slots in their order, and how many places there are, place 0 among them
pub record OrderData : Type 0 where
  pub slots : List ℕ
  pub places : ℕ

abbrev pub order_data : List ℕ → ℕ → OrderData
order_data slots places = record { slots = slots; places = places }

-- links from place 0 over the slots and back to it, and the links that lead the other way
pub record IsRing (before after slots : List ℕ) : Type 0 where
  pub path : Leads after 0 (0 ∷ slots) 0
  pub back : (slot : ℕ) → IsIn slot (0 ∷ slots)
      → slice_index before (slice_index after slot) ≡ slot
  pub once : Once (0 ∷ slots)
  pub long : length before ≡ length after

-- the slots that the links lead over
abbrev pub ring_of : List ℕ → List ℕ
ring_of after = walked (length after) after (slice_index after 0)
