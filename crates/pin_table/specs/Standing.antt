-- Which chains stand in the slots of a table, and what they come to. This server's own rule.
use Rattle.std.specs.Prelude.{◌≡◌, ℕ, ◌+◌, ◌<◌, false, List, [], length, Some, slice_index_or, if◌then◌else◌}
use Rattle.std.specs.List.{All, sum_by}
use Rattle.pin_core.specs.declared.slots.TheConstants.{SLOTS}
use Rattle.pin_core.specs.Slots.{is_free}
use Rattle.pin_table.specs.declared.views.Plan.{Plan}
use Rattle.pin_table.specs.declared.publisher.Published.{Published}
use Rattle.pin_table.specs.declared.publisher.Published.TheVariants as published
use Rattle.pin_table.specs.Known.{kept, serial_at}
use Rattle.pin_table.specs.Closing.{joined_at, left_at}
use Rattle.pin_table.specs.Steps.{plan_slot}
use Rattle.pin_table.specs.Tags.{AreNamed}

module _ {C : Type 0} where
  -- what the chains of a slot come to, each as it was filled; nothing where the slot is free
  abbrev pub standing_at : (C → ℕ) → Plan C → ℕ → ℕ
  standing_at f p slot =
      if is_free (plan_slot p slot).phase then 0
      else sum_by f (slice_index_or p.past.filled (serial_at p.past.serials slot) [])

  -- what those of all slots come to
  unfoldable pub standing : (C → ℕ) → Plan C → ℕ
  standing f p =
      standing_at f p 0 + standing_at f p 1 + standing_at f p 2 + standing_at f p 3

  -- in each slot that isn't free each worker's chain is left, as its pass keeps it
  abbrev pub IsWhole : Plan C → Type 0
  IsWhole p =
      (slot w : ℕ) → slot < SLOTS → w < p.workers → is_free (plan_slot p slot).phase ≡ false
      → (c : C) × (left_at p slot w ≡ Some c)
      × (kept p.past.filled w (serial_at p.past.serials slot) (joined_at p.joined w).turns
      ≡ Some c)

  -- behind a publication of these chains they stand too
  abbrev pub StandsBehind : (C → ℕ) → Plan C → List C → Published C → Plan C → Type 0
  StandsBehind f p chains (published.Ok serial) p' =
      standing f p' ≡ standing f p + sum_by f chains
  StandsBehind f p chains (published.SerialsSpent back) p' = standing f p' ≡ standing f p

module _ {C I : Type 0} (identity : C → I) where
  -- a number that is told by a chain's identity
  abbrev pub IsOfIdentity : (C → ℕ) → Type 0
  IsOfIdentity f = (c d : C) → identity c ≡ identity d → f c ≡ f d

  -- each chain that came home is the one that was filled, each generation was filled for each
  -- worker, and what stands in a slot is one of these
  pub record IsStanding (p : Plan C) : Type 0 where
    pub named : AreNamed identity p
    pub full : All (λ chains. length chains ≡ p.workers) p.past.filled
    pub low : (slot : ℕ) → slot < SLOTS → is_free (plan_slot p slot).phase ≡ false
        → serial_at p.past.serials slot < length p.past.filled
