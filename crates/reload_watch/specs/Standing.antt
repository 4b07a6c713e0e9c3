-- Which generations stand in a table behind the search for a free slot: the last one, and replaced
-- ones whose pins were open when they were swept. This server's own rule.
use Rattle.std.specs.Prelude.{◌≡◌, ◌≤◌, ◌<◌, ◌⊎◌, ℕ, ◌+◌, ◌-◌, nat_eq, List, [], ◌∷◌, length}
use Rattle.std.specs.Prelude.{slice_index_or}
use Rattle.std.specs.List.{AllByRecursion, IsDistinct, sum_by}
use Rattle.pin_table.specs.declared.views.Plan.{Plan}
use Rattle.pin_table.specs.declared.views.Sweep.{Sweep}
use Rattle.pin_table.specs.{count_of, standing}

-- one of these sweeps saw open pins of a serial, while another was the last published
abbrev pub SawOpen : List Sweep → ℕ → ℕ → Type 0
SawOpen [] last serial = ⊥
SawOpen (sweep ∷ sweeps) last serial =
    ((sweep.last ≡ last) × (sweep.serial ≡ serial) × (sweep.ended < sweep.total))
    ⊎ SawOpen sweeps last serial

module _ {C : Type 0} where
  -- what the chains of a serial come to, as they were filled
  abbrev pub filled_sum : (C → ℕ) → Plan C → ℕ → ℕ
  filled_sum f plan serial = sum_by f (slice_index_or plan.past.filled serial [])

  -- behind the last one only these replaced generations stand, at most three, each of which was
  -- swept with open pins
  pub record HoldsOnly (plan : Plan C) : Type 0 where
    pub held : List ℕ
    pub each : AllByRecursion (SawOpen plan.sweeps (count_of plan - 1)) held
    pub low : AllByRecursion (λ serial. serial < count_of plan) held
    pub apart : IsDistinct nat_eq held
    pub three : length held ≤ 3
    pub sum : (f : C → ℕ) → standing f plan
        ≡ filled_sum f plan (count_of plan - 1) + sum_by (filled_sum f plan) held
