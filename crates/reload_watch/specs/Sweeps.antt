-- The sweeps by which a look found that no slot was free. This server's own rule.
use Rattle.std.specs.Prelude.{◌≡◌, ◌≢◌, ◌<◌, ◌⊎◌, ℕ, ◌-◌, List, [], ◌∷◌}
use Rattle.pin_table.specs.declared.free_slots.Left.{Left}
use Rattle.pin_table.specs.declared.views.Sweep.{Sweep}
use Rattle.run_meaning.specs.declared.looking.Looking.{Looking}
use Rattle.run_meaning.specs.declared.looking.Looking.TheVariants as looking

-- one of these sweeps saw of a serial as many pins ended of as many, while another was the last
-- published
abbrev pub HasSwept : List Sweep → ℕ → ℕ → Left → Type 0
HasSwept [] last serial left = ⊥
HasSwept (sweep ∷ sweeps) last serial left =
    ((sweep.last ≡ last) × (sweep.serial ≡ serial) × (sweep.ended ≡ left.ended)
    × (sweep.total ≡ left.total))
    ⊎ HasSwept sweeps last serial left

-- what one of the earlier sweeps saw, one of the later saw
abbrev pub KeepsSweeps : List Sweep → List Sweep → Type 0
KeepsSweeps before after =
    (last serial : ℕ) (left : Left) → HasSwept before last serial left
    → HasSwept after last serial left

-- three slots were swept, each of which had open pins, of different serials, behind so many
-- published generations
pub record SweptThree (sweeps : List Sweep) (published : ℕ) (first second third : Left)
    : Type 0 where
  pub order : (first.slot < second.slot) × (second.slot < third.slot)
  pub a : ℕ
  pub b : ℕ
  pub c : ℕ
  pub apart : (a ≢ b) × (b ≢ c) × (a ≢ c)
  pub one : HasSwept sweeps (published - 1) a first
  pub two : HasSwept sweeps (published - 1) b second
  pub three : HasSwept sweeps (published - 1) c third

-- where a look found no free slot, these sweeps say so
abbrev pub SweptFor : List Sweep → ℕ → Looking → Type 0
SweptFor sweeps published (looking.AllPinned first second third) =
    SweptThree sweeps published first second third
SweptFor sweeps published answer = Unit {0}
