-- In which slots the generations stand that the table still has. This server's own rule.
use Rattle.std.specs.Prelude.{◌≡◌, ◌<◌, ℕ, ◌+◌, true, false, length, slice_index_or}
use Rattle.pin_core.specs.declared.slots.TheConstants.{SLOTS}
use Rattle.pin_core.specs.Slots.{is_current, is_free}
use Rattle.pin_table.specs.declared.views.Plan.{Plan}
use Rattle.pin_table.specs.{count_of, plan_slot}
use Rattle.pin_table.specs.Known.{serial_at}

-- some slot has the generation that was published last
pub record IsFronted {C : Type 0} (plan : Plan C) : Type 0 where
  pub front : ℕ
  pub low : front < SLOTS
  pub current : is_current (plan_slot plan front).phase ≡ true
  pub last : serial_at plan.past.serials front + 1 ≡ count_of plan

-- a slot that isn't free is the one in which its serial was published, so no two have one serial
pub record IsPlaced {C : Type 0} (plan : Plan C) : Type 0 where
  pub each_serial : length plan.past.serials ≡ SLOTS
  pub each_slot : length plan.slots ≡ SLOTS
  pub placed : (slot : ℕ) → slot < SLOTS → is_free (plan_slot plan slot).phase ≡ false
      → (serial_at plan.past.serials slot < count_of plan)
      × (slice_index_or plan.past.published (serial_at plan.past.serials slot) SLOTS ≡ slot)
  pub fronted : IsFronted plan
