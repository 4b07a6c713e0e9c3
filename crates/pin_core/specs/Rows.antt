-- The table of the machine's steps, row by row, each with what is known where it is lawful. This
-- server's own rule.
use Rattle.std.specs.Prelude.{◌≡◌, ℕ, ◌-◌, ◌<◌, ◌≤◌, true, None, Some}
use Rattle.pin_core.specs.declared.slots.TheConstants.{MOST_PINS, MOST_SERIALS, SLOTS}
use Rattle.pin_core.specs.declared.steps.PinStep.{PinStep}
use Rattle.pin_core.specs.declared.steps.PinStep.TheVariants.{Fill, Publish, Pin, Unpin, Sweep, Drain}
use Rattle.pin_core.specs.declared.steps.PinReply.TheVariants.{Done, Pinned, NotYet, Ready}
use Rattle.pin_core.specs.Slots.{is_replaced, lacks, is_filled, is_drainable, due, filled_slot, ready_slot, drained_slot}
use Rattle.pin_core.specs.Machine.{Machine, After, slot_at, worker_at, count, current, with_slot, published_at, pinned_at, unpinned_at, unlawful}

-- P in each row of the table, and where no row is lawful
pub record Rows (m : Machine) (P : PinStep → After → Type 0) : Type 0 where
  pub fill : (s w : ℕ) → s < SLOTS → w < count m → lacks w (slot_at m s).phase ≡ true
      → P (Fill s w) (with_slot m s (filled_slot w (slot_at m s)), Done)
  pub publish : (s : ℕ) → s < SLOTS → m.published < MOST_SERIALS
      → is_filled (count m) (slot_at m s).phase ≡ true → P (Publish s) (published_at m s, Done)
  pub pin : (w : ℕ) → 0 < m.published → w < count m → (worker_at m w).held ≡ None
      → (worker_at m w).pins < MOST_PINS
      → P (Pin w) (pinned_at m (current m) w, Pinned (current m) (m.published - 1))
  pub unpin : (s w : ℕ) → w < count m → (worker_at m w).held ≡ Some s
      → P (Unpin w) (unpinned_at m s w, Done)
  pub not_yet : (s : ℕ) → s < SLOTS → is_replaced (slot_at m s).phase ≡ true
      → (slot_at m s).ended < due (slot_at m s)
      → P (Sweep s) (m, NotYet (slot_at m s).ended (due (slot_at m s)))
  pub ready : (s : ℕ) → s < SLOTS → is_replaced (slot_at m s).phase ≡ true
      → due (slot_at m s) ≤ (slot_at m s).ended
      → P (Sweep s) (with_slot m s (ready_slot (slot_at m s)), Ready)
  pub drain : (s w : ℕ) → s < SLOTS → w < count m → is_drainable w (slot_at m s).phase ≡ true
      → P (Drain s w) (with_slot m s (drained_slot (count m) w (slot_at m s)), Done)
  pub refused : (step : PinStep) → P step (unlawful m)
