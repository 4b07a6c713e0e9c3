-- What other crates may cite of the machine. The proofs stand in Laws/.
use Rattle.std.specs.Prelude.{◌≡◌, ℕ, ◌-◌, ◌^◌, ◌<◌, ◌≤◌, true, Option, Some, None, List}
use Rattle.pin_core.specs.declared.slots.TheConstants.{MOST_PINS, MOST_SERIALS, SLOTS, WORKERS}
use Rattle.pin_core.specs.declared.slots.Slot.{Slot}
use Rattle.pin_core.specs.declared.steps.PinStep.{PinStep}
use Rattle.pin_core.specs.declared.steps.PinStep.TheVariants.{Fill, Publish, Pin, Unpin, Sweep, Drain}
use Rattle.pin_core.specs.declared.steps.PinReply.TheVariants.{Done, Pinned, NotYet, Ready, Unlawful}
use Rattle.pin_core.specs.Slots.{lacks, is_filled, is_current, is_replaced, is_drainable, due, filled_slot, ready_slot, drained_slot}
use Rattle.pin_core.specs.Machine.{Machine, After, DrainsIdle, IsSound, slot_at, worker_at, count, current, opens, with_slot, published_at, pinned_at, unpinned_at, start, after, run}
use Rattle.pin_core.specs.Rows.{Rows}
use Rattle.pin_core.specs.Log.{Log, run_log, log_of, RetiresOnce}
use Rattle.pin_core.specs.Laws.RowLemmas as rows
use Rattle.pin_core.specs.Laws.SoundLemmas as sound
use Rattle.pin_core.specs.Laws.LogLemmas as log
mod LogLemmas
mod PlacedLemmas
mod RowLemmas
mod SoundLemmas

-- what holds in each row of the table holds of each step
pub by_rows : (m : Machine) (P : PinStep → After → Type 0) → Rows m P → (step : PinStep)
    → P step (after m step)
by_rows = rows.by_rows

-- a step that isn't lawful changes nothing
pub unlawful_same : (m : Machine) (step : PinStep) → (after m step).1 ≡ Unlawful → (after m step).0 ≡ m
unlawful_same = rows.unlawful_same

-- the row Fill
pub after-Fill : (m : Machine) (s w : ℕ) → s < SLOTS → w < count m → lacks w (slot_at m s).phase ≡ true
    → after m (Fill s w) ≡ (with_slot m s (filled_slot w (slot_at m s)), Done)
after-Fill = rows.after-Fill

-- the row Publish
pub after-Publish : (m : Machine) (s : ℕ) → s < SLOTS → m.published < MOST_SERIALS → is_filled (count m) (slot_at m s).phase ≡ true
    → after m (Publish s) ≡ (published_at m s, Done)
after-Publish = rows.after-Publish

-- the row Pin
pub after-Pin : (m : Machine) (w : ℕ) → 0 < m.published → w < count m → (worker_at m w).held ≡ None → (worker_at m w).pins < MOST_PINS
    → after m (Pin w) ≡ (pinned_at m (current m) w, Pinned (current m) (m.published - 1))
after-Pin = rows.after-Pin

-- the row Unpin
pub after-Unpin : (m : Machine) (s w : ℕ) → w < count m → (worker_at m w).held ≡ Some s
    → after m (Unpin w) ≡ (unpinned_at m s w, Done)
after-Unpin = rows.after-Unpin

-- the row Sweep, while a pin is open
pub after-Sweep_not_yet : (m : Machine) (s : ℕ) → s < SLOTS → is_replaced (slot_at m s).phase ≡ true → (slot_at m s).ended < due (slot_at m s)
    → after m (Sweep s) ≡ (m, NotYet (slot_at m s).ended (due (slot_at m s)))
after-Sweep_not_yet = rows.after-Sweep_not_yet

-- the row Sweep, where all pins have ended
pub after-Sweep_ready : (m : Machine) (s : ℕ) → s < SLOTS → is_replaced (slot_at m s).phase ≡ true → due (slot_at m s) ≤ (slot_at m s).ended
    → after m (Sweep s) ≡ (with_slot m s (ready_slot (slot_at m s)), Ready)
after-Sweep_ready = rows.after-Sweep_ready

-- the row Drain
pub after-Drain : (m : Machine) (s w : ℕ) → s < SLOTS → w < count m → is_drainable w (slot_at m s).phase ≡ true
    → after m (Drain s w) ≡ (with_slot m s (drained_slot (count m) w (slot_at m s)), Done)
after-Drain = rows.after-Drain

-- the number of workers stays
pub count-run : (m : Machine) (steps : List PinStep) → count (run m steps) ≡ count m
count-run = rows.count-run

-- the start is sound
pub sound_start : (n : ℕ) → 0 < n → n ≤ WORKERS → IsSound (start n)
sound_start = sound.sound_start

-- each step keeps the machine sound
pub sound_after : (m : Machine) (step : PinStep) → IsSound m → IsSound (after m step).0
sound_after = sound.sound_after

-- each list of steps keeps the machine sound
pub sound_run : (m : Machine) (steps : List PinStep) → IsSound m → IsSound (run m steps)
sound_run = sound.sound_run

-- the row Fill keeps the machine sound
pub sound_fill : (m : Machine) (s w : ℕ) → IsSound m → s < SLOTS → lacks w (slot_at m s).phase ≡ true
    → IsSound (with_slot m s (filled_slot w (slot_at m s)))
sound_fill = sound.sound_fill

-- the row Publish
pub sound_publish : (m : Machine) (s : ℕ) → IsSound m → s < SLOTS → m.published < MOST_SERIALS → is_filled (count m) (slot_at m s).phase ≡ true
    → IsSound (published_at m s)
sound_publish = sound.sound_publish

-- the row Pin
pub sound_pin : (m : Machine) (s w : ℕ) → IsSound m → s < SLOTS → w < count m → is_current (slot_at m s).phase ≡ true → (worker_at m w).held ≡ None → (worker_at m w).pins < MOST_PINS
    → IsSound (pinned_at m s w)
sound_pin = sound.sound_pin

-- the row Unpin
pub sound_unpin : (m : Machine) (s w : ℕ) → IsSound m → w < count m → (worker_at m w).held ≡ Some s
    → IsSound (unpinned_at m s w)
sound_unpin = sound.sound_unpin

-- the row Sweep, where all pins have ended
pub sound_ready : (m : Machine) (s : ℕ) → IsSound m → s < SLOTS → is_replaced (slot_at m s).phase ≡ true → due (slot_at m s) ≤ (slot_at m s).ended
    → IsSound (with_slot m s (ready_slot (slot_at m s)))
sound_ready = sound.sound_ready

-- the row Drain
pub sound_drain : (m : Machine) (s w : ℕ) → IsSound m → s < SLOTS → is_drainable w (slot_at m s).phase ≡ true
    → IsSound (with_slot m s (drained_slot (count m) w (slot_at m s)))
sound_drain = sound.sound_drain

-- once something is published, the current slot is one of the four, and its generation the current one
pub current_within : (m : Machine) → IsSound m → 0 < m.published
    → (current m < SLOTS) × (is_current (slot_at m (current m)).phase ≡ true)
current_within = sound.current_within

-- no slot but the current one is current
pub current_is : (m : Machine) (s : ℕ) → IsSound m → s < SLOTS → is_current (slot_at m s).phase ≡ true
    → current m ≡ s
current_is = sound.current_is

-- a slot that can be published has no open pin
pub idle_filled : (m : Machine) (s : ℕ) → IsSound m → s < SLOTS → is_filled (count m) (slot_at m s).phase ≡ true
    → opens m s ≡ 0
idle_filled = sound.idle_filled

-- a slot that can be drained has no open pin
pub idle_drainable : (m : Machine) (s w : ℕ) → IsSound m → s < SLOTS → is_drainable w (slot_at m s).phase ≡ true
    → opens m s ≡ 0
idle_drainable = sound.idle_drainable

-- a slot has no open pin where a drain of it is made
pub idle_drain : (m : Machine) → IsSound m → DrainsIdle m
idle_drain = sound.idle_drain

-- the log of a list of steps has the machine behind them
pub machine-run_log : (l : Log) (steps : List PinStep) → (run_log l steps).machine ≡ run l.machine steps
machine-run_log = log.machine-run_log

-- the log of every list of steps from the start retires each generation once
pub retires_once : (n : ℕ) (steps : List PinStep) → 0 < n → n ≤ WORKERS → RetiresOnce (log_of n steps)
retires_once = log.retires_once
