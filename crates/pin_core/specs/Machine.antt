-- The machine of pins and its six steps, and what holds of it after any of them. This server's own
-- rule.
use Rattle.std.specs.Prelude.{◌≡◌, ℕ, ◌+◌, ◌-◌, ◌^◌, ◌<◌, ◌≤◌, Bool, true, false, ◌&&◌, ◌==◌, not, Option, Some, None, List, [], ◌∷◌, All, length, map, replicate, slice_index_or, slice_set, sum_by, count_by, if◌then◌else◌, nat_lt}
use Rattle.std.specs.List.{position_or_len}
use Rattle.std.specs.Option.{is_some}
use Rattle.pin_core.specs.declared.slots.TheConstants.{MOST_PINS, MOST_SERIALS, SLOTS, WORKERS}
use Rattle.pin_core.specs.declared.slots.Slot.{Slot}
use Rattle.pin_core.specs.declared.slots.Phase.{Phase}
use Rattle.pin_core.specs.declared.slots.Phase.TheVariants.{Free, Filling, Current, Replaced}
use Rattle.pin_core.specs.declared.slots.PinWorker.{PinWorker}
use Rattle.pin_core.specs.declared.steps.PinStep.{PinStep}
use Rattle.pin_core.specs.declared.steps.PinStep.TheVariants.{Fill, Publish, Pin, Unpin, Sweep, Drain}
use Rattle.pin_core.specs.declared.steps.PinReply.{PinReply}
use Rattle.pin_core.specs.declared.steps.PinReply.TheVariants.{Done, Pinned, NotYet, Ready, Unlawful}
use Rattle.pin_core.specs.Slots.{is_current, is_replaced, lacks, is_filled, is_drainable, due, filled_slot, replaced_slot, published_slot, pinned_slot, unpinned_slot, ready_slot, drained_slot}

-- how many generations were published, the four slots, and the workers
pub record Machine : Type 0 where
  pub published : ℕ
  pub slots : List Slot
  pub workers : List PinWorker

-- a slot that no generation has had
abbrev pub unused : Slot
unused = record { base = 0; ended = 0; phase = Free }

-- a worker that has made no pin
abbrev pub idle : PinWorker
idle = record { held = None; pins = 0 }

-- so many workers, all slots free, and nothing published
abbrev pub start : ℕ → Machine
start workers =
    record { published = 0; slots = replicate SLOTS unused; workers = replicate workers idle }

-- the slot of this number
abbrev pub slot_at : Machine → ℕ → Slot
slot_at m s = slice_index_or m.slots s unused

-- the worker of this number
abbrev pub worker_at : Machine → ℕ → PinWorker
worker_at m w = slice_index_or m.workers w idle

-- how many workers there are
abbrev pub count : Machine → ℕ
count m = length m.workers

-- the number of the current slot
abbrev pub current : Machine → ℕ
current m = position_or_len (λ x. is_current x.phase) m.slots

-- the machine with another slot of this number
abbrev pub with_slot : Machine → ℕ → Slot → Machine
with_slot m s x =
    record { published = m.published; slots = slice_set m.slots s x; workers = m.workers }

-- the machine with another worker of this number
abbrev pub with_worker : Machine → ℕ → PinWorker → Machine
with_worker m w x =
    record { published = m.published; slots = m.slots; workers = slice_set m.workers w x }

-- this slot's generation is current, and the one that was is replaced
abbrev pub published_at : Machine → ℕ → Machine
published_at m s =
    record {
      published = m.published + 1;
      slots = slice_set (map replaced_slot m.slots) s
          (published_slot (slot_at m s));
      workers = m.workers;
    }

-- a pin more of this slot and worker, the worker's open one
abbrev pub pinned_at : Machine → ℕ → ℕ → Machine
pinned_at m s w =
    with_worker (with_slot m s (pinned_slot (slot_at m s))) w
    (record { held = Some s; pins = (worker_at m w).pins + 1 })

-- the worker's open pin, on this slot, has ended
abbrev pub unpinned_at : Machine → ℕ → ℕ → Machine
unpinned_at m s w =
    with_worker (with_slot m s (unpinned_slot (slot_at m s))) w
    (record { held = None; pins = (worker_at m w).pins })

-- the machine behind a step, and the reply
abbrev pub After : Type 0
After = Machine × PinReply

-- a step that isn't lawful changes nothing
abbrev pub unlawful : Machine → After
unlawful m = (m, Unlawful)

-- lawful where the slot is free or filling and lacks this worker
abbrev pub fill : Machine → ℕ → ℕ → After
fill m s w =
    if nat_lt s SLOTS
    && (nat_lt w (count m) && lacks w (slot_at m s).phase) then
    (with_slot m s (filled_slot w (slot_at m s)), Done)
    else unlawful m

-- lawful where the slot is filled for all workers, and fewer than 2^40 generations are published
abbrev pub publish : Machine → ℕ → After
publish m s =
    if nat_lt s SLOTS
    && (nat_lt m.published MOST_SERIALS && is_filled (count m) (slot_at m s).phase) then
    (published_at m s, Done)
    else unlawful m

-- lawful where something is published, and the worker has no open pin and made fewer than 2^46
abbrev pub pin : Machine → ℕ → After
pin m w =
    if nat_lt 0 m.published
    && (nat_lt w (count m)
    && (not (is_some (worker_at m w).held) && nat_lt (worker_at m w).pins MOST_PINS)) then
    (pinned_at m (current m) w, Pinned (current m) (m.published - 1))
    else unlawful m

-- the row Unpin, by the worker's open pin
abbrev pub unpin_from : Machine → ℕ → Option ℕ → After
unpin_from m w None = unlawful m
unpin_from m w (Some s) = (unpinned_at m s w, Done)

-- lawful where the worker has an open pin
abbrev pub unpin : Machine → ℕ → After
unpin m w = if nat_lt w (count m) then unpin_from m w (worker_at m w).held else unlawful m

-- not yet while a pin is open, else ready
abbrev pub swept : Machine → ℕ → Slot → After
swept m s x =
    if nat_lt x.ended (due x) then (m, NotYet x.ended (due x)) else
    (with_slot m s (ready_slot x), Ready)

-- lawful where the slot's generation was replaced
abbrev pub sweep : Machine → ℕ → After
sweep m s =
    if nat_lt s SLOTS
    && is_replaced (slot_at m s).phase then swept m s (slot_at m s) else unlawful m

-- lawful where the slot's generation was replaced, is ready, and isn't drained for this worker
abbrev pub drain : Machine → ℕ → ℕ → After
drain m s w =
    if nat_lt s SLOTS && (nat_lt w (count m) && is_drainable w (slot_at m s).phase) then
    (with_slot m s (drained_slot (count m) w (slot_at m s)), Done)
    else unlawful m

-- the machine behind one step, and its reply
abbrev pub after : Machine → PinStep → After
after m (Fill s w) = fill m s w
after m (Publish s) = publish m s
after m (Pin w) = pin m w
after m (Unpin w) = unpin m w
after m (Sweep s) = sweep m s
after m (Drain s w) = drain m s w

-- the machine behind a list of steps
abbrev pub run : Machine → List PinStep → Machine
run m [] = m
run m (step ∷ steps) = run (after m step).0 steps

-- whether a pin is on this slot
abbrev pub is_pin_on : ℕ → Option ℕ → Bool
is_pin_on s None = false
is_pin_on s (Some t) = t == s

-- whether the worker's open pin is on this slot
abbrev pub is_open_on : ℕ → PinWorker → Bool
is_open_on s x = is_pin_on s x.held

-- the number of open pins of a slot
abbrev pub opens : Machine → ℕ → ℕ
opens m s = count_by (is_open_on s) m.workers

-- a drain that is made finds no open pin in its slot
abbrev pub DrainsIdle : Machine → Type 0
DrainsIdle m = (slot worker : ℕ) → (after m (Drain slot worker)).1 ≡ Done → opens m slot ≡ 0

-- a pin is on one of the four slots
abbrev pub IsPinWithin : Option ℕ → Type 0
IsPinWithin None = Unit {0}
IsPinWithin (Some s) = s < SLOTS

-- the worker's open pin, if any, is on one of the four slots
abbrev pub IsWithin : PinWorker → Type 0
IsWithin x = IsPinWithin x.held

-- in each phase: a free or filling slot has base equal to ended; ready implies ended equal to total
abbrev pub IsSettledBy : Slot → Phase → Type 0
IsSettledBy x Free = x.base ≡ x.ended
IsSettledBy x (Filling marks) = x.base ≡ x.ended
IsSettledBy x (Current pins) = Unit {0}
IsSettledBy x (Replaced total ready drained) = ready ≡ true → x.ended ≡ total

-- a free or filling slot has base equal to ended; ready implies ended equal to total
abbrev pub IsSettled : Slot → Type 0
IsSettled x = IsSettledBy x x.phase

-- each count of the slot is below 2^52
pub record IsSmall (x : Slot) : Type 0 where
  pub base : x.base < 2 ^ 52
  pub ended : x.ended < 2 ^ 52
  pub due : due x < 2 ^ 52

-- what holds of the machine after every list of steps from the start
pub record IsSound (m : Machine) : Type 0 where
  pub slots : length m.slots ≡ SLOTS
  pub workers : (0 < count m) × (count m ≤ WORKERS)
  pub within : All IsWithin m.workers
  -- for each slot the ended and the open pins are the pins that it had
  pub balanced : (s : ℕ) → s < SLOTS → (slot_at m s).ended + opens m s ≡ due (slot_at m s)
  pub settled : All IsSettled m.slots
  -- the pins of all slots are the pins of all workers
  pub total : sum_by due m.slots ≡ sum_by (λ x. x.pins) m.workers
  pub pins : All (λ x. x.pins ≤ MOST_PINS) m.workers
  pub small : All IsSmall m.slots
  pub serials : m.published ≤ MOST_SERIALS
  -- once something is published exactly one slot is current
  pub one_current : count_by (λ x. is_current x.phase) m.slots
      ≡ (if nat_lt 0 m.published then 1 else 0)
