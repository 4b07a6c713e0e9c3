-- What an operator could note of each generation, and that each is retired once, after its last
-- pin. This server's own rule.
use Rattle.std.specs.Prelude.{◌≡◌, ℕ, ◌+◌, ◌<◌, ◌≤◌, Bool, true, false, not, ◌&&◌, ◌==◌, List, [], ◌∷◌, ◌++◌, Option, None, Some, count_by, nat_lt, if◌then◌else◌}
use Rattle.pin_core.specs.declared.slots.TheConstants.{SLOTS}
use Rattle.pin_core.specs.declared.slots.Phase.{Phase}
use Rattle.pin_core.specs.declared.slots.Phase.TheVariants.{Free, Filling, Current, Replaced}
use Rattle.pin_core.specs.declared.steps.PinStep.{PinStep}
use Rattle.pin_core.specs.declared.steps.PinStep.TheVariants.{Fill, Publish, Pin, Unpin, Sweep, Drain}
use Rattle.pin_core.specs.declared.steps.PinReply.{PinReply}
use Rattle.pin_core.specs.declared.steps.PinReply.TheVariants.{Done, Pinned, NotYet, Ready, Unlawful}
use Rattle.pin_core.specs.Slots.{is_marked}
use Rattle.pin_core.specs.Machine.{Machine, start, after, slot_at, worker_at, count}

-- what happened to a generation, by its serial
pub data Event : Type 0 where
  -- the slot and the serial
  was_published : ℕ → ℕ → Event
  -- the serial that the pin got
  was_pinned : ℕ → Event
  -- the serial whose pin ended
  was_unpinned : ℕ → Event
  -- the slot, the serial in it, and the worker
  was_drained : ℕ → ℕ → ℕ → Event

-- the serial that was last published in a slot, 0 before the first: the events begin with the last
-- one
abbrev pub serial_in : ℕ → List Event → ℕ
serial_in slot [] = 0
serial_in slot (was_published at serial ∷ events) =
    if at == slot then serial else serial_in slot events
serial_in slot (was_pinned serial ∷ events) = serial_in slot events
serial_in slot (was_unpinned serial ∷ events) = serial_in slot events
serial_in slot (was_drained at serial worker ∷ events) = serial_in slot events

-- the serial of an open pin
abbrev pub pin_serial : List Event → Option ℕ → ℕ
pin_serial events None = 0
pin_serial events (Some slot) = serial_in slot events

-- the event, where the step was made
abbrev pub if_done : PinReply → Event → List Event
if_done Done event = event ∷ []
if_done (Pinned slot serial) event = []
if_done (NotYet ended total) event = []
if_done Ready event = []
if_done Unlawful event = []

-- the event of a pin that was made
abbrev pub if_pinned : PinReply → List Event
if_pinned Done = []
if_pinned (Pinned slot serial) = was_pinned serial ∷ []
if_pinned (NotYet ended total) = []
if_pinned Ready = []
if_pinned Unlawful = []

-- the event of a step with this reply, if it is one
abbrev pub event_of : Machine → List Event → PinStep → PinReply → List Event
event_of m events (Fill slot worker) reply = []
event_of m events (Publish slot) reply = if_done reply (was_published slot m.published)
event_of m events (Pin worker) reply = if_pinned reply
event_of m events (Unpin worker) reply =
    if_done reply (was_unpinned (pin_serial events (worker_at m worker).held))
event_of m events (Sweep slot) reply = []
event_of m events (Drain slot worker) reply =
    if_done reply (was_drained slot (serial_in slot events) worker)

-- the machine, and the events that led to it, the last one first
pub record Log : Type 0 where
  pub machine : Machine
  pub events : List Event

-- the log behind one step
abbrev pub step_log : Log → PinStep → Log
step_log log step = record {
  machine = (after log.machine step).0;
  events = event_of log.machine log.events step (after log.machine step).1 ++ log.events;
}

-- the log behind a list of steps
abbrev pub run_log : Log → List PinStep → Log
run_log log [] = log
run_log log (step ∷ steps) = run_log (step_log log step) steps

-- the log of a list of steps from the start
abbrev pub log_of : ℕ → List PinStep → Log
log_of workers steps = run_log (record { machine = start workers; events = [] }) steps

-- a pin of this generation
abbrev pub is_pin_of : ℕ → Event → Bool
is_pin_of serial (was_published slot n) = false
is_pin_of serial (was_pinned n) = n == serial
is_pin_of serial (was_unpinned n) = false
is_pin_of serial (was_drained slot n worker) = false

-- the end of a pin of this generation
abbrev pub is_unpin_of : ℕ → Event → Bool
is_unpin_of serial (was_published slot n) = false
is_unpin_of serial (was_pinned n) = false
is_unpin_of serial (was_unpinned n) = n == serial
is_unpin_of serial (was_drained slot n worker) = false

-- a drain of this generation for this worker
abbrev pub is_drain_of : ℕ → ℕ → Event → Bool
is_drain_of serial worker (was_published slot n) = false
is_drain_of serial worker (was_pinned n) = false
is_drain_of serial worker (was_unpinned n) = false
is_drain_of serial worker (was_drained slot n w) = n == serial && w == worker

-- a drain of this slot for this worker
abbrev pub is_drain_in : ℕ → ℕ → Event → Bool
is_drain_in slot worker (was_published s n) = false
is_drain_in slot worker (was_pinned n) = false
is_drain_in slot worker (was_unpinned n) = false
is_drain_in slot worker (was_drained s n w) = s == slot && w == worker

-- the publication of this generation
abbrev pub is_publication_of : ℕ → Event → Bool
is_publication_of serial (was_published slot n) = n == serial
is_publication_of serial (was_pinned n) = false
is_publication_of serial (was_unpinned n) = false
is_publication_of serial (was_drained slot n worker) = false

-- a publication in this slot
abbrev pub is_publication_in : ℕ → Event → Bool
is_publication_in slot (was_published s n) = s == slot
is_publication_in slot (was_pinned n) = false
is_publication_in slot (was_unpinned n) = false
is_publication_in slot (was_drained s n w) = false

-- how often a generation was pinned
abbrev pub pins : ℕ → List Event → ℕ
pins serial events = count_by (is_pin_of serial) events

-- how many of its pins have ended
abbrev pub unpins : ℕ → List Event → ℕ
unpins serial events = count_by (is_unpin_of serial) events

-- how often it was drained for a worker
abbrev pub drains : ℕ → ℕ → List Event → ℕ
drains serial worker events = count_by (is_drain_of serial worker) events

-- how often a slot was drained for a worker
abbrev pub drains_in : ℕ → ℕ → List Event → ℕ
drains_in slot worker events = count_by (is_drain_in slot worker) events

-- how often a generation was published
abbrev pub publications : ℕ → List Event → ℕ
publications serial events = count_by (is_publication_of serial) events

-- how often something was published in a slot
abbrev pub publications_in : ℕ → List Event → ℕ
publications_in slot events = count_by (is_publication_in slot) events

-- whether the slot has a published generation that isn't drained for this worker
abbrev pub is_undrained : ℕ → Phase → Bool
is_undrained worker Free = false
is_undrained worker (Filling marks) = false
is_undrained worker (Current pins) = true
is_undrained worker (Replaced total ready drained) = not (is_marked worker drained)

-- each generation is retired at most once, after its last pin
pub record RetiresOnce (log : Log) : Type 0 where
  -- it is published once, as one of the serials from 0 on
  pub published : (serial : ℕ)
      → publications serial log.events ≡ (if nat_lt serial log.machine.published then 1 else 0)
  -- it is drained at most once for each worker
  pub once : (serial worker : ℕ) → drains serial worker log.events ≤ 1
  -- once it is drained for some worker, each of its pins has ended, and so none comes again
  pub ended : (serial worker : ℕ) → 0 < drains serial worker log.events
      → pins serial log.events ≡ unpins serial log.events
  -- and a later generation is published
  pub replaced : (serial worker : ℕ) → 0 < drains serial worker log.events
      → serial + 1 < log.machine.published
  -- for each worker a slot was drained as often as it was published, but for the generation in it
  -- that isn't drained yet
  pub each : (slot worker : ℕ) → slot < SLOTS → worker < count log.machine
      → drains_in slot worker log.events + (if is_undrained worker (slot_at log.machine slot).phase
      then 1 else 0) ≡ publications_in slot log.events
