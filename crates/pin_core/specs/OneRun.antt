-- One run of the machine of pins that has just the pins that each side tells, and the
-- publications of the watch. This server's own rule.
use Rattle.std.specs.Prelude.{◌≡◌, ◌≢◌, ◌<◌, ◌≤◌, ℕ, ◌==◌, List, [], ◌∷◌, ◌++◌, length}
use Rattle.std.specs.Prelude.{slice_index_or}
use Rattle.std.specs.Prelude.{if◌then◌else◌}
use Rattle.pin_core.specs.declared.slots.TheConstants.{MOST_PINS}
use Rattle.pin_core.specs.declared.steps.PinStep.{PinStep}
use Rattle.pin_core.specs.declared.steps.PinStep.TheVariants.{Pin, Unpin}
use Rattle.pin_core.specs.declared.steps.PinReply.{PinReply}
use Rattle.pin_core.specs.declared.steps.PinReply.TheVariants.{Done, Pinned, NotYet, Ready}
use Rattle.pin_core.specs.declared.steps.PinReply.TheVariants.{Unlawful}
use Rattle.pin_core.specs.Machine.{Machine, after, run, start}

-- a mark of a side's pins
pub data PinMark : Type 0 where
  pinned : ℕ → PinMark
  unpinned : ℕ → PinMark

-- the serial that a reply tells, and else this one
abbrev pub serial_by : PinReply → ℕ → ℕ
serial_by Done last = last
serial_by (Pinned slot serial) last = serial
serial_by (NotYet ended total) last = last
serial_by Ready last = last
serial_by Unlawful last = last

-- the serial of the last pin of a worker behind a step with this reply
abbrev pub last_by : ℕ → PinStep → PinReply → ℕ → ℕ
last_by worker (Pin w) reply last = if w == worker then serial_by reply last else last
last_by worker step reply last = last

-- the serial of the last pin of a worker behind a run from a machine on, and this one before its
-- first
abbrev pub last_of : ℕ → ℕ → Machine → List PinStep → ℕ
last_of worker last m [] = last
last_of worker last m (step ∷ steps) =
    last_of worker (last_by worker step (after m step).1 last) (after m step).0 steps

-- what a step tells of a worker's pins: its serial, and that of its last pin where it ends
abbrev pub told_step : ℕ → PinStep → PinReply → ℕ → List PinMark
told_step worker (Pin w) reply last =
    if w == worker then pinned (serial_by reply last) ∷ [] else []
told_step worker (Unpin w) reply last = if w == worker then unpinned last ∷ [] else []
told_step worker step reply last = []

-- the pins of a worker in a run from a machine on, in order
abbrev pub told_by : ℕ → ℕ → Machine → List PinStep → List PinMark
told_by worker last m [] = []
told_by worker last m (step ∷ steps) =
    told_step worker step (after m step).1 last
    ++ told_by worker (last_by worker step (after m step).1 last) (after m step).0 steps

-- each step is lawful
abbrev pub AreLawful : Machine → List PinStep → Type 0
AreLawful m [] = Unit {0}
AreLawful m (step ∷ steps) = ((after m step).1 ≢ Unlawful) × AreLawful (after m step).0 steps

-- One run has, as the Pin and Unpin steps of each worker, its side's marks in order, and as many
-- Publish steps as the watch told, whose serials count up from 0
pub record OnePinRun (workers published : ℕ) (sides : List (List PinMark)) : Type 0 where
  pub steps : List PinStep
  pub lawful : AreLawful (start workers) steps
  pub pins : (worker : ℕ) → told_by worker 0 (start workers) steps
      ≡ slice_index_or sides worker []
  pub count : (run (start workers) steps).published ≡ published

-- the numbers never fall, from this one on, and are below a bound
abbrev pub RisesTo : ℕ → ℕ → List ℕ → Type 0
RisesTo bound from [] = Unit {0}
RisesTo bound from (x ∷ xs) = (from ≤ x) × (x < bound) × RisesTo bound x xs

-- the marks of pins of these serials, each of which ends before the next
abbrev pub pin_marks : List ℕ → List PinMark
pin_marks [] = []
pin_marks (x ∷ xs) = pinned x ∷ unpinned x ∷ pin_marks xs

-- the serials that each side pinned, one list for each worker
abbrev pub ArePinned : ℕ → List (List ℕ) → Type 0
ArePinned published [] = Unit {0}
ArePinned published (xs ∷ others) =
    RisesTo published 0 xs × (length xs ≤ MOST_PINS) × ArePinned published others
