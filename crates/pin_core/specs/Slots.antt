-- One slot, from its first filled worker to its last drained one, and what a step makes of it. This
-- server's own rule.
use Rattle.std.specs.Prelude.{ℕ, ◌+◌, Bool, true, false, not, ◌&&◌, List, take, replicate, slice_index_or, slice_set, if◌then◌else◌}
use Rattle.std.specs.List.{list_all}
use Rattle.pin_core.specs.declared.slots.TheConstants.{WORKERS}
use Rattle.pin_core.specs.declared.slots.Slot.{Slot}
use Rattle.pin_core.specs.declared.slots.Phase.{Phase}
use Rattle.pin_core.specs.declared.slots.Phase.TheVariants.{Free, Filling, Current, Replaced}

-- no worker is marked
abbrev pub no_marks : List Bool
no_marks = replicate WORKERS false

-- whether this worker is marked
abbrev pub is_marked : ℕ → List Bool → Bool
is_marked worker marks = slice_index_or marks worker false

-- the marks with this worker's besides
abbrev pub with_mark : ℕ → List Bool → List Bool
with_mark worker marks = slice_set marks worker true

-- whether each of so many workers is marked
abbrev pub is_all : ℕ → List Bool → Bool
is_all workers marks = list_all (λ mark. mark) (take workers marks)

-- whether the slot is free
abbrev pub is_free : Phase → Bool
is_free Free = true
is_free (Filling marks) = false
is_free (Current pins) = false
is_free (Replaced total ready drained) = false

-- whether the slot's generation is the current one
abbrev pub is_current : Phase → Bool
is_current Free = false
is_current (Filling marks) = false
is_current (Current pins) = true
is_current (Replaced total ready drained) = false

-- whether the slot's generation was replaced
abbrev pub is_replaced : Phase → Bool
is_replaced Free = false
is_replaced (Filling marks) = false
is_replaced (Current pins) = false
is_replaced (Replaced total ready drained) = true

-- whether the slot can be filled for this worker
abbrev pub lacks : ℕ → Phase → Bool
lacks worker Free = true
lacks worker (Filling marks) = not (is_marked worker marks)
lacks worker (Current pins) = false
lacks worker (Replaced total ready drained) = false

-- whether the slot is filled for so many workers
abbrev pub is_filled : ℕ → Phase → Bool
is_filled workers Free = false
is_filled workers (Filling marks) = is_all workers marks
is_filled workers (Current pins) = false
is_filled workers (Replaced total ready drained) = false

-- whether the slot can be drained for this worker
abbrev pub is_drainable : ℕ → Phase → Bool
is_drainable worker Free = false
is_drainable worker (Filling marks) = false
is_drainable worker (Current pins) = false
is_drainable worker (Replaced total ready drained) = ready && not (is_marked worker drained)

-- the pins that a slot with this base had so far
abbrev pub due_by : ℕ → Phase → ℕ
due_by base Free = base
due_by base (Filling marks) = base
due_by base (Current pins) = base + pins
due_by base (Replaced total ready drained) = total

-- the pins that the slot had so far: base, base plus pins where it is current, total where it was
-- replaced
abbrev pub due : Slot → ℕ
due x = due_by x.base x.phase

-- the slot in another phase
abbrev pub with_phase : Slot → Phase → Slot
with_phase x phase = record { base = x.base; ended = x.ended; phase = phase }

-- filled for one worker more
abbrev pub filled_phase : ℕ → Phase → Phase
filled_phase worker Free = Filling (with_mark worker no_marks)
filled_phase worker (Filling marks) = Filling (with_mark worker marks)
filled_phase worker (Current pins) = Current pins
filled_phase worker (Replaced total ready drained) = Replaced total ready drained

-- the slot, filled for one worker more
abbrev pub filled_slot : ℕ → Slot → Slot
filled_slot worker x = with_phase x (filled_phase worker x.phase)

-- a current slot becomes replaced, with no sweep and no drain so far; each other one stays
abbrev pub replaced_phase : ℕ → Phase → Phase
replaced_phase base Free = Free
replaced_phase base (Filling marks) = Filling marks
replaced_phase base (Current pins) = Replaced (base + pins) false no_marks
replaced_phase base (Replaced total ready drained) = Replaced total ready drained

-- the slot at another one's publication
abbrev pub replaced_slot : Slot → Slot
replaced_slot x = with_phase x (replaced_phase x.base x.phase)

-- the slot at its own publication
abbrev pub published_slot : Slot → Slot
published_slot x = with_phase x (Current 0)

-- a pin more on a current slot
abbrev pub pinned_phase : Phase → Phase
pinned_phase Free = Free
pinned_phase (Filling marks) = Filling marks
pinned_phase (Current pins) = Current (pins + 1)
pinned_phase (Replaced total ready drained) = Replaced total ready drained

-- the slot with a pin more
abbrev pub pinned_slot : Slot → Slot
pinned_slot x = with_phase x (pinned_phase x.phase)

-- the slot with a pin less open
abbrev pub unpinned_slot : Slot → Slot
unpinned_slot x = record { base = x.base; ended = x.ended + 1; phase = x.phase }

-- a replaced slot, all of whose pins a sweep saw ended
abbrev pub ready_phase : Phase → Phase
ready_phase Free = Free
ready_phase (Filling marks) = Filling marks
ready_phase (Current pins) = Current pins
ready_phase (Replaced total ready drained) = Replaced total true drained

-- the slot once a sweep saw its pins ended
abbrev pub ready_slot : Slot → Slot
ready_slot x = with_phase x (ready_phase x.phase)

-- a replaced slot with these marks of drained workers: free where each is drained, its base then
-- what ended
abbrev pub drained_to : ℕ → Slot → ℕ → Bool → List Bool → Slot
drained_to workers x total ready drained =
    if is_all workers drained then record { base = x.ended; ended = x.ended; phase = Free } else
    with_phase x (Replaced total ready drained)

-- the slot in its phase, drained for one worker more
abbrev pub drained_by : ℕ → ℕ → Slot → Phase → Slot
drained_by workers worker x Free = x
drained_by workers worker x (Filling marks) = x
drained_by workers worker x (Current pins) = x
drained_by workers worker x (Replaced total ready drained) =
    drained_to workers x total ready (with_mark worker drained)

-- the slot, drained for one worker more
abbrev pub drained_slot : ℕ → ℕ → Slot → Slot
drained_slot workers worker x = drained_by workers worker x x.phase
