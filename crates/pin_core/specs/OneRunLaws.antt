-- What other crates may cite of pins as one run of the machine. The proofs stand in OneRunLaws/.
use Rattle.std.specs.Prelude.{◌<◌, ◌≤◌, ℕ, List, length, map}
use Rattle.pin_core.specs.declared.slots.TheConstants.{MOST_SERIALS, WORKERS}
use Rattle.pin_core.specs.OneRun.{ArePinned, OnePinRun, pin_marks}
use Rattle.pin_core.specs.OneRunLaws.Whole as whole
pub mod Further
mod Steps
mod Slots
mod Publications
mod Turns
mod Whole

-- serials that never fall on any side, each below the number published, are the pins of one run
pub one_pin_run : (workers published : ℕ) (serials : List (List ℕ)) → 0 < workers → workers ≤ WORKERS → published ≤ MOST_SERIALS → length serials ≤ workers → ArePinned published serials
    → OnePinRun workers published (map pin_marks serials)
one_pin_run = whole.one_run
