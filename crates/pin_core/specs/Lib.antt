pub mod Laws
pub mod Log
pub mod Machine
pub mod OneRun
pub mod OneRunLaws
pub mod Rows
pub mod Slots
-- what public clauses cite
pub use Rattle.pin_core.specs.Log.{RetiresOnce, log_of}
pub use Rattle.pin_core.specs.Machine.{DrainsIdle, IsSound, current, run, start}
pub use Rattle.pin_core.specs.OneRun.{ArePinned, OnePinRun, PinMark, RisesTo, pin_marks}
