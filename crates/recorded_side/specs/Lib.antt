pub mod Keeping
pub mod States
pub mod StatesLaws
-- what public clauses cite
pub use Rattle.recorded_side.specs.Keeping.{KeepsTold}
pub use Rattle.recorded_side.specs.States.{Recorded, recorded_state}
