pub mod States
pub mod Tally
pub mod Pins
pub mod Worker
pub mod Laws
pub mod Calls
pub mod CallsLaws
-- what public clauses cite
pub use Rattle.query_worker.specs.Calls.{IsPlacedPin, MakeCalls, calls_under}
pub use Rattle.query_worker.specs.CallsLaws.{calls_told, grown_of, make_calls}
pub use Rattle.query_worker.specs.Laws.{lawful_of, ready_of, run_as}
pub use Rattle.query_worker.specs.Pins.{AreOf, CountsPins, IsOf, IsOfPass, IsReady, IsResting}
pub use Rattle.query_worker.specs.Pins.{OfPin, PastPin, TakeUnder, last_seen, pinned_by}
pub use Rattle.query_worker.specs.States.{WorkerState, worked_of, worker_state}
pub use Rattle.query_worker.specs.Tally.{IsIdle}
pub use Rattle.query_worker.specs.Worker.{AddsTurn, RunsUnder, TakesTurn, WorksToEnd}
