pub mod Counted
pub mod Faults
pub mod Filled
pub mod Going
pub mod Homes
pub mod HomesLaws
pub mod KeepsLaws
pub mod AccountsLaws
pub mod StartLaws
pub mod EndLaws
pub mod TurningLaws
pub mod GenerationsLaws
pub mod HistoryLaws
pub mod Histories
pub mod Keeping
pub mod Look
pub mod Looked
pub mod Named
pub mod NamedLaws
pub mod Naming
pub mod NextLaws
pub mod Opening
pub mod Placing
pub mod Publishing
pub mod Shortage
pub mod States
pub mod Standing
pub mod Stocked
pub mod Sweeps
pub mod Watcher
pub mod WatchRun
pub mod WatchTurn
-- what public clauses cite
pub use Rattle.reload_watch.specs.Filled.{AreFilledBy, EndsWith, IsOf}
pub use Rattle.reload_watch.specs.Going.{CountsRefusals, RoseWithin, WatchGoesOn}
pub use Rattle.reload_watch.specs.Going.{refusals_by, refusals_first}
pub use Rattle.reload_watch.specs.Keeping.{IsCleared, IsKeeping}
pub use Rattle.reload_watch.specs.Look.{LooksOnce, Searches, SearchesFirst, starved_by}
pub use Rattle.reload_watch.specs.Looked.{HasLooked, Looks}
pub use Rattle.reload_watch.specs.Opening.{GathersThat, ReadsFirst, ReadsPlans}
pub use Rattle.reload_watch.specs.Placing.{IsPlaced}
pub use Rattle.reload_watch.specs.Shortage.{Around, SaysStock, TellsStock, around_of, found_in}
pub use Rattle.reload_watch.specs.Standing.{SawOpen}
pub use Rattle.reload_watch.specs.States.{Footing, Serving, WatcherState, footing_on, serving_of}
pub use Rattle.reload_watch.specs.States.{source_data}
pub use Rattle.reload_watch.specs.States.{terms_of, watcher_state}
pub use Rattle.reload_watch.specs.Stocked.{HasPlaces, KeepsStock, all_weigh, chain_seats}
pub use Rattle.reload_watch.specs.Stocked.{chain_weighs, out_weighs, seats_out}
pub use Rattle.reload_watch.specs.Sweeps.{HasSwept, SweptFor, SweptThree}
pub use Rattle.reload_watch.specs.WatchRun.{Watches}
pub use Rattle.reload_watch.specs.WatchTurn.{AreSwept, all_refused}
