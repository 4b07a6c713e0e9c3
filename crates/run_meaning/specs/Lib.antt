pub mod Turn
pub mod Workers
pub mod Calls
pub mod CallsLaws
pub mod Held
pub mod HeldLaws
pub mod Reloads
pub mod Messages
pub mod Answers
pub mod WatchTurn
pub mod WatchRun
pub mod Stocked
pub mod StockedLaws
-- what public clauses cite
pub use Rattle.run_meaning.specs.Answers.{AnswersLook, Refuses, Standing}
pub use Rattle.run_meaning.specs.Messages.{look_text, stock_text}
pub use Rattle.run_meaning.specs.Reloads.{reloads, times_of}
pub use Rattle.run_meaning.specs.Stocked.{AreStocked, FindsStock, HasExtras, Lending}
pub use Rattle.run_meaning.specs.Turn.{IsLawful, IsPublished}
pub use Rattle.run_meaning.specs.WatchRun.{EndsWatch, IsReading, StopsLooking, TellsLooks}
pub use Rattle.run_meaning.specs.WatchTurn.{AreLooks, all_starved, bundles_of, published_by}
pub use Rattle.run_meaning.specs.WatchTurn.{watch_marks}
pub use Rattle.run_meaning.specs.Workers.{Worked, WorkerRun}
