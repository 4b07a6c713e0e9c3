pub mod Tasks
pub mod TasksLaws
-- what public clauses cite
pub use Rattle.pattern_judging.specs.Tasks.{Comes, IsFault, IsFree, IsJudged, IsRefused, IsWell}
pub use Rattle.pattern_judging.specs.Tasks.{Judgement, Refuses, Stops, Task, at_line, judged}
pub use Rattle.pattern_judging.specs.Tasks.{maker_behind, pattern_fault}
