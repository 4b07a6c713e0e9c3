pub mod Meant
pub mod MeantLaws
pub mod Caching
-- what public clauses cite
pub use Rattle.plain_marks.specs.Meant.{IfDone, IsDone, IsOff, Means}
pub use Rattle.plain_marks.specs.Caching.{look_means}
