pub mod Again
pub mod AgainLaws
pub mod Gathering
pub mod Steps
pub mod WholeLaws
-- what public clauses cite
pub use Rattle.corefile_bundle.specs.Again.{IfOther, IsGathered, read_again}
pub use Rattle.corefile_bundle.specs.AgainLaws.{gathered-in-order}
pub use Rattle.corefile_bundle.specs.Gathering.{AreWanted, Gathers, GathersFrom, IsWhole, OneRead}
pub use Rattle.corefile_bundle.specs.Gathering.{Source, TellsGathering, after_corefile, after_read}
pub use Rattle.corefile_bundle.specs.Gathering.{marks_of, next_file}
pub use Rattle.corefile_bundle.specs.WholeLaws.{gathered-is-whole}
