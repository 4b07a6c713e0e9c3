pub mod Readings
pub mod Behind
pub mod WordsLaws
pub mod RulesLaws
pub mod PlansLaws
pub mod FilesLaws
pub mod SameMeaningLaws
pub mod Same
pub mod SameLaws
-- what public clauses cite
pub use Rattle.block_readings.specs.Readings.{BlockReading, block_reading}
