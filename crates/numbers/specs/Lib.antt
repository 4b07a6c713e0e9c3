pub mod Below
pub mod Duration
pub mod Number
-- what public clauses cite
pub use Rattle.numbers.specs.Below.{number_below}
pub use Rattle.numbers.specs.Duration.{duration_of}
pub use Rattle.numbers.specs.Number.{number_of}
