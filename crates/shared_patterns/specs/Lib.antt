pub mod Made
-- what public clauses cite
pub use Rattle.shared_patterns.specs.Made.{made_of}
