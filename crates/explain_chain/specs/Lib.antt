pub mod Explaining
pub mod Finding
-- what public clauses cite
pub use Rattle.explain_chain.specs.Explaining.{IsExplained, TellsExplaining}
