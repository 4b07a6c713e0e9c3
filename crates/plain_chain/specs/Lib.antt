pub mod Reading
pub mod Steps
pub mod Traced
pub mod Serving
pub mod Course
pub mod Turning
-- what public clauses cite
pub use Rattle.plain_chain.specs.Reading.{IsReadOf, IsWhole, ReadsPlain, plain_behind, plain_terms}
pub use Rattle.plain_chain.specs.Serving.{PlainServes}
pub use Rattle.plain_chain.specs.Traced.{chain_traced}
pub use Rattle.plain_chain.specs.Turning.{Turns}
