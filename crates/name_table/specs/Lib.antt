pub mod Hash
pub mod NumberLaws
pub mod Table
-- what public clauses cite
pub use Rattle.name_table.specs.Table.{IsLongest, IsMissing, IsNamed, IsNumberOf}
