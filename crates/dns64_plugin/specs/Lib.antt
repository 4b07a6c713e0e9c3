pub mod Prefixes
pub mod Options
pub mod Reading
pub mod Dns64
pub mod Dns64Laws
-- what public clauses cite
pub use Rattle.dns64_plugin.specs.Dns64.{Points, a_query, combined, needs_second, ptr_answer}
pub use Rattle.dns64_plugin.specs.Dns64.{ptr_query, translates}
pub use Rattle.dns64_plugin.specs.Reading.{ReadsDns64, dns64_fault}
