pub mod Kinds
pub mod Rcodes
-- what public clauses cite
pub use Rattle.type_names.specs.Kinds.{kind_of_text, kind_text}
pub use Rattle.type_names.specs.Rcodes.{rcode_of_text, rcode_text}
