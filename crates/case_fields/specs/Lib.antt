pub mod Fields
-- what public clauses cite
pub use Rattle.case_fields.specs.Fields.{field_bytes, field_of}
