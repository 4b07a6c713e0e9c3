pub mod Lines
pub mod Acl
-- what public clauses cite
pub use Rattle.acl_plugin.specs.Acl.{ReadsAcl, acl_fault, acl_say}
