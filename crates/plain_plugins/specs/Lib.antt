pub mod Any
pub mod Notes
pub mod Plain
pub mod Reload
pub mod Whoami
-- what public clauses cite
pub use Rattle.plain_plugins.specs.Any.{any_of, is_any}
pub use Rattle.plain_plugins.specs.Notes.{error_line, log_line}
pub use Rattle.plain_plugins.specs.Plain.{IsPlain, ReadsPlain, plain_fault, plain_zones}
pub use Rattle.plain_plugins.specs.Reload.{reload_times}
pub use Rattle.plain_plugins.specs.Whoami.{whoami_of}
