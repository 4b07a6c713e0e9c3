pub mod Command
pub mod Options
-- what public clauses cite
pub use Rattle.command_line.specs.Command.{CommandData, ServeData, IsCommand, IsInRange, command_data}
