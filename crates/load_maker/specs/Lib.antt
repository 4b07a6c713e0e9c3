pub mod Texts
pub mod Queries
pub mod Load
pub mod Scripts
pub mod LoadHost
pub mod Lines
pub mod Summary
pub mod Taken
pub mod TakenLaws
-- what public clauses cite
pub use Rattle.load_maker.specs.Lines.{TellsAll, TellsLines, TellsSome}
pub use Rattle.load_maker.specs.Load.{load_of}
pub use Rattle.load_maker.specs.LoadHost.{host_of, load_state}
pub use Rattle.load_maker.specs.Scripts.{conf_name, looks_of, queries_by}
pub use Rattle.load_maker.specs.Summary.{summary_lines, summary_of}
pub use Rattle.load_maker.specs.Taken.{datagrams_in}
