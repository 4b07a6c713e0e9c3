pub mod Each
pub mod Messages
pub mod States
pub mod Stocking
pub mod Opening
pub mod Caches
pub mod Holding
pub mod Lending
pub mod WatchRun
pub mod Readings
pub mod Report
pub mod Roles
pub mod LoadCounts
pub mod Loading
pub mod Words
pub mod Telling
-- what public clauses cite
pub use Rattle.chain_meaning.specs.Accepting.{IsAccepted, IsRefused}
pub use Rattle.dns_server.specs.Loading.{load_data}
pub use Rattle.dns_server.specs.Report.{RunData}
pub use Rattle.dns_server.specs.States.{LoadData, RunSetup, SideRun}
pub use Rattle.dns_server.specs.Stocking.{Program, brings}
pub use Rattle.dns_server.specs.Telling.{IsToldRun, TellsStatus}
