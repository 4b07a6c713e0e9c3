pub mod Zones
pub mod Reading
pub mod Choosing
pub mod ChoosingLaws
pub mod SayingLaws
-- what public clauses cite
pub use Rattle.file_plugin.specs.Zones.{FileData, Says, file_say}
pub use Rattle.file_plugin.specs.Reading.{ReadsFile, file_fault}
pub use Rattle.file_plugin.specs.Choosing.{Picks}
