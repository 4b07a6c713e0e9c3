pub mod Entries
pub mod Keys
pub mod Zones
pub mod Kept
pub mod Texts
-- what public clauses cite
pub use Rattle.zone_file.specs.Zones.{ReadsZone, zone_of}
pub use Rattle.zone_file.specs.Texts.{zone_text}
