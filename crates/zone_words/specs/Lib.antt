pub mod Zones
-- what public clauses cite
pub use Rattle.zone_words.specs.Zones.{has_byte, is_in, name_zone, net_zone, reverse_zone}
pub use Rattle.zone_words.specs.Zones.{with_zone, with_zones, word_zone, zones_of, zones_or}
