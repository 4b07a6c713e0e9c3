pub mod Rules
pub mod Keys
pub mod Options
pub mod Settings
pub mod Reading
pub mod Class
pub mod Aged
pub mod Weight
-- what public clauses cite
pub use Rattle.cache_rules.specs.Aged.{aged, seconds_left, with_ttls}
pub use Rattle.cache_rules.specs.Class.{class_of}
pub use Rattle.cache_rules.specs.Keys.{key_of}
pub use Rattle.cache_rules.specs.Reading.{ReadsCache, cache_fault, cache_zones}
pub use Rattle.cache_rules.specs.Rules.{ClassData, SettingsData}
pub use Rattle.cache_rules.specs.Settings.{settings_of, shard_room}
pub use Rattle.cache_rules.specs.Weight.{entry_weight}
