pub mod Uses
pub mod Calling
pub mod Keeping
-- what public clauses cite
pub use Rattle.cache_plugin.specs.Uses.{HasMore, HasParts, IsUncalled, SameUse, UseData}
pub use Rattle.cache_plugin.specs.Uses.{use_logs}
pub use Rattle.cache_plugin.specs.Calling.{CacheState, CallsBy, MissesBy, entry_found, look_result}
pub use Rattle.cache_plugin.specs.Calling.{looked, state_at}
pub use Rattle.cache_plugin.specs.Keeping.{ArePast, IsFair, kept_answer, kept_result}
