pub mod Options
pub mod Replies
pub mod Forward
pub mod Made
pub mod Reading
pub mod Judged
pub mod PoolUses
pub mod PoolParts
pub mod Taking
pub mod Laws
-- what public clauses cite
pub use Rattle.forward_plugin.specs.Forward.{Said, all_failed, forward_means, next, reply}
pub use Rattle.forward_plugin.specs.Forward.{ask_bytes, ask_of, cyclic, is_up, numbered, plan_turn}
pub use Rattle.forward_plugin.specs.Judged.{JudgesOutcome}
pub use Rattle.forward_plugin.specs.Options.{ForwardData, by_of, fails_of, is_for, is_pooled}
pub use Rattle.forward_plugin.specs.PoolUses.{IsOwn, SameBut, Uses, UsesAt}
pub use Rattle.forward_plugin.specs.PoolUses.{calls_by, pool_count, pool_place}
pub use Rattle.forward_plugin.specs.PoolParts.{HasMore, HasParts, IsUncalled}
pub use Rattle.forward_plugin.specs.Reading.{forward_data, forward_fault, forward_read}
pub use Rattle.forward_plugin.specs.Replies.{is_got}
pub use Rattle.forward_plugin.specs.Taking.{Forwards, ForwardState, pool_calls, said, state_at}
