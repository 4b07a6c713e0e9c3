pub mod Calls
pub mod Faults
pub mod Feed
pub mod SideTold
pub mod Telling
pub mod WatchFeed
pub mod WatchTold
pub mod Unused
pub mod Supply
pub mod Never
-- what public clauses cite
pub use Rattle.outside_mem.specs.Supply.{as_made, host_state}
pub use Rattle.outside_mem.specs.Unused.{IsUnusedSide, IsUnusedWatch, side_script, side_state}
pub use Rattle.outside_mem.specs.Unused.{watch_script, watch_state}
pub use Rattle.outside_mem.specs.Never.{NeverFails, WatchNeverFails, IsUnusedNever, IsUnusedNeverWatch}
pub use Rattle.outside_mem.specs.Never.{never_script, never_state, never_watch_script, never_watch_state}
