pub mod Laws
pub mod Streams
pub mod Fills
pub mod Frames
pub mod Fronts
-- what public clauses cite
pub use Rattle.stream_wire.specs.Streams.{SourceState, SinkState, Takes, TakesThenFails, IsSpent}
pub use Rattle.stream_wire.specs.Streams.{Gains, GainsThenFails, TakesInto, Gives}
pub use Rattle.stream_wire.specs.Frames.{framed, IsTorn, IsPart, ReadsFrame, WritesAll}
pub use Rattle.stream_wire.specs.Fronts.{BeginsWith}
