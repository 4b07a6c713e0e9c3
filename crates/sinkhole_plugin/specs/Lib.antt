pub mod Sinkhole
pub mod SinkholeLaws
-- what public clauses cite
pub use Rattle.sinkhole_plugin.specs.Sinkhole.{sink_said, takes_sink}
