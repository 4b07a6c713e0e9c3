pub mod Timings
pub mod Trips
-- what public clauses cite
pub use Rattle.edge_asks.specs.Timings.{new_timing, patience_of, asked, answered, silenced}
pub use Rattle.edge_asks.specs.Trips.{first_trip, next_trip, wait_of}
