pub mod Descriptors
pub mod Pauses
pub mod Sides
-- what public clauses cite
pub use Rattle.edge_net.specs.Descriptors.{first_kept}
pub use Rattle.edge_net.specs.Pauses.{longer}
pub use Rattle.edge_net.specs.Sides.{no_tally, side_state}
