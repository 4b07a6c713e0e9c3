pub mod Moves
pub mod Sender
pub mod Whys
-- what public clauses cite
pub use Rattle.edge_sockets.specs.Moves.{MovesAtMost}
pub use Rattle.edge_sockets.specs.Sender.{client_of, nobody}
pub use Rattle.edge_sockets.specs.Whys.{Means, edge_text, why_text}
