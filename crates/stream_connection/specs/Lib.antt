pub mod Bounds
pub mod Connections
pub mod Laws
