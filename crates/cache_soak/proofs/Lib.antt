pub mod Shares
pub mod Crossings
