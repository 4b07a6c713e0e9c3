pub mod Calls
pub mod Shares
mod Kept
