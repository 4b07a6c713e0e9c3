pub mod Chains
pub mod Keepers
pub mod Roles
pub mod Workers
