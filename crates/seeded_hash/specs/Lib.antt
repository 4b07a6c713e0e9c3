pub mod Mixing
pub mod Hashers
