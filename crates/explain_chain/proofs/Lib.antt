pub mod Numbered
pub mod Unasked
pub mod Told
