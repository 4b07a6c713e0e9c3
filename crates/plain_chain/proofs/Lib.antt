pub mod Rules
pub mod Traced
pub mod Trailing
pub mod Keeping
pub mod Chosen
pub mod Turned
