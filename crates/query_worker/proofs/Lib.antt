pub mod Answering
pub mod Counting
pub mod Turns
pub mod Whole
