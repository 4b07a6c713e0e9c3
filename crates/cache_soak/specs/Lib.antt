pub mod Judging
pub mod Shares
pub mod Workers
