pub mod Places
pub mod Histories
pub mod Held
pub mod Steps
pub mod Calls
pub mod Shuffles
pub mod Seats
