pub mod Counting
pub mod Lists
pub mod SideSteps
pub mod SideCalls
pub mod WatchSteps
