pub mod ReadAddrs
pub mod ZeroRuns
pub mod PrintedAddrs
