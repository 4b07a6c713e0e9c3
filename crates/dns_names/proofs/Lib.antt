pub mod NameWalks
pub mod PrintedNames
pub mod ReadNames
pub mod ReverseWalks
pub mod ReversedAddrs
