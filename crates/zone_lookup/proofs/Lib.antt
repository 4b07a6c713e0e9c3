pub mod Suffixes
pub mod Finding
pub mod Chaining
pub mod PlainList
pub mod Lending
