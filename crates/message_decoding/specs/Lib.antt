pub mod Steps
pub mod Decoding
pub mod Reading
mod NamesLaws
mod DataLaws
mod PartsLaws
pub mod Laws
