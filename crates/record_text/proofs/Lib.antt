pub mod Steps
pub mod LargeTtls
pub mod LongTexts
