pub mod LargeNumbers
mod Numbers
pub mod Spans
