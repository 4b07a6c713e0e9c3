mod Faults
mod Finding
mod InPlace
mod Making
mod Patterns
mod Told
mod Skips
