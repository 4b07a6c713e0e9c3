mod Commands
mod Heads
mod Options
