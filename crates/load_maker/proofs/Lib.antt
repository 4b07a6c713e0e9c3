mod Labels
mod Lines
mod Zones
