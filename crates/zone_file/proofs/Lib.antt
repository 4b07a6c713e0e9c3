pub mod ScannedLines
pub mod EntryLines
pub mod KeptSets
pub mod ZoneSteps
