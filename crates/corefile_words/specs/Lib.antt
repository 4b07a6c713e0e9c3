pub mod Lines
pub mod LinesLaws
pub mod Variables
pub mod Words
pub mod BadBytes
-- what public clauses cite
pub use Rattle.corefile_words.specs.Lines.{lines_of}
pub use Rattle.corefile_words.specs.Words.{ReadsWords, words_of}
