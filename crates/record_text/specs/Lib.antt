pub mod Words
pub mod Ttls
pub mod Strings
pub mod Fields
pub mod Rows
pub mod Records
pub mod Heads
pub mod HeadLaws
-- what public clauses cite
pub use Rattle.record_text.specs.Words.{WordData, word_in, words_of}
pub use Rattle.record_text.specs.Ttls.{ttl_of}
pub use Rattle.record_text.specs.Fields.{PlaceData, Answers, name_in}
pub use Rattle.record_text.specs.Records.{record_of, record_spelt}
pub use Rattle.record_text.specs.Heads.{LeadsTo, address_in, is_simple}
pub use Rattle.record_text.specs.HeadLaws.{address_spelt}
