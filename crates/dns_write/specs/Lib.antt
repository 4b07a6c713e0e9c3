pub mod Written
pub mod Compression
pub mod Writes
pub mod Offsets
pub mod Assembled
pub mod Putting
pub mod Tails
pub mod Timed
-- what public clauses cite; `Writes` stands in the module of its name
pub use Rattle.dns_write.specs.Written.{IsLongest, bit, kept, truncated, untruncated, written}
pub use Rattle.dns_write.specs.Compression.{AllAreCompressed, IsCompressed}
pub use Rattle.dns_write.specs.Assembled.{message_of}
pub use Rattle.dns_write.specs.Tails.{TailData, lent_to, with_tail}
pub use Rattle.dns_write.specs.Timed.{all_timed, message_at, message_timed, timed}
