pub mod Upstreams
pub mod Words
-- what public clauses cite
pub use Rattle.upstream_words.specs.Upstreams.{servers_in, upstream_of}
pub use Rattle.upstream_words.specs.Words.{Reads, onward_ok, with_word, with_words}
