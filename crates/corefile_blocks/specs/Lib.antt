pub mod LineForms
pub mod Keys
pub mod Places
pub mod KeyIndex
pub mod WantedFiles
pub mod PlacedLines
pub mod Blocks
pub mod Readable
pub mod Reader
pub mod Ports
pub mod PortsLaws
pub mod Texts
pub mod Snippets
pub mod GrowingLaws
pub mod Seeking
pub mod SeekingLaws
pub mod KeysLaws
-- what public clauses cite
pub use Rattle.corefile_blocks.specs.Blocks.{ReadsBlocks, blocks_of, wants_of}
pub use Rattle.corefile_blocks.specs.Ports.{ArePorts, key_ports}
pub use Rattle.corefile_blocks.specs.Readable.{IsReadable}
pub use Rattle.corefile_blocks.specs.Texts.{why_text}
pub use Rattle.corefile_blocks.specs.Seeking.{Seeks, first_missing, has_file}
