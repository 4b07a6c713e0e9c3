pub mod Wire
pub mod Sequences
pub mod Known
pub mod Data
pub mod Fields
pub mod Cursor
pub mod Records
pub mod Spells
pub mod Asked
pub mod Reads
-- what public clauses cite; `Spells` stands in the module of its name
pub use Rattle.dns_wire.specs.Wire.{NameAt, WholeNameAt, flag_at, u16_at, u32_at, u128_at}
pub use Rattle.dns_wire.specs.Data.{DataAt, FieldAt, FieldsAt}
pub use Rattle.dns_wire.specs.Records.{OptAt, RecordAt, SectionAt}
pub use Rattle.dns_wire.specs.Spells.{HasOtherOpcode, IsMalformed, ReadsBy, ReadsQuery}
pub use Rattle.dns_wire.specs.Spells.{SpellsAlone, SpellsQuery, SpellsReply}
pub use Rattle.dns_wire.specs.Asked.{QueriesThis, ReadsAsked, ReadsAskedInto, asked_by}
