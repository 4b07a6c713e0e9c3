pub mod Name
pub mod NameLaws
pub mod NameText
pub mod NameTextLaws
pub mod WithinLaws
pub mod ReverseNames
-- what public clauses cite
pub use Rattle.dns_names.specs.Name.{IsLabel, IsName, IsWire, IsWithin, is_same, is_within}
pub use Rattle.dns_names.specs.Name.{labels_of, lowered, same_labels, spelled, wire_length}
pub use Rattle.dns_names.specs.NameText.{ReadsName, byte_at, name_of, name_text}
pub use Rattle.dns_names.specs.WithinLaws.{decides_within}
pub use Rattle.dns_names.specs.ReverseNames.{StandsFor, reverse_of, reversed_of}
