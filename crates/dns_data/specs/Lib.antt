pub mod Record
pub mod Message
pub mod Addresses
pub mod Limits
-- what public clauses cite
pub use Rattle.dns_addr.specs.{IsAddr, addr_of, addr_text, agree, net_of}
pub use Rattle.dns_data.specs.Message.{AnswerData, AreCodes, MessageData, no_answer, nothing}
pub use Rattle.dns_data.specs.Limits.{limit_text}
pub use Rattle.dns_names.specs.Name.{IsLabel, IsName, IsWire, IsWithin, is_same, is_within}
pub use Rattle.dns_names.specs.Name.{labels_of, lowered, same_labels, spelled, wire_length}
pub use Rattle.dns_names.specs.NameText.{ReadsName, byte_at, name_of, name_text}
pub use Rattle.dns_names.specs.WithinLaws.{decides_within}
pub use Rattle.dns_data.specs.Record.{IsFormed, IsProper, RecordData, data_length, is_known_type}
pub use Rattle.dns_data.specs.Record.{Changes, address_data, address_record, kind_of, names_in}
pub use Rattle.dns_data.specs.Record.{owned_by, service_record}
pub use Rattle.dns_names.specs.ReverseNames.{StandsFor, reverse_of, reversed_of}
