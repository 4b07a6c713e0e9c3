pub mod AddrText
pub mod OctetLaws
-- what public clauses cite
pub use Rattle.dns_addr.specs.AddrText.{IsAddr, addr_of, addr_text, agree, hex_digit, net_of}
pub use Rattle.dns_addr.specs.AddrText.{octet_of}
