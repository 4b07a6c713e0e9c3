-- Addresses and nets (specs/AddrText.antt of dns_addr), passed on with their variants.
pub use Rattle.dns_addr.specs.declared.addr.Addr.{Addr}
pub use Rattle.dns_addr.specs.declared.addr.Addr.TheVariants.{V4, V6}
pub use Rattle.dns_addr.specs.declared.net.Net.{Net}
