pub mod Listings
pub mod Options
pub mod Reading
pub mod Index
pub mod Hosts
pub mod Made
-- what public clauses cite
pub use Rattle.hosts_plugin.specs.Listings.{file_listings, inline_listings}
pub use Rattle.hosts_plugin.specs.Reading.{ReadsHosts, hosts_fault}
pub use Rattle.hosts_plugin.specs.Hosts.{HostsData, Said, Says, hosts_say}
