-- What is made of a directive and its file, once.
use Rattle.std.specs.Prelude.{◌≡◌, ℕ, ◌<◌, ◌^◌, Bool, List, [], length, map}
use Rattle.dns_data.specs.{RecordData, reverse_of}
use Rattle.plugin_api.specs.{fallthrough_of}
use Rattle.hosts_plugin.specs.declared.listing.Listing.{Listing}
use Rattle.hosts_plugin.specs.declared.table.HostsTable.{HostsTable}
use Rattle.hosts_plugin.specs.Hosts.{HostsData, plan_listings, plan_zones, pointer_record}
use Rattle.hosts_plugin.specs.Index.{IsIndexOf}
use Rattle.hosts_plugin.specs.Options.{has_no_reverse, ttl_of}

-- the parts of a plan
pub record Parts : Type 0 where
  pub zones : List (List (List ℕ))
  pub fallthrough : List (List (List ℕ))
  pub ttl : ℕ
  pub no_reverse : Bool
  pub table : HostsTable

-- a record of each name, whose owner and TTL are put in place in an answer
abbrev pub pointers_of : List Listing → List RecordData
pointers_of listings = map (pointer_record [] 0) listings

-- the table is that of what is listed
pub record IsTable (listings : List Listing) (table : HostsTable) : Type 0 where
  pub listings_are : table.listings ≡ listings
  pub pointers_are : table.pointers ≡ pointers_of table.listings
  pub names_are : IsIndexOf table.names (λ l. l.name) table.listings (length table.listings)
  pub addresses_are : IsIndexOf table.addresses (λ l. reverse_of l.addr) table.listings
      (length table.listings)

-- the parts are those of this plan
pub record IsMade (plan : HostsData) (parts : Parts) : Type 0 where
  pub zones_are : parts.zones ≡ plan_zones plan
  pub fallthrough_is : parts.fallthrough ≡ fallthrough_of plan.directive.body
  pub ttl_is : parts.ttl ≡ ttl_of plan.directive.body
  pub ttl_small : parts.ttl < 2 ^ 31
  pub no_reverse_is : parts.no_reverse ≡ has_no_reverse plan.directive.body
  pub table_is : IsTable (plan_listings plan) parts.table
