-- What `hosts` says of a query: the addresses of a name, the names of an address (RFC 1035,
-- section 3.5; RFC 3596, section 2.5), or that the name is unknown. This server's own rule, in the
-- manner of CoreDNS.
use Rattle.std.specs.Prelude.{◌≡◌, ℕ, ◌==◌, Bool, true, false, List, [], ◌∷◌, ◌++◌, map}
use Rattle.std.specs.Prelude.{Option, Some, unwrap_or, if◌then◌else◌}
use Rattle.std.specs.List.{filter}
use Rattle.dns_data.specs.{RecordData, address_record, reverse_of}
use Rattle.dns_data.specs.Addresses.{Addr, V4, V6}
use Rattle.dns_data.specs.Message.{AnswerData, no_answer}
use Rattle.dns_data.specs.declared.class.TheConstants as classes
use Rattle.dns_data.specs.declared.directive.Directive.{Directive}
use Rattle.dns_data.specs.declared.directive.Line.{Line}
use Rattle.dns_data.specs.declared.kind.TheConstants as kinds
use Rattle.dns_data.specs.declared.query.Query.{Query}
use Rattle.dns_data.specs.declared.rcode.TheConstants as rcodes
use Rattle.dns_data.specs.declared.record.Rdata.TheVariants as rdata
use Rattle.plugin_api.specs.{fallthrough_of}
use Rattle.dns_data.specs.{is_same}
use Rattle.zone_words.specs.{is_in, zones_or}
use Rattle.hosts_plugin.specs.declared.say.HostsSay.{HostsSay}
use Rattle.hosts_plugin.specs.declared.say.HostsSay.TheVariants as say
use Rattle.hosts_plugin.specs.declared.listing.Listing.{Listing}
use Rattle.hosts_plugin.specs.Listings.{file_listings, inline_listings}
use Rattle.hosts_plugin.specs.Options.{has_no_reverse, ttl_of}

-- what a plan was read from: the directive, the zones of its block, and the bytes of its file
pub record HostsData : Type 0 where
  pub directive : Directive
  pub zones : List (List (List ℕ))
  pub text : List ℕ

-- the zones that the words behind the file name, or else those of the block
abbrev pub zones_behind : List (List (List ℕ)) → List (List ℕ) → Option (List (List (List ℕ)))
zones_behind zones [] = Some zones
zones_behind zones (file ∷ words) = zones_or zones words

abbrev pub plan_zones : HostsData → List (List (List ℕ))
plan_zones plan = unwrap_or (zones_behind plan.zones plan.directive.args) []

-- what is listed: first by the file, then by the lines of the directive
abbrev pub listings_in : List ℕ → List Line → List Listing
listings_in text lines = file_listings text ++ inline_listings lines

abbrev pub plan_listings : HostsData → List Listing
plan_listings plan = listings_in plan.text plan.directive.body

-- what is listed for a name, ASCII case aside
abbrev pub listed_for : List (List ℕ) → List Listing → List Listing
listed_for name listings = filter (λ l. is_same l.name name) listings

-- what is listed for the address that this is the name of, ASCII case aside
abbrev pub listed_at : List (List ℕ) → List Listing → List Listing
listed_at name listings = filter (λ l. is_same (reverse_of l.addr) name) listings

-- whether an address is of a type: A for IPv4, AAAA for IPv6
abbrev pub is_of : ℕ → Addr → Bool
is_of kind (V4 addr) = kind == kinds.A
is_of kind (V6 addr) = kind == kinds.AAAA

-- the records of the addresses of a type
abbrev pub address_records : Query → ℕ → List Listing → List RecordData
address_records q ttl [] = []
address_records q ttl (l ∷ listings) =
    if is_of q.kind l.addr then address_record q.name ttl l.addr ∷ address_records q ttl listings
    else address_records q ttl listings

-- the record of a name of an address
abbrev pub pointer_record : List (List ℕ) → ℕ → Listing → RecordData
pointer_record owner ttl l =
    record { owner = owner; class = classes.IN; ttl = ttl; rdata = rdata.Ptr l.name }

-- an answer with authority, of these records
abbrev pub answer_with : List RecordData → AnswerData
answer_with records = record {
  rcode = rcodes.NOERROR;
  aa = true;
  ra = false;
  tc = false;
  answer = records;
  authority = [];
  additional = [];
}

-- a query is answered, goes on, or asks for an unknown name
pub data Said : Type 0 where
  reply : AnswerData → Said
  next : Said
  unknown : Said

-- an unknown name goes on where `fallthrough` covers it
abbrev pub unlisted : HostsData → List (List ℕ) → Said
unlisted plan name =
    if is_in name (fallthrough_of plan.directive.body) then next else unknown

-- what is said of a name for which this is listed: its addresses of the type that is asked. There
-- are none for types other than A and AAAA.
abbrev pub name_said : HostsData → Query → List Listing → Said
name_said plan q [] = unlisted plan q.name
name_said plan q (first ∷ others) =
    reply (answer_with (address_records q (ttl_of plan.directive.body) (first ∷ others)))

-- what is said of an address for which this is listed: its names
abbrev pub address_said : HostsData → Query → List Listing → Said
address_said plan q [] = next
address_said plan q (first ∷ others) =
    reply (answer_with
    (map (pointer_record q.name (ttl_of plan.directive.body)) (first ∷ others)))

abbrev pub name_say : HostsData → Query → Said
name_say plan q = name_said plan q (listed_for q.name (plan_listings plan))

abbrev pub address_say : HostsData → Query → Said
address_say plan q =
    if has_no_reverse plan.directive.body then next
    else address_said plan q (listed_at q.name (plan_listings plan))

-- what a plan says of a query: PTR is asked of every name, other types of names in the zones
unfoldable pub hosts_say : HostsData → Query → Said
hosts_say plan q =
    if q.kind == kinds.PTR then address_say plan q
    else if is_in q.name (plan_zones plan) then name_say plan q
    else next

-- what was said, with the answer in a slot
abbrev pub Says : HostsSay → Said → AnswerData → Type 0
Says say.Reply said slot = said ≡ reply slot
Says say.Next said slot = (said ≡ next) × (slot ≡ no_answer)
Says say.Unknown said slot = (said ≡ unknown) × (slot ≡ no_answer)
