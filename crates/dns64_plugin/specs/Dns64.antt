-- What `dns64` makes of queries and replies: where a name has no address of IPv6, its addresses of
-- IPv4 are answered behind a prefix (RFC 6147, section 5.1); and the name of such an address leads
-- to that of the address of IPv4 (section 5.3.1).
use Rattle.std.specs.Prelude.{◌≡◌, ℕ, ◌==◌, ◌&&◌, ◌||◌, min, Bool, true, false, List, [], ◌∷◌, map}
use Rattle.std.specs.Prelude.{Option, Some, None, option_map, unwrap_or, if◌then◌else◌}
use Rattle.std.specs.List.{list_any}
use Rattle.dns_data.specs.{RecordData, reverse_of, reversed_of}
use Rattle.dns_data.specs.Addresses.{Addr, V4, V6}
use Rattle.dns_data.specs.Message.{AnswerData}
use Rattle.dns_data.specs.declared.class.TheConstants as classes
use Rattle.dns_data.specs.declared.directive.Directive.{Directive}
use Rattle.dns_data.specs.declared.kind.TheConstants as kinds
use Rattle.dns_data.specs.declared.query.Query.{Query}
use Rattle.dns_data.specs.declared.rcode.TheConstants as rcodes
use Rattle.dns_data.specs.declared.record.Rdata.{Rdata}
use Rattle.dns_data.specs.declared.record.Rdata.TheVariants as rdata
use Rattle.dns64_plugin.specs.declared.ttl.TheConstants as ttls
use Rattle.dns64_plugin.specs.Options.{allows_ipv4, has_ptr, prefix_of}
use Rattle.dns64_plugin.specs.Prefixes.{embedded, extracted}

-- clients of IPv6 are served, and those of IPv4 where that is allowed
abbrev pub is_allowed : Directive → Addr → Bool
is_allowed d (V4 addr) = allows_ipv4 d
is_allowed d (V6 addr) = true

-- a query for addresses of IPv6, whose answer may be made of addresses of IPv4
abbrev pub translates : Directive → Query → Bool
translates d q = q.kind == kinds.AAAA && is_allowed d q.client

-- the same query for addresses of IPv4
abbrev pub a_query : Query → Query
a_query q = record q { kind = kinds.A }

abbrev pub is_a : Rdata → Bool
is_a (rdata.A addr) = true
is_a other = false

abbrev pub is_aaaa : Rdata → Bool
is_aaaa (rdata.Aaaa addr) = true
is_aaaa other = false

-- a first reply stands where its name doesn't exist, or has an address of IPv6
abbrev pub stands : ℕ → List RecordData → Bool
stands rcode answer =
    rcode == rcodes.NXDOMAIN
    || (rcode == rcodes.NOERROR && list_any (λ r. is_aaaa r.rdata) answer)

abbrev pub soa_or : Rdata → ℕ → Option ℕ → Option ℕ
soa_or (rdata.Soa soa) ttl rest = Some ttl
soa_or other ttl rest = rest

-- the TTL of the first SOA
abbrev pub soa_ttl : List RecordData → Option ℕ
soa_ttl [] = None
soa_ttl (r ∷ records) = soa_or r.rdata r.ttl (soa_ttl records)

-- whether the rest runs a second time, for addresses of IPv4, behind a first reply of this RCODE,
-- answer and authority: where it doesn't stand. Then this is what no TTL of theirs may exceed (RFC
-- 6147, section 5.1.7).
abbrev pub needs_second : ℕ → List RecordData → List RecordData → Option ℕ
needs_second rcode answer authority =
    if stands rcode answer then None else Some (unwrap_or (soa_ttl authority) ttls.DEFAULT)

-- an A as AAAA: the prefix and the address, and a TTL of at most so much
abbrev pub translated_by : Directive → ℕ → RecordData → Rdata → RecordData
translated_by d bound r (rdata.A addr) =
    record r { ttl = min r.ttl bound; rdata = rdata.Aaaa (embedded (prefix_of d) addr) }
translated_by d bound r other = r

abbrev pub translated : Directive → ℕ → RecordData → RecordData
translated d bound r = translated_by d bound r r.rdata

-- the reply of the second run: where it has RCODE 0 and an A in its answer, each A there is
-- translated
abbrev pub combined : Directive → ℕ → AnswerData → AnswerData
combined d bound a =
    if a.rcode == rcodes.NOERROR && list_any (λ r. is_a r.rdata) a.answer
    then record a { answer = map (translated d bound) a.answer }
    else a

abbrev pub address_at : Directive → Option Addr → Option ℕ
address_at d None = None
address_at d (Some (V4 addr)) = None
address_at d (Some (V6 addr)) = extracted (prefix_of d) addr

-- the address of IPv4 for which that one stands whose name this is, within the prefix
abbrev pub points_at : Directive → List (List ℕ) → Option ℕ
points_at d name = address_at d (reversed_of name)

-- the same query for the name of an address of IPv4
abbrev pub named_query : Query → ℕ → Query
named_query q addr = record q { name = reverse_of (V4 addr) }

-- what the rest is asked in place of a query for the name of an address within the prefix
abbrev pub ptr_query : Directive → Query → Option Query
ptr_query d q =
    if has_ptr d && q.kind == kinds.PTR && is_allowed d q.client
    then option_map (named_query q) (points_at d q.name)
    else None

-- the query for the name of this address, or there is no address
abbrev pub PointsBy : Query → Option ℕ → Query → Bool → Type 0
PointsBy q addr inner true = option_map (named_query q) addr ≡ Some inner
PointsBy q addr inner false = addr ≡ None

-- this is what the rest is asked, or there is nothing such
abbrev pub Points : Directive → Query → Query → Bool → Type 0
Points d q inner true = ptr_query d q ≡ Some inner
Points d q inner false = ptr_query d q ≡ None

-- the least of a number and of the TTLs of records
abbrev pub least_ttl : ℕ → List RecordData → ℕ
least_ttl least [] = least
least_ttl least (r ∷ records) = least_ttl (min least r.ttl) records

-- the TTL of a CNAME in front of records: the least of theirs
abbrev pub alias_ttl : List RecordData → ℕ
alias_ttl [] = ttls.DEFAULT
alias_ttl (r ∷ records) = least_ttl r.ttl records

-- the CNAME from the name that the client asked for to the other one
abbrev pub alias : Query → Query → ℕ → RecordData
alias q inner ttl =
    record { owner = q.name; class = classes.IN; ttl = ttl; rdata = rdata.Cname inner.name }

-- the reply to that query, as the client gets it: behind RCODE 0 the CNAME stands in front
abbrev pub ptr_answer : Query → Query → AnswerData → AnswerData
ptr_answer q inner a =
    if a.rcode == rcodes.NOERROR
    then record a { answer = alias q inner (alias_ttl a.answer) ∷ a.answer }
    else a
