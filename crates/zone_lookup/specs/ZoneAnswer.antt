-- The answer of a zone (RFC 1034, section 4.3.2; RFC 4592; RFC 2308).
use Rattle.std.specs.Prelude.{◌≡◌, ℕ, zero, suc, min, ◌==◌, List, [], ◌∷◌, ◌++◌, map}
use Rattle.std.specs.Prelude.{Bool, true, false, cond, not, ◌&&◌, ◌||◌}
use Rattle.std.specs.Prelude.{is_none, Option, Some, None}
use Rattle.std.specs.List.{list_any}
use Rattle.dns_names.specs.Name.{is_same, is_within}
use Rattle.dns_data.specs.Record.{RecordData}
use Rattle.dns_data.specs.Message.{AnswerData}
use Rattle.dns_data.specs.declared.zone.Zone.{Zone}
use Rattle.dns_data.specs.declared.kind.TheConstants as kinds
use Rattle.dns_data.specs.declared.rcode.TheConstants as rcodes
use Rattle.dns_data.specs.declared.record.Rdata.{Rdata}
use Rattle.dns_data.specs.declared.record.Rdata.TheVariants as rdata
use Rattle.dns_write.specs.Tails.{with_tail}
use Rattle.zone_lookup.specs.declared.find.Find.{Find}
use Rattle.zone_lookup.specs.declared.find.Step.{Step}
use Rattle.zone_lookup.specs.declared.find.Step.TheVariants as step
use Rattle.zone_lookup.specs.declared.find.Reached.{Reached}
use Rattle.zone_lookup.specs.declared.find.Reached.TheVariants as reached
use Rattle.zone_lookup.specs.declared.answering.End.{End}
use Rattle.zone_lookup.specs.Zone.{is_of, exists_in, set_at, has_at, has_items}
use Rattle.zone_lookup.specs.Zone.{cut_of, wildcard}

-- what one name gives: whether neither it nor a wildcard for it exists, records, and the name that
-- a CNAME leads to
pub record Found : Type 0 where
  pub absent : Bool
  pub records : List RecordData
  pub target : Option (List (List ℕ))

abbrev pub alias_of : Rdata → Option (List (List ℕ))
alias_of (rdata.Cname name) = Some name
alias_of other = None

-- where the first of the records leads to
abbrev pub target_of : List RecordData → Option (List (List ℕ))
target_of [] = None
target_of (r ∷ rs) = alias_of r.rdata

-- the question is for another type, and the name has a CNAME
unfoldable pub is_alias : Zone → List (List ℕ) → ℕ → Bool
is_alias zone name kind =
    not (kind == kinds.CNAME) && not (kind == kinds.ANY) && has_at zone name kinds.CNAME

-- what CNAME records give
abbrev pub alias_found : List RecordData → Found
alias_found records = record { absent = false; records = records; target = target_of records }

-- what records of the type that is asked for give
abbrev pub set_found : List RecordData → Found
set_found records = record { absent = false; records = records; target = None }

-- what stands at a name that exists
unfoldable pub found_at : Zone → List (List ℕ) → ℕ → Found
found_at zone name kind =
    cond (is_alias zone name kind) (alias_found (set_at zone name kinds.CNAME))
    (set_found (set_at zone name kind))

abbrev pub with_owner : List (List ℕ) → RecordData → RecordData
with_owner name r = record { owner = name; class = r.class; ttl = r.ttl; rdata = r.rdata }

-- the same for a name at which a wildcard stands in
abbrev pub owned_by : List (List ℕ) → Found → Found
owned_by name f = record {
  absent = f.absent;
  records = map (with_owner name) f.records;
  target = f.target;
}

-- a name that doesn't exist: what stands at the wildcard, or nothing and NXDOMAIN
unfoldable pub found_by_wildcard : Zone → List (List ℕ) → ℕ → Option (List (List ℕ)) → Found
found_by_wildcard zone name kind None = record { absent = true; records = []; target = None }
found_by_wildcard zone name kind (Some star) = owned_by name (found_at zone star kind)

unfoldable pub found : Zone → List (List ℕ) → ℕ → Found
found zone name kind =
    cond (exists_in zone name) (found_at zone name kind)
    (found_by_wildcard zone name kind (wildcard zone name))

-- what a name gave stands behind what there was
pub record Finds (f : Found) (find : Find) (old new : List RecordData) : Type 0 where
  pub absent : find.absent ≡ f.absent
  pub target : find.target ≡ f.target
  pub records : new ≡ old ++ f.records

-- what is found for a question: the NS set of a cut, or what the name gives
pub record Sought : Type 0 where
  pub cut : Option (List (List ℕ))
  pub servers : List (List ℕ) → List RecordData
  pub found : Found

unfoldable pub sought : Zone → List (List ℕ) → ℕ → Sought
sought zone name kind = record {
  cut = cut_of zone name;
  servers = λ cut. set_at zone cut kinds.NS;
  found = found zone name kind;
}

abbrev pub StepsAt : Option (List (List ℕ)) → Sought → Step → List RecordData → List RecordData
    → Type 0
StepsAt (Some cut) s step.Cut old new = new ≡ old ++ s.servers cut
StepsAt (Some cut) s (step.Found find) old new = ⊥
StepsAt None s step.Cut old new = ⊥
StepsAt None s (step.Found find) old new = Finds s.found find old new

-- what one search gave stands behind what there was
abbrev pub Steps : Sought → Step → List RecordData → List RecordData → Type 0
Steps s step old new = StepsAt s.cut s step old new

-- a run of CNAME records to its end: all records, whether the last name is absent, and whether it
-- has no records
pub record Chain : Type 0 where
  pub absent : Bool
  pub records : List RecordData
  pub denied : Bool

abbrev pub last_of : Found → Chain
last_of f = record {
  absent = f.absent;
  records = f.records;
  denied = not (has_items f.records);
}

abbrev pub cut_off : Found → Chain
cut_off f = record { absent = false; records = f.records; denied = false }

abbrev pub behind : List RecordData → Chain → Chain
behind records c = record {
  absent = c.absent;
  records = records ++ c.records;
  denied = c.denied;
}

-- a target in the zone and under no cut is followed
unfoldable pub is_followed : Zone → List (List ℕ) → Bool
is_followed zone name = is_within name zone.origin && is_none (cut_of zone name)

-- past the last step that is followed
abbrev pub ended : Found → Option (List (List ℕ)) → Chain
ended f None = last_of f
ended f (Some target) = cut_off f

abbrev pub followed : Zone → Found → Option (List (List ℕ)) → (List (List ℕ) → Chain) → Chain
followed zone f None next = last_of f
followed zone f (Some target) next =
    cond (is_followed zone target) (behind f.records (next target)) (cut_off f)

-- from a name on, at most so many more steps
unfoldable pub chain : ℕ → Zone → ℕ → List (List ℕ) → Chain
chain zero zone kind name = ended (found zone name kind) (found zone name kind).target
chain (suc left) zone kind name =
    followed zone (found zone name kind) (found zone name kind).target (chain left zone kind)

-- the end of the run, and its records behind what there was
pub record Ends (c : Chain) (end : End) (old new : List RecordData) : Type 0 where
  pub absent : end.absent ≡ c.absent
  pub denied : end.denied ≡ c.denied
  pub records : new ≡ old ++ c.records

-- an SOA record of a denial (RFC 2308, section 3)
abbrev pub negative_ttl : Rdata → ℕ → ℕ
negative_ttl (rdata.Soa soa) ttl = min ttl soa.minimum
negative_ttl other ttl = ttl

abbrev pub denying : RecordData → RecordData
denying r = record {
  owner = r.owner;
  class = r.class;
  ttl = negative_ttl r.rdata r.ttl;
  rdata = r.rdata;
}

-- the question is for the zone's own servers
abbrev pub asks_servers : Zone → List (List ℕ) → ℕ → Bool
asks_servers zone name kind = is_same name zone.origin && kind == kinds.NS

-- the zone's SOA where the answer denies, else its servers, but not twice
unfoldable pub authority : Zone → List (List ℕ) → ℕ → Bool → List RecordData
authority zone name kind denied =
    cond denied (map denying (set_at zone zone.origin kinds.SOA))
    (cond (asks_servers zone name kind) [] (set_at zone zone.origin kinds.NS))

-- the host that a record names
abbrev pub host_of : Rdata → Option (List (List ℕ))
host_of (rdata.Ns name) = Some name
host_of (rdata.Mx preference name) = Some name
host_of (rdata.Srv priority weight port name) = Some name
host_of other = None

-- a set, unless one of its records stands in the answer or is there already
unfoldable pub with_set : Zone → List RecordData → List RecordData → List (List ℕ) → ℕ
    → List RecordData
with_set zone answer added name kind =
    cond (list_any (is_of name kind) answer || list_any (is_of name kind) added) added
    (added ++ set_at zone name kind)

-- the addresses of a host: A, then AAAA
unfoldable pub with_addresses : Zone → List RecordData → List RecordData
    → Option (List (List ℕ)) → List RecordData
with_addresses zone answer added None = added
with_addresses zone answer added (Some name) =
    with_set zone answer (with_set zone answer added name kinds.A) name kinds.AAAA

-- and of the hosts of records
unfoldable pub with_hosts : Zone → List RecordData → List RecordData → List RecordData
    → List RecordData
with_hosts zone answer added [] = added
with_hosts zone answer added (r ∷ rs) =
    with_hosts zone answer (with_addresses zone answer added (host_of r.rdata)) rs

unfoldable pub additional : Zone → List RecordData → List RecordData → List RecordData
additional zone answer authority =
    with_hosts zone answer (with_hosts zone answer [] answer) authority

-- an answer by AA, RCODE and sections
abbrev pub the_answer : Bool → ℕ → List RecordData → List RecordData → List RecordData
    → AnswerData
the_answer aa rcode answer authority additional = record {
  rcode = rcode;
  aa = aa;
  ra = false;
  tc = false;
  answer = answer;
  authority = authority;
  additional = additional;
}

-- these records as the answer section, and nothing else yet
abbrev pub with_answer : List RecordData → AnswerData
with_answer records = the_answer false rcodes.NOERROR records [] []

-- NXDOMAIN for a name that is absent
abbrev pub rcode_of : Bool → ℕ
rcode_of absent = cond absent rcodes.NXDOMAIN rcodes.NOERROR

-- under a cut: its NS, and the addresses that the zone has for these
unfoldable pub referral : Zone → List RecordData → AnswerData
referral zone servers =
    the_answer false rcodes.NOERROR [] servers (additional zone [] servers)

unfoldable pub positive : Zone → Chain → List RecordData → AnswerData
positive zone c servers =
    the_answer true (rcode_of c.absent) c.records servers (additional zone c.records servers)

-- at most eight CNAME records are followed
abbrev pub whole_chain : Zone → List (List ℕ) → ℕ → Chain
whole_chain zone name kind = chain 8 zone kind name

-- the authoritative answer, where no cut stands above the name
unfoldable pub own_answer : Zone → List (List ℕ) → ℕ → AnswerData
own_answer zone name kind =
    positive zone (whole_chain zone name kind)
    (authority zone name kind (whole_chain zone name kind).denied)

unfoldable pub answer_under : Zone → List (List ℕ) → ℕ → Option (List (List ℕ)) → AnswerData
answer_under zone name kind (Some cut) = referral zone (set_at zone cut kinds.NS)
answer_under zone name kind None = own_answer zone name kind

-- the whole answer
unfoldable pub zone_answer : Zone → List (List ℕ) → ℕ → AnswerData
zone_answer zone name kind = answer_under zone name kind (cut_of zone name)

-- an answer with records as its authority section, and the addresses of the hosts that these name
abbrev pub with_authority : Zone → AnswerData → List RecordData → AnswerData
with_authority zone a records = record {
  rcode = a.rcode;
  aa = a.aa;
  ra = a.ra;
  tc = a.tc;
  answer = a.answer;
  authority = records;
  additional = with_hosts zone a.answer a.additional records;
}

abbrev pub RefersAt : Option (List (List ℕ)) → Zone → Sought → Reached → AnswerData → Type 0
RefersAt (Some cut) zone s reached.Cut a = a ≡ referral zone (s.servers cut)
RefersAt (Some cut) zone s (reached.Lent tail) a =
    with_tail a tail.now ≡ referral zone (s.servers cut)
RefersAt (Some cut) zone s (reached.Found find) a = ⊥
RefersAt None zone s reached.Cut a = ⊥
RefersAt None zone s (reached.Lent tail) a = ⊥
RefersAt None zone s (reached.Found find) a =
    (a ≡ with_answer a.answer) × Finds s.found find [] a.answer

-- the whole referral, with the sections that are lent to it, or what the name gives as the answer
-- section, and nothing else yet
abbrev pub Refers : Zone → Sought → Reached → AnswerData → Type 0
Refers zone s reached a = RefersAt s.cut zone s reached a
