-- What a plan says, by what was made of it.
use Rattle.std.proofs.Common.{◌≡◌, ◌∙◌, ℕ, true, false, List, [], ◌∷◌, ◌++◌, map, Option, Some, None, option_map, refl, sym, ap}
use Rattle.std.specs.Prelude.{slice_get}
use Rattle.std.proofs.lemmas.Option.{slice_get-map}
use Rattle.dns_data.specs.{RecordData, owned_by, reverse_of}
use Rattle.dns_data.specs.Message.{AnswerData, no_answer}
use Rattle.dns_data.specs.declared.query.Query.{Query}
use Rattle.name_table.specs.Table.{IsMissing}
use Rattle.hosts_plugin.specs.declared.listing.Listing.{Listing}
use Rattle.hosts_plugin.specs.Hosts.{HostsData, address_records, address_said, address_say, answer_with, listed_at, listed_for, name_said, name_say, next, plan_listings, pointer_record, reply, unlisted}
use Rattle.hosts_plugin.specs.Index.{IsFound, before, has_some, picked}
use Rattle.hosts_plugin.specs.Made.{IsTable, pointers_of}
use Rattle.hosts_plugin.specs.declared.table.HostsTable.{HostsTable}
use Rattle.hosts_plugin.specs.Options.{has_no_reverse, ttl_of}
use Rattle.hosts_plugin.proofs.Indexing.{found_all, missing_none}

name_filled : (plan : HostsData) (q : Query) (found : List Listing) → has_some found ≡ true → name_said plan q found ≡ reply (answer_with (address_records q (ttl_of plan.directive.body) found))
name_filled plan q [] e = absurd cc
name_filled plan q (l ∷ found) e = refl

address_filled : (plan : HostsData) (q : Query) (found : List Listing) → has_some found ≡ true → address_said plan q found ≡ reply (answer_with (map (pointer_record q.name (ttl_of plan.directive.body)) found))
address_filled plan q [] e = absurd cc
address_filled plan q (l ∷ found) e = refl

-- a name that isn't listed
pub name_unlisted : (plan : HostsData) (table : HostsTable) (q : Query) → IsTable (plan_listings plan) table → IsMissing table.names.names q.name → name_say plan q ≡ unlisted plan q.name
name_unlisted plan table q made m =
    ap (name_said plan q) (ap (listed_for q.name) (sym made.listings_are) ∙ missing_none table.names (λ (l : Listing). l.name) table.listings q.name made.names_are m)

-- one that is
pub name_listed : (plan : HostsData) (table : HostsTable) (ttl : ℕ) (q : Query) (set : List ℕ) → IsTable (plan_listings plan) table → ttl ≡ ttl_of plan.directive.body → IsFound table.names q.name set
    → name_say plan q ≡ reply (answer_with (address_records q ttl (picked table.listings set)))
name_listed plan table ttl q set made t f =
    let all = found_all table.names (λ (l : Listing). l.name) table.listings q.name set made.names_are f in
    ap (name_said plan q) (ap (listed_for q.name) (sym made.listings_are)) ∙ name_filled plan q (listed_for q.name table.listings) all.filled
    ∙ (λ i. reply (answer_with (address_records q (sym t i) (all.is i))))

no_reverse_false : (plan : HostsData) (q : Query) → has_no_reverse plan.directive.body ≡ false → address_say plan q ≡ address_said plan q (listed_at q.name (plan_listings plan))
no_reverse_false plan q e = rw e refl

-- an address that isn't listed
pub address_unlisted : (plan : HostsData) (table : HostsTable) (q : Query) → IsTable (plan_listings plan) table → has_no_reverse plan.directive.body ≡ false → IsMissing table.addresses.names q.name → address_say plan q ≡ next
address_unlisted plan table q made off m =
    no_reverse_false plan q off
    ∙ ap (address_said plan q) (ap (listed_at q.name) (sym made.listings_are) ∙ missing_none table.addresses (λ (l : Listing). reverse_of l.addr) table.listings q.name made.addresses_are m)

owned_item : (owner : List (List ℕ)) (ttl : ℕ) (o : Option Listing) (xs : List RecordData) (ys : List Listing) → map (owned_by owner ttl) xs ≡ map (pointer_record owner ttl) ys
    → map (owned_by owner ttl) (before (option_map (pointer_record [] 0) o) xs) ≡ map (pointer_record owner ttl) (before o ys)
owned_item owner ttl None xs ys e = e
owned_item owner ttl (Some l) xs ys e = ap (λ (rs : List RecordData). pointer_record owner ttl l ∷ rs) e

owned_all : (owner : List (List ℕ)) (ttl : ℕ) (listings : List Listing) (set : List ℕ) → map (owned_by owner ttl) (picked (pointers_of listings) set) ≡ map (pointer_record owner ttl) (picked listings set)
owned_all owner ttl listings [] = refl
owned_all owner ttl listings (i ∷ set) =
    ap (λ (o : Option RecordData). map (owned_by owner ttl) (before o (picked (pointers_of listings) set))) (slice_get-map (pointer_record [] 0) listings i)
    ∙ owned_item owner ttl (slice_get listings i) (picked (pointers_of listings) set) (picked listings set) (owned_all owner ttl listings set)

-- one that is
pub address_listed : (plan : HostsData) (table : HostsTable) (ttl : ℕ) (q : Query) (set : List ℕ) → IsTable (plan_listings plan) table → ttl ≡ ttl_of plan.directive.body → has_no_reverse plan.directive.body ≡ false
    → IsFound table.addresses q.name set → address_say plan q ≡ reply (answer_with (map (owned_by q.name ttl) (picked table.pointers set)))
address_listed plan table ttl q set made t off f =
    let all = found_all table.addresses (λ (l : Listing). reverse_of l.addr) table.listings q.name set made.addresses_are f in
    let records = ap (λ (rs : List RecordData). map (owned_by q.name ttl) (picked rs set)) made.pointers_are ∙ owned_all q.name ttl table.listings set in
    no_reverse_false plan q off
    ∙ ap (address_said plan q) (ap (listed_at q.name) (sym made.listings_are)) ∙ address_filled plan q (listed_at q.name table.listings) all.filled
    ∙ (λ i. reply (answer_with (map (pointer_record q.name (sym t i)) (all.is i))))
    ∙ ap (λ (rs : List RecordData). reply (answer_with rs)) (sym records)

-- an answer in a slot that was clear
abbrev pub with_answer : AnswerData → List RecordData → AnswerData
with_answer old records = record {
  rcode = old.rcode;
  aa = true;
  ra = old.ra;
  tc = old.tc;
  answer = records;
  authority = old.authority;
  additional = old.additional;
}

pub filled : (old : AnswerData) (out records : List RecordData) → old ≡ no_answer → out ≡ old.answer ++ records → with_answer old out ≡ answer_with records
filled old out records e h = ap (with_answer old) h ∙ ap (λ (a : AnswerData). with_answer a (a.answer ++ records)) e
