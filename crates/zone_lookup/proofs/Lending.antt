-- Sections that are lent to an answer.
use Rattle.std.proofs.Common.{◌≡◌, ℕ, Bool, true, false, cond, List, [], ◌∷◌, Option, Some, None, refl, sym, ap, ◌∙◌, arith, map, eqb-true}
use Rattle.std.specs.Prelude.{◌&&◌, ◌==◌}
use Rattle.std.specs.List.{filter}
use Rattle.dns_data.specs.Record.{RecordData, kind_of}
use Rattle.dns_data.specs.declared.zone.Zone.{Zone}
use Rattle.dns_data.specs.declared.kind.TheConstants as kinds
use Rattle.dns_data.specs.declared.record.Rdata.{Rdata}
use Rattle.dns_data.specs.declared.record.Rdata.TheVariants as rdata
use Rattle.dns_write.specs.Tails.{TailData}
use Rattle.dns_names.specs.Name.{is_same}
use Rattle.zone_lookup.specs.Zone.{is_of, set_at}
use Rattle.zone_lookup.specs.ZoneAnswer.{asks_servers, authority, denying, host_of, with_addresses, with_hosts}
use Rattle.zone_lookup.specs.Ready.{IsDenial, IsReady, StandsBehind}
use Rattle.zone_lookup.proofs.PlainList.{set_of}

-- an SOA record names no host
soa_names_none : (d : Rdata) → kind_of d ≡ kinds.SOA → host_of d ≡ None
soa_names_none (rdata.A addr) e = refl
soa_names_none (rdata.Ns name) e = absurd (omega (arith, e))
soa_names_none (rdata.Cname name) e = refl
soa_names_none (rdata.Soa soa) e = refl
soa_names_none (rdata.Ptr name) e = refl
soa_names_none (rdata.Hinfo cpu os) e = refl
soa_names_none (rdata.Mx preference name) e = absurd (omega (arith, e))
soa_names_none (rdata.Txt strings) e = refl
soa_names_none (rdata.Aaaa addr) e = refl
soa_names_none (rdata.Srv priority weight port name) e = absurd (omega (arith, e))
soa_names_none (rdata.Caa flags tag value) e = refl
soa_names_none (rdata.Opaque kind bytes) e = refl

has_kind : (a b : Bool) → (a && b) ≡ true → b ≡ true
has_kind true b e = e
has_kind false b e = absurd cc

of_kind : (name : List (List ℕ)) (kind : ℕ) (r : RecordData) → is_of name kind r ≡ true → kind_of r.rdata ≡ kind
unfolding is_of
of_kind name kind r e = eqb-true (kind_of r.rdata) kind (has_kind (is_same r.owner name) (kind_of r.rdata == kind) e)

no_addresses : (zone : Zone) (answer added : List RecordData) (host : Option (List (List ℕ))) → host ≡ None → with_addresses zone answer added host ≡ added
unfolding with_addresses
no_addresses zone answer added None e = refl
no_addresses zone answer added (Some name) e = absurd cc

one_soa : (zone : Zone) (answer added : List RecordData) (name : List (List ℕ)) (r : RecordData) (rest : List RecordData) (b : Bool) → is_of name kinds.SOA r ≡ b → with_hosts zone answer added (map denying rest) ≡ added
    → with_hosts zone answer added (map denying (cond b (r ∷ rest) rest)) ≡ added
unfolding with_hosts
one_soa zone answer added name r rest false e h = h
one_soa zone answer added name r rest true e h =
    let none = soa_names_none r.rdata (of_kind name kinds.SOA r e) in
    ap (λ (rs : List RecordData). with_hosts zone answer rs (map denying rest)) (no_addresses zone answer added (host_of r.rdata) none) ∙ h

filtered_soa : (zone : Zone) (answer added : List RecordData) (name : List (List ℕ)) (rs : List RecordData) → with_hosts zone answer added (map denying (filter (is_of name kinds.SOA) rs)) ≡ added
unfolding with_hosts
filtered_soa zone answer added name [] = refl
filtered_soa zone answer added name (r ∷ rs) = one_soa zone answer added name r (filter (is_of name kinds.SOA) rs) (is_of name kinds.SOA r) refl (filtered_soa zone answer added name rs)

-- the records of a denial name no hosts
pub denial_names_none : (zone : Zone) (answer added : List RecordData) (name : List (List ℕ)) → with_hosts zone answer added (map denying (set_at zone name kinds.SOA)) ≡ added
denial_names_none zone answer added name =
    ap (λ (rs : List RecordData). with_hosts zone answer added (map denying rs)) (sym (set_of zone name kinds.SOA (λ e. omega (arith, e)))) ∙ filtered_soa zone answer added name zone.records

-- what stands ready for a denial stands behind it
pub denial_behind : (zone : Zone) (name : List (List ℕ)) (kind : ℕ) (answer : List RecordData) (denied : Bool) (tail : TailData) → denied ≡ true → IsDenial zone tail → StandsBehind zone answer (authority zone name kind denied) tail
unfolding authority
denial_behind zone name kind answer true tail e d = record {
  authority = d.authority;
  additional = d.additional ∙ sym (denial_names_none zone answer [] zone.origin);
}
denial_behind zone name kind answer false tail e d = absurd cc

-- and so do the servers where nothing is denied and the question isn't for them
pub servers_behind : (zone : Zone) (name : List (List ℕ)) (kind : ℕ) (answer : List RecordData) (denied asked : Bool) (tail : TailData) → denied ≡ false → asked ≡ asks_servers zone name kind → asked ≡ false → IsReady zone answer tail
    → StandsBehind zone answer (authority zone name kind denied) tail
unfolding authority
servers_behind zone name kind answer denied asked tail d is e r =
    let other : asks_servers zone name kind ≡ false = sym is ∙ e in
    rw (d, other) (record { authority = r.authority; additional = r.additional })
