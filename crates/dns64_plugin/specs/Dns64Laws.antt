-- Laws of what `dns64` makes of addresses and replies, for those who run a chain.
use Rattle.std.proofs.Common.{◌≡◌, ◌<◌, ◌^◌, ◌/◌, ◌%◌, ℕ, Bool, true, false, List, ◌∷◌, Some, None, map, codes, refl, ap, ◌∙◌, if◌then◌else◌}
use Rattle.std.specs.Prelude.{◌==◌, ◌&&◌}
use Rattle.std.specs.List.{list_any}
use Rattle.std.proofs.lemmas.Bool.{eq-eqb}
use Rattle.std.proofs.lemmas.Nat.{div-mul-add, mod-mul-add}
use Rattle.dns_addr.specs.AddrText.{addr_of, groups_of, net_of, v4_of, v6_of}
use Rattle.dns_data.specs.Message.{AnswerData}
use Rattle.dns_data.specs.Record.{RecordData}
use Rattle.dns_data.specs.declared.directive.Directive.{Directive}
use Rattle.dns_data.specs.declared.query.Query.{Query}
use Rattle.dns_data.specs.declared.rcode.TheConstants as rcodes
use Rattle.dns64_plugin.specs.Dns64.{alias, alias_ttl, combined, is_a, ptr_answer, translated}
use Rattle.dns64_plugin.specs.Prefixes.{embedded, extracted, prefix_in, well_known}

-- the prefix for all, as it is written in a directive
pub well_known_is : prefix_in (codes "64:ff9b::/96") ≡ Some well_known
unfolding prefix_in net_of addr_of v4_of v6_of groups_of
well_known_is = refl

if_true : {A : Type 0} (t : Bool) (x y : A) → t ≡ true → (if t then x else y) ≡ x
if_true true x y is = refl
if_true false x y is = absurd cc

-- an address that stands for one of IPv4 leads back to it
pub extracted_embedded : (prefix addr : ℕ) → addr < 2 ^ 32 → extracted prefix (embedded prefix addr) ≡ Some addr
extracted_embedded prefix addr small =
    if_true (embedded prefix addr / 2 ^ 32 == prefix) (Some (embedded prefix addr % 2 ^ 32)) None
    (eq-eqb (embedded prefix addr / 2 ^ 32) prefix (div-mul-add prefix (2 ^ 32) addr small)) ∙ ap Some (mod-mul-add prefix (2 ^ 32) addr small)

-- with other records behind its answer
abbrev pub behind : List RecordData → List RecordData → AnswerData → AnswerData
behind authority additional a = record a { authority = authority; additional = additional }

either_code : (t : Bool) (a : AnswerData) (answer : List RecordData) → (if t then record a { answer = answer } else a).rcode ≡ a.rcode
either_code true a answer = refl
either_code false a answer = refl

either_behind : (t : Bool) (a : AnswerData) (answer authority additional : List RecordData)
    → (if t then record (behind authority additional a) { answer = answer } else behind authority additional a) ≡ behind authority additional (if t then record a { answer = answer } else a)
either_behind true a answer authority additional = refl
either_behind false a answer authority additional = refl

-- the RCODE of a reply stays
pub combined_code : (d : Directive) (bound : ℕ) (a : AnswerData) → (combined d bound a).rcode ≡ a.rcode
combined_code d bound a =
    either_code (a.rcode == rcodes.NOERROR && list_any (λ (r : RecordData). is_a r.rdata) a.answer) a (map (translated d bound) a.answer)

pub pointed_code : (q inner : Query) (a : AnswerData) → (ptr_answer q inner a).rcode ≡ a.rcode
pointed_code q inner a = either_code (a.rcode == rcodes.NOERROR) a (alias q inner (alias_ttl a.answer) ∷ a.answer)

-- and what stands behind its answer takes no part
pub combined_behind : (d : Directive) (bound : ℕ) (a : AnswerData) (authority additional : List RecordData)
    → combined d bound (behind authority additional a) ≡ behind authority additional (combined d bound a)
combined_behind d bound a authority additional =
    either_behind (a.rcode == rcodes.NOERROR && list_any (λ (r : RecordData). is_a r.rdata) a.answer) a (map (translated d bound) a.answer) authority additional

pub pointed_behind : (q inner : Query) (a : AnswerData) (authority additional : List RecordData)
    → ptr_answer q inner (behind authority additional a) ≡ behind authority additional (ptr_answer q inner a)
pointed_behind q inner a authority additional =
    either_behind (a.rcode == rcodes.NOERROR) a (alias q inner (alias_ttl a.answer) ∷ a.answer) authority additional
