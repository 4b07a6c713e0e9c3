-- The addresses of hosts behind an answer and others, from those behind nothing.
use Rattle.std.proofs.Common.{◌≡◌, ℕ, ◌+◌, ◌-◌, ◌<◌, Bool, true, false, cond, List, [], ◌∷◌, ◌++◌, length, take, drop, get_or, Option, Some, None, refl, sym, ap, subst, ◌∙◌, arith, inl, inr, map, append_assoc, length-append, eqb-true}
use Rattle.std.specs.Global.{Box}
use Rattle.std.specs.Prelude.{◌⊎◌, ◌&&◌, ◌||◌, ◌==◌, IfSome, slice_get}
use Rattle.std.specs.List.{filter, list_any}
use Rattle.std.proofs.lemmas.Bool.{cond-true, cond-false}
use Rattle.std.proofs.lemmas.List.{append-nil, drop_at, take_all}
use Rattle.std.proofs.lemmas.List.Folds.{list_any-append}
use Rattle.dns_names.specs.Name.{is_same, lowered, same_labels}
use Rattle.dns_data.specs.Record.{RecordData, kind_of}
use Rattle.dns_data.specs.Message.{AnswerData, no_answer}
use Rattle.dns_data.specs.declared.zone.Zone.{Zone}
use Rattle.std.proofs.lemmas.Option.{slice_get-get_or}
use Rattle.name_table.specs.Table.{IsMissing, IsNamed}
use Rattle.zone_lookup.specs.Zone.{is_of, set_at, Begins}
use Rattle.dns_write.specs.Tails.{TailData}
use Rattle.zone_lookup.specs.Ready.{IsDenial, IsReady}
use Rattle.zone_lookup.specs.ZoneAnswer.{denying, host_of, referral, sought, Refers, with_addresses, with_hosts, with_set}
use Rattle.zone_lookup.proofs.PlainList.{set_of}
use Rattle.zone_lookup.proofs.Chaining.{referral_is, with_sections}
use Rattle.zone_lookup.specs.declared.find.Reached.{Reached}
use Rattle.zone_tree.specs.Ready.{AreReferrals, IsReferralAt}
use Rattle.zone_tree.specs.Sets.{is_kind, meet, picked}
use Rattle.zone_tree.specs.Tree.{AreHosts, AreNames, AreSets, IsHostsOf, IsTree}
use Rattle.zone_tree.specs.declared.tree.Tree.{Tree}
use Rattle.zone_tree.proofs.Cutting.{set_case}
use Rattle.zone_tree.proofs.Shapes.{get_either, inside, named_as, named_from}
use Rattle.zone_tree.proofs.Filling.{kind_at, no_set, node_is, same_to}

-- whether others have the name and the type of a record
abbrev pub meets : List RecordData → RecordData → Bool
meets others r = list_any (is_of r.owner (kind_of r.rdata)) others

pub meet_is : (others rs : List RecordData) → list_any (meets others) rs ≡ meet others rs
unfolding meet
meet_is others rs = refl

pub unlike : (other entry : RecordData) → is_same other.owner entry.owner ≡ false → false ≡ is_of entry.owner (kind_of entry.rdata) other
unfolding is_of
unlike other entry e = sym (ap (λ (b : Bool). b && (kind_of other.rdata == kind_of entry.rdata)) e)

pub any_false : (rs : List RecordData) → false ≡ list_any (λ (r : RecordData). false) rs
any_false [] = refl
any_false (r ∷ rs) = any_false rs

pub meet_none : (others rs : List RecordData) → length others ≡ 0 → false ≡ meet others rs
unfolding meet
meet_none [] rs e = any_false rs
meet_none (x ∷ others) rs e = absurd (omega (arith, e))

-- what a test finds in records, by the name and the type of one of those that pass
pub and_parts : (a b : Bool) → (a && b) ≡ true → (a ≡ true) × (b ≡ true)
and_parts true b e = (refl, e)
and_parts false b e = absurd cc

pub any_as : (name : List (List ℕ)) (kind : ℕ) (r : RecordData) (rs : List RecordData) → is_of name kind r ≡ true → list_any (is_of name kind) rs ≡ list_any (is_of r.owner (kind_of r.rdata)) rs
unfolding is_of
any_as name kind r rs e =
    let parts = and_parts (is_same r.owner name) (kind_of r.rdata == kind) e in
    let low : lowered name ≡ lowered r.owner = sym (same_to r.owner name parts.0) in
    let type : kind ≡ kind_of r.rdata = sym (eqb-true (kind_of r.rdata) kind parts.1) in
    λ j. list_any (λ x. same_labels (lowered x.owner) (low j) && (kind_of x.rdata == type j)) rs

pub or_false : (a b : Bool) → (a || b) ≡ false → (a ≡ false) × (b ≡ false)
or_false true b e = absurd cc
or_false false b e = (refl, e)

meet_first : (others : List RecordData) (r : RecordData) (rs : List RecordData) → meet others (r ∷ rs) ≡ false → list_any (is_of r.owner (kind_of r.rdata)) others ≡ false
unfolding meet
meet_first others r rs e = (or_false (list_any (is_of r.owner (kind_of r.rdata)) others) (list_any (λ x. list_any (is_of x.owner (kind_of x.rdata)) others) rs) e).0

meet_parts : (others rs more : List RecordData) → meet others (rs ++ more) ≡ false → (meet others rs ≡ false) × (meet others more ≡ false)
unfolding meet
meet_parts others rs more e = or_false _ _ (sym (list_any-append (λ x. list_any (is_of x.owner (kind_of x.rdata)) others) rs more) ∙ e)

meet_less : (others old new : List RecordData) → Begins old new → meet others new ≡ false → meet others old ≡ false
meet_less others old new b e = (meet_parts others old b.more (ap (meet others) (sym b.is) ∙ e)).0

-- what is appended, begins with what there was
begins_then : (a b c : List RecordData) → Begins a b → Begins b c → Begins a c
begins_then a b c p q = record { more = p.more ++ q.more; is = q.is ∙ ap (λ (rs : List RecordData). rs ++ q.more) p.is ∙ append_assoc a p.more q.more }

begins_or : (b : Bool) (old set : List RecordData) → Begins old (cond b old (old ++ set))
begins_or true old set = record { more = []; is = sym (append-nil old) }
begins_or false old set = record { more = set; is = refl }

set_begins : (zone : Zone) (answer added : List RecordData) (name : List (List ℕ)) (kind : ℕ) → Begins added (with_set zone answer added name kind)
unfolding with_set
set_begins zone answer added name kind = begins_or (list_any (is_of name kind) answer || list_any (is_of name kind) added) added (set_at zone name kind)

addresses_begin : (zone : Zone) (answer added : List RecordData) (host : Option (List (List ℕ))) → Begins added (with_addresses zone answer added host)
unfolding with_addresses
addresses_begin zone answer added None = record { more = []; is = sym (append-nil added) }
addresses_begin zone answer added (Some name) = begins_then added (with_set zone answer added name 1) (with_set zone answer (with_set zone answer added name 1) name 28) (set_begins zone answer added name 1) (set_begins zone answer (with_set zone answer added name 1) name 28)

hosts_begin : (zone : Zone) (answer added rs : List RecordData) → Begins added (with_hosts zone answer added rs)
unfolding with_hosts
hosts_begin zone answer added [] = record { more = []; is = sym (append-nil added) }
hosts_begin zone answer added (r ∷ rs) =
    let here = with_addresses zone answer added (host_of r.rdata) in
    begins_then added here (with_hosts zone answer here rs) (addresses_begin zone answer added (host_of r.rdata)) (hosts_begin zone answer here rs)

-- the first of the records that pass
pub record Head (p : RecordData → Bool) (set : List RecordData) : Type 0 where
  pub first : RecordData
  pub rest : List RecordData
  pub is : set ≡ first ∷ rest
  pub passes : p first ≡ true

head_more : (p : RecordData → Bool) (r : RecordData) (rs : List RecordData) (b : Bool) → p r ≡ b → (rs ≡ []) ⊎ Head p rs → (cond b (r ∷ rs) rs ≡ []) ⊎ Head p (cond b (r ∷ rs) rs)
head_more p r rs true e h = inr (record { first = r; rest = rs; is = refl; passes = e })
head_more p r rs false e h = h

pub head_of : (p : RecordData → Bool) (rs : List RecordData) → (filter p rs ≡ []) ⊎ Head p (filter p rs)
head_of p [] = inl refl
head_of p (r ∷ rs) = head_more p r (filter p rs) (p r) refl (head_of p rs)

-- one set, behind an answer and others that don't have it
none_more : (b : Bool) (old added set : List RecordData) → set ≡ [] → cond b (old ++ added) ((old ++ added) ++ set) ≡ old ++ (added ++ set)
none_more true old added set e = sym (ap (λ (rs : List RecordData). old ++ (added ++ rs)) e ∙ ap (λ (rs : List RecordData). old ++ rs) (append-nil added))
none_more false old added set e = append_assoc old added set

apart_cond : (a o d : Bool) (old added set : List RecordData) → (d ≡ false → (set ≡ []) ⊎ ((a ≡ false) × (o ≡ false))) → cond (a || (o || d)) (old ++ added) ((old ++ added) ++ set) ≡ old ++ cond d added (added ++ set)
apart_cond true o true old added set h = refl
apart_cond false true true old added set h = refl
apart_cond false false true old added set h = refl
apart_cond true o false old added set h = elim (h refl) [
  | inl e ↦ none_more true old added set e
  | inr f ↦ let f0 = f.0 in absurd cc
]
apart_cond false true false old added set h = elim (h refl) [
  | inl e ↦ none_more true old added set e
  | inr f ↦ let f1 = f.1 in absurd cc
]
apart_cond false false false old added set h = append_assoc old added set

-- the set that is added is none, or its name and type stand elsewhere neither in the answer nor in the others
apart_if : (answer old added set : List RecordData) (name : List (List ℕ)) (kind : ℕ) → (set ≡ []) ⊎ Head (is_of name kind) set → meet answer (added ++ set) ≡ false → meet old (added ++ set) ≡ false
    → (set ≡ []) ⊎ ((list_any (is_of name kind) answer ≡ false) × (list_any (is_of name kind) old ≡ false))
apart_if answer old added set name kind (inl e) m n = inl e
apart_if answer old added set name kind (inr h) m n =
    let in_answer = ap (meet answer) (sym h.is) ∙ (meet_parts answer added set m).1 in
    let in_old = ap (meet old) (sym h.is) ∙ (meet_parts old added set n).1 in
    inr (any_as name kind h.first answer h.passes ∙ meet_first answer h.first h.rest in_answer, any_as name kind h.first old h.passes ∙ meet_first old h.first h.rest in_old)

set_apart : (zone : Zone) (answer old added : List RecordData) (name : List (List ℕ)) (kind : ℕ) → (kind ≡ 255 → ⊥) → meet answer (with_set zone [] added name kind) ≡ false → meet old (with_set zone [] added name kind) ≡ false
    → with_set zone answer (old ++ added) name kind ≡ old ++ with_set zone [] added name kind
unfolding with_set
set_apart zone answer old added name kind other m n =
    let p = is_of name kind in
    let set = set_at zone name kind in
    let head : (set ≡ []) ⊎ Head p set = subst (λ (rs : List RecordData). (rs ≡ []) ⊎ Head p rs) (set_of zone name kind other) (head_of p zone.records) in
    ap (λ (b : Bool). cond (list_any p answer || b) (old ++ added) ((old ++ added) ++ set)) (list_any-append p old added)
    ∙ apart_cond (list_any p answer) (list_any p old) (list_any p added) old added set (λ d. apart_if answer old added set name kind head
    (sym (ap (λ (b : Bool). meet answer (cond b added (added ++ set))) d) ∙ m) (sym (ap (λ (b : Bool). meet old (cond b added (added ++ set))) d) ∙ n))

addresses_apart : (zone : Zone) (answer old added : List RecordData) (host : Option (List (List ℕ))) → meet answer (with_addresses zone [] added host) ≡ false → meet old (with_addresses zone [] added host) ≡ false
    → with_addresses zone answer (old ++ added) host ≡ old ++ with_addresses zone [] added host
unfolding with_addresses
addresses_apart zone answer old added None m n = refl
addresses_apart zone answer old added (Some name) m n =
    let first = with_set zone [] added name 1 in
    let last = with_set zone [] first name 28 in
    let begins = set_begins zone [] first name 28 in
    ap (λ (rs : List RecordData). with_set zone answer rs name 28) (set_apart zone answer old added name 1 (λ e. omega (arith, e)) (meet_less answer first last begins m) (meet_less old first last begins n))
    ∙ set_apart zone answer old first name 28 (λ e. omega (arith, e)) m n

hosts_apart : (zone : Zone) (answer old added rs : List RecordData) → meet answer (with_hosts zone [] added rs) ≡ false → meet old (with_hosts zone [] added rs) ≡ false
    → with_hosts zone answer (old ++ added) rs ≡ old ++ with_hosts zone [] added rs
unfolding with_hosts
hosts_apart zone answer old added [] m n = refl
hosts_apart zone answer old added (r ∷ rs) m n =
    let here = with_addresses zone [] added (host_of r.rdata) in
    let all = with_hosts zone [] here rs in
    let begins = hosts_begin zone [] here rs in
    ap (λ (x : List RecordData). with_hosts zone answer x rs) (addresses_apart zone answer old added (host_of r.rdata) (meet_less answer here all begins m) (meet_less old here all begins n))
    ∙ hosts_apart zone answer old here rs m n

-- the addresses of hosts, of which none stands in the answer or was there
pub glue_apart : (zone : Zone) (answer old rs : List RecordData) → meet answer (with_hosts zone [] [] rs) ≡ false → meet old (with_hosts zone [] [] rs) ≡ false → with_hosts zone answer old rs ≡ old ++ with_hosts zone [] [] rs
glue_apart zone answer old rs m n = ap (λ (x : List RecordData). with_hosts zone answer x rs) (sym (append-nil old)) ∙ hosts_apart zone answer old [] rs m n

-- a set more among the numbers
pub set_there : (zone : Zone) (added : List RecordData) (name : List (List ℕ)) (kind : ℕ) → list_any (is_of name kind) added ≡ true → added ≡ with_set zone [] added name kind
unfolding with_set
set_there zone added name kind e = sym (cond-true _ _ _ e)

set_new : (zone : Zone) (added : List RecordData) (name : List (List ℕ)) (kind : ℕ) → list_any (is_of name kind) added ≡ false → added ++ set_at zone name kind ≡ with_set zone [] added name kind
unfolding with_set
set_new zone added name kind e = sym (cond-false _ _ _ e)

pub set_missing : (names : List (List (List ℕ))) (zone : Zone) (added : List RecordData) (name : List (List ℕ)) (kind : ℕ) → AreNames names zone.records → IsMissing names name → list_any (is_of name kind) added ≡ false
    → added ≡ with_set zone [] added name kind
set_missing names zone added name kind n missing e =
    sym (append-nil added) ∙ ap (λ (rs : List RecordData). added ++ rs) (sym (no_set names zone name kind n missing)) ∙ set_new zone added name kind e

pub set_found : (names : List (List (List ℕ))) (zone : Zone) (sets : List (List ℕ)) (added : List RecordData) (name : List (List ℕ)) (number kind : ℕ) (set : List ℕ) → AreSets names zone.records sets (length zone.records)
    → IsNamed names number name → set ≡ get_or sets number set → (kind ≡ 255 → ⊥) → list_any (is_of name kind) added ≡ false → added ++ filter (is_kind kind) (picked zone.records set) ≡ with_set zone [] added name kind
set_found names zone sets added name number kind set s n is other e =
    ap (λ (rs : List RecordData). added ++ filter (is_kind kind) rs) (node_is names zone.records sets number name set s n is)
    ∙ ap (λ (rs : List RecordData). added ++ rs) (kind_at name kind zone.records ∙ set_of zone name kind other) ∙ set_new zone added name kind e

-- the NS set of a name by its number
pub servers_of : (names : List (List (List ℕ))) (zone : Zone) (sets : List (List ℕ)) (name : List (List ℕ)) (number : ℕ) (set : List ℕ) → AreSets names zone.records sets (length zone.records)
    → IsNamed names number name → set ≡ get_or sets number set → filter (is_kind 2) (picked zone.records set) ≡ set_at zone name 2
servers_of names zone sets name number set s n is =
    ap (filter (is_kind 2)) (node_is names zone.records sets number name set s n is) ∙ kind_at name 2 zone.records ∙ set_of zone name 2 (λ e. omega (arith, e))

-- the hosts of one name more
hosts_at : (zone : Zone) (name : List (List ℕ)) (kept : Option (List ℕ)) (servers : List RecordData) → servers ≡ set_at zone name 2 → IfSome kept (λ set. picked zone.records set ≡ with_hosts zone [] [] servers) → IsHostsOf zone kept name
hosts_at zone name None servers e h = tt
hosts_at zone name (Some set) servers e h = h ∙ ap (with_hosts zone [] []) e

pub hosts_more : (names : List (List (List ℕ))) (zone : Zone) (sets : List (List ℕ)) (hosts : List (Option (List ℕ))) (i : ℕ) (set : List ℕ) (kept : Option (List ℕ)) (servers : List RecordData)
    → AreSets names zone.records sets (length zone.records) → AreHosts names zone hosts i → i < length names → set ≡ get_or sets i set → servers ≡ filter (is_kind 2) (picked zone.records set)
    → IfSome kept (λ set. picked zone.records set ≡ with_hosts zone [] [] servers) → AreHosts names zone (hosts ++ kept ∷ []) (i + 1)
hosts_more names zone sets hosts i set kept servers s h lt set_is servers_is k = record {
  as_many = omega (arith, h.as_many, length-append hosts (kept ∷ []));
  each = λ j name of at in_hosts. elim (get_either hosts kept of j in_hosts) [
    | inl old ↦ h.each j name of at old
    | inr new ↦
        let here : slice_get names i ≡ Some name = subst (λ (k : ℕ). slice_get names k ≡ Some name) (new.0 ∙ h.as_many) at in
        let named = named_from names i name name here refl in
        subst (λ (o : Option (List ℕ)). IsHostsOf zone o name) new.1 (hosts_at zone name kept servers (servers_is ∙ servers_of names zone sets name i set s named set_is) k)
  ];
}

-- the NS set of a number of the table
pub servers_at : (tree : Tree) (name : List (List ℕ)) (i : ℕ) (set : List ℕ) → IsTree tree → IsNamed tree.table i name → set ≡ get_or tree.sets.items i set → filter (is_kind 2) (picked tree.zone.records set) ≡ set_at tree.zone name 2
servers_at tree name i set t n is = servers_of tree.table tree.zone tree.sets.items name i set t.sets n is

-- and copies of that set
pub served : (tree : Tree) (name : List (List ℕ)) (i : ℕ) (set : List ℕ) (records : List RecordData) (numbers : List ℕ) (old new : List RecordData) → IsTree tree → IsNamed tree.table i name → set ≡ get_or tree.sets.items i set
    → records ≡ tree.zone.records → numbers ≡ set → new ≡ old ++ filter (is_kind 2) (picked records numbers) → new ≡ old ++ set_at tree.zone name 2
served tree name i set records numbers old new t n is all some e =
    e ∙ (λ j. old ++ filter (is_kind 2) (picked (all j) (some j))) ∙ ap (λ (rs : List RecordData). old ++ rs) (servers_at tree name i set t n is)

hosts_move : (zone : Zone) (a b : List (List ℕ)) (kept : Option (List ℕ)) → lowered a ≡ lowered b → IsHostsOf zone kept a → IsHostsOf zone kept b
hosts_move zone a b None e h = tt
hosts_move zone a b (Some set) e h = h ∙ ap (with_hosts zone [] []) (set_case zone a b 2 e)

hosts_kept : (tree : Tree) (name : List (List ℕ)) (i : ℕ) (kept : Option (List ℕ)) → IsTree tree → IsNamed tree.table i name → kept ≡ get_or tree.hosts.items i kept → IsHostsOf tree.zone kept name
hosts_kept tree name i kept t n is =
    let of = named_as tree.table i name n in
    let lt : i < length tree.hosts.items = omega (arith, t.hosts.as_many, inside tree.table i name n) in
    hosts_move tree.zone of.name name kept of.same (t.hosts.each i of.name kept of.is (slice_get-get_or tree.hosts.items i kept lt ∙ ap Some (sym is)))

-- and its hosts' addresses
pub hosts_known : (tree : Tree) (name : List (List ℕ)) (i : ℕ) (kept : Option (List ℕ)) (set : List ℕ) → IsTree tree → IsNamed tree.table i name → kept ≡ get_or tree.hosts.items i kept → kept ≡ Some set
    → picked tree.zone.records set ≡ with_hosts tree.zone [] [] (set_at tree.zone name 2)
hosts_known tree name i kept set t n is some = subst (λ (o : Option (List ℕ)). IsHostsOf tree.zone o name) some (hosts_kept tree name i kept t n is)

-- a referral, section by section
pub referral_of : (zone : Zone) (slot : AnswerData) (servers authority additional : List RecordData) → slot ≡ no_answer → authority ≡ slot.authority ++ servers → additional ≡ with_hosts zone [] slot.additional authority
    → with_sections slot slot.answer authority additional ≡ referral zone servers
referral_of zone slot servers authority additional e was add =
    let same : authority ≡ servers = was ∙ ap (λ (a : AnswerData). a.authority ++ servers) e in
    let glue : additional ≡ with_hosts zone [] [] authority = add ∙ ap (λ (a : AnswerData). with_hosts zone [] a.additional authority) e in
    ap (λ (a : AnswerData). with_sections a a.answer authority additional) e ∙ referral_is zone servers [] authority additional refl same glue

pub referral_known : (zone : Zone) (slot : AnswerData) (servers hosts authority additional : List RecordData) → slot ≡ no_answer → authority ≡ slot.authority ++ servers → additional ≡ slot.additional ++ hosts
    → hosts ≡ with_hosts zone [] [] servers → with_sections slot slot.answer authority additional ≡ referral zone servers
referral_known zone slot servers hosts authority additional e was add known =
    let same : authority ≡ servers = was ∙ ap (λ (a : AnswerData). a.authority ++ servers) e in
    let none : slot.additional ≡ [] = ap (λ (a : AnswerData). a.additional) e in
    referral_of zone slot servers authority additional e was
    (add ∙ ap (λ (rs : List RecordData). rs ++ hosts) none ∙ known ∙ ap (with_hosts zone [] []) (sym same) ∙ ap (λ (rs : List RecordData). with_hosts zone [] rs authority) (sym none))

-- a zone by another name
pub refers_in : (x y : Zone) (name : List (List ℕ)) (kind : ℕ) (reached : Reached) (a : AnswerData) → x ≡ y → Refers x (sought x name kind) reached a → Refers y (sought y name kind) reached a
refers_in x y name kind reached a e r = subst (λ (z : Zone). Refers z (sought z name kind) reached a) e r

-- what was copied by number, where none of it meets the answer or what was there
pub known_apart : (zone : Zone) (answer old rs hosts new : List RecordData) → hosts ≡ with_hosts zone [] [] rs → meet answer hosts ≡ false → meet old hosts ≡ false → new ≡ old ++ hosts → new ≡ with_hosts zone answer old rs
known_apart zone answer old rs hosts new known m n e =
    e ∙ ap (λ (x : List RecordData). old ++ x) known ∙ sym (glue_apart zone answer old rs (sym (ap (meet answer) known) ∙ m) (sym (ap (meet old) known) ∙ n))

pub addresses_two : (zone : Zone) (first last added : List RecordData) (name : List (List ℕ)) → first ≡ with_set zone [] added name 1 → last ≡ with_set zone [] first name 28 → last ≡ with_addresses zone [] added (Some name)
unfolding with_addresses
addresses_two zone first last added name e f = f ∙ ap (λ (rs : List RecordData). with_set zone [] rs name 28) e

pub addresses_none : (zone : Zone) (added : List RecordData) → added ≡ with_addresses zone [] added None
unfolding with_addresses
addresses_none zone added = refl

-- what stands behind what there was
pub rest_is : (old set all : List RecordData) (start : ℕ) → start ≡ length old → all ≡ old ++ set → take (length all - start) (drop start all) ≡ set
rest_is old set all start e f =
    (λ j. take (length (f j) - e j) (drop (e j) (f j))) ∙ ap (take (length (old ++ set) - length old)) (drop_at old set (length old) refl)
    ∙ take_all (length (old ++ set) - length old) set (omega (arith, length-append old set))

-- the NS of a name and the addresses of their hosts, as a tail of copies of both
pub referral_tail : (tree : Tree) (number : ℕ) (servers hosts front back : List RecordData) (tail : TailData) → IsReferralAt tree number (record { authority = servers; additional = hosts }) → front ≡ servers → back ≡ hosts
    → tail ≡ record { authority = front; additional = back } → IsReferralAt tree number tail
referral_tail tree number servers hosts front back tail r f b e name n =
    let s = r name n in
    record {
      authority = ap (λ (t : TailData). t.authority) e ∙ f ∙ s.authority;
      additional = ap (λ (t : TailData). t.additional) e ∙ b ∙ s.additional;
    }

-- those of the origin
pub ready_from : (tree : Tree) (number : ℕ) (tail : TailData) → IsReferralAt tree number tail → IsNamed tree.table number tree.zone.origin → IsReady tree.zone [] tail
ready_from tree number tail r n = let s = r tree.zone.origin n in record { authority = s.authority; additional = s.additional }

-- with the next name's
pub referrals_more : (tree : Tree) (tails : List (Option (Box TailData))) (tail : Option (Box TailData)) (i : ℕ) → AreReferrals tree tails i → IfSome tail (λ t. IsReferralAt tree i t.value) → AreReferrals tree (tails ++ tail ∷ []) (i + 1)
referrals_more tree tails tail i r is = record {
  as_many = omega (arith, r.as_many, length-append tails (tail ∷ []));
  each = λ j other at. elim (get_either tails tail other j at) [
    | inl old ↦ r.each j other old
    | inr new ↦
        let here : IfSome tail (λ t. IsReferralAt tree j t.value) = subst (λ (k : ℕ). IfSome tail (λ t. IsReferralAt tree k t.value)) (sym r.as_many ∙ sym new.0) is in
        subst (λ (o : Option (Box TailData)). IfSome o (λ t. IsReferralAt tree j t.value)) new.1 here
  ];
}

-- what stands ready at a number
pub referral_kept : (tree : Tree) (tails : List (Option (Box TailData))) (number : ℕ) (kept : Option (Box TailData)) → AreReferrals tree tails (length tree.table) → number < length tree.table → kept ≡ get_or tails number kept
    → IfSome kept (λ t. IsReferralAt tree number t.value)
referral_kept tree tails number kept r lt is =
    let inside : number < length tails = omega (arith, r.as_many, lt) in
    r.each number kept (slice_get-get_or tails number kept inside ∙ ap Some (sym is))

-- the same behind an answer that has none of the addresses
pub ready_apart : (zone : Zone) (answer : List RecordData) (tail : TailData) → IsReady zone [] tail → meet answer tail.additional ≡ false → IsReady zone answer tail
ready_apart zone answer tail r m =
    let rs : List RecordData = set_at zone zone.origin 2 in
    record {
      authority = r.authority;
      additional = r.additional ∙ sym (glue_apart zone answer [] rs (sym (ap (meet answer) r.additional) ∙ m) (sym (meet_none [] (with_hosts zone [] [] rs) refl)));
    }

-- the SOA of a denial that stands ready
pub denial_from : (zone : Zone) (soa rest : List RecordData) (tail : TailData) → soa ≡ map denying (set_at zone zone.origin 6) → rest ≡ [] → tail ≡ record { authority = soa; additional = rest } → IsDenial zone tail
denial_from zone soa rest tail s r e = record {
  authority = ap (λ (t : TailData). t.authority) e ∙ s;
  additional = ap (λ (t : TailData). t.additional) e ∙ r;
}
