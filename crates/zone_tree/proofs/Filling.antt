-- The records of each name, as they are told one by one.
use Rattle.std.proofs.Common.{◌≡◌, ℕ, ◌+◌, ◌<◌, Bool, true, false, cond, List, [], ◌∷◌, ◌++◌, length, take, drop, get_or, map, Option, Some, None, refl, sym, ap, subst, ◌∙◌, arith, inl, inr}
use Rattle.std.specs.Prelude.{IfSome, IfNone, is_some, slice_get, slice_set, ◌&&◌, ◌||◌, ◌==◌, not}
use Rattle.std.specs.List.{filter, list_any}
use Rattle.std.proofs.lemmas.List.{length-set, take_more, take_all, append-nil}
use Rattle.std.proofs.lemmas.List.Elements.{filter-append}
use Rattle.std.proofs.lemmas.Option.{slice_get-get_or}
use Rattle.std.proofs.lemmas.Bool.{cases_Bool, cond-true, cond-false}
use Rattle.std.proofs.lemmas.Bool.Decides.{nat_tests}
use Rattle.std.proofs.Common.{eqb-true}
use Rattle.dns_names.specs.Name.{is_same, is_within, lowered, same_labels}
use Rattle.dns_data.specs.Record.{RecordData, kind_of}
use Rattle.dns_data.specs.declared.zone.Zone.{Zone}
use Rattle.name_table.specs.Table.{IsMissing, IsNamed, IsNumberOf}
use Rattle.dns_names.specs.WithinLaws.{same_is}
use Rattle.zone_lookup.specs.Zone.{is_at, is_of, by_type, exists_in, set_at, has_at}
use Rattle.zone_lookup.specs.ZoneAnswer.{found_at, is_alias, alias_found, set_found, Finds, owned_by, target_of, with_owner}
use Rattle.zone_lookup.specs.declared.find.Find.{Find}
use Rattle.zone_lookup.proofs.PlainList.{has_any, has_of}
use Rattle.zone_tree.specs.Sets.{before, is_asked, is_kind, picked, set_in, is_alias_in, found_in}
use Rattle.zone_tree.specs.Tree.{AreEmpty, AreNames, AreSets, IsNumbered, exists_among}
use Rattle.zone_tree.proofs.Picking.{picked-append, picked_one, picked_none}
use Rattle.zone_tree.proofs.Shapes.{named_as, named_from, inside, set_either, under_true}
use Rattle.std.proofs.lemmas.List.{drop_at}

pub same_from : (a b : List (List ℕ)) → lowered a ≡ lowered b → is_same a b ≡ true
same_from a b e = (same_is a b).1 e

pub same_to : (a b : List (List ℕ)) → is_same a b ≡ true → lowered a ≡ lowered b
same_to a b e = (same_is a b).0 e

at_true : (name : List (List ℕ)) (r : RecordData) → lowered r.owner ≡ lowered name → is_at name r ≡ true
unfolding is_at
at_true name r e = same_from r.owner name e

at_to : (name : List (List ℕ)) (r : RecordData) → is_at name r ≡ true → lowered r.owner ≡ lowered name
unfolding is_at
at_to name r e = same_to r.owner name e

-- with no records told each set is empty
pub fills_none : (names : List (List (List ℕ))) (records : List RecordData) (sets : List (List ℕ)) → AreEmpty sets (length names) → AreSets names records sets 0
fills_none names records sets e = record {
  as_many = e.as_many;
  each = λ i name set at is. ap (picked records) (e.each i set is) ∙ picked_none records;
}

pub no_false : (b : Bool) → (b ≡ true → ⊥) → b ≡ false
no_false true h = absurd (h refl)
no_false false h = refl

more_here : (records : List RecordData) (i : ℕ) (r : RecordData) (name : List (List ℕ)) → i < length records → r ≡ get_or records i r → is_at name r ≡ true
    → filter (is_at name) (take (i + 1) records) ≡ filter (is_at name) (take i records) ++ r ∷ []
more_here records i r name lt here yes_at =
    let p = is_at name in
    let more : take (i + 1) records ≡ take i records ++ r ∷ [] = take_more records i r lt ∙ ap (λ (x : RecordData). take i records ++ x ∷ []) (sym here) in
    let one : filter p (r ∷ []) ≡ r ∷ [] = cond-true _ _ _ yes_at in
    ap (filter p) more ∙ filter-append p (take i records) (r ∷ []) ∙ ap (λ (rs : List RecordData). filter p (take i records) ++ rs) one

more_elsewhere : (records : List RecordData) (i : ℕ) (r : RecordData) (name : List (List ℕ)) → i < length records → r ≡ get_or records i r → is_at name r ≡ false
    → filter (is_at name) (take (i + 1) records) ≡ filter (is_at name) (take i records)
more_elsewhere records i r name lt here not_at =
    let p = is_at name in
    let more : take (i + 1) records ≡ take i records ++ r ∷ [] = take_more records i r lt ∙ ap (λ (x : RecordData). take i records ++ x ∷ []) (sym here) in
    let none : filter p (r ∷ []) ≡ [] = cond-false _ _ _ not_at in
    ap (filter p) more ∙ filter-append p (take i records) (r ∷ []) ∙ ap (λ (rs : List RecordData). filter p (take i records) ++ rs) none ∙ append-nil (filter p (take i records))

-- a record whose owner has a number
pub fills : (names : List (List (List ℕ))) (records : List RecordData) (sets : List (List ℕ)) (i number : ℕ) (r : RecordData) (old new : List ℕ) → AreSets names records sets i → i < length records → r ≡ get_or records i r
    → IsNumberOf names r.owner number → old ≡ get_or sets number old → new ≡ old ++ i ∷ [] → AreSets names records (slice_set sets number new) (i + 1)
fills names records sets i number r old new s lt here n was is = record {
  as_many = omega (arith, s.as_many, length-set sets number new);
  each = λ j name set at in_set. elim (set_either sets number j new set in_set) [
    | inl hit ↦
        let of = named_as names number r.owner n.is in
        let at_number : slice_get names number ≡ Some name = subst (λ (k : ℕ). slice_get names k ≡ Some name) (sym hit.0) at in
        let same_name : of.name ≡ name = cc in
        let same : lowered r.owner ≡ lowered name = sym of.same ∙ ap lowered same_name in
        let inside_sets : number < length sets = omega (arith, s.as_many, inside names number r.owner n.is) in
        let before_is : picked records old ≡ filter (is_at name) (take i records) =
        s.each number name old at_number (slice_get-get_or sets number old inside_sets ∙ ap Some (sym was)) in
        let record_is : slice_get records i ≡ Some r = slice_get-get_or records i r lt ∙ ap Some (sym here) in
        ap (picked records) (sym hit.1 ∙ is) ∙ picked-append records old (i ∷ [])
        ∙ (λ k. before_is k ++ (picked_one records i ∙ ap (λ (o : Option RecordData). before o []) record_is) k)
        ∙ sym (more_here records i r name lt here (at_true name r same))
    | inr other ↦
        let not_at = no_false (is_at name r) (λ t. other.0 (sym (n.only j (named_from names j name r.owner at (sym (at_to name r t)))))) in
        s.each j name set at other.1 ∙ sym (more_elsewhere records i r name lt here not_at)
  ];
}

-- and one whose owner has none
pub passes_by : (names : List (List (List ℕ))) (records : List RecordData) (sets : List (List ℕ)) (i : ℕ) (r : RecordData) → AreSets names records sets i → i < length records → r ≡ get_or records i r
    → IsMissing names r.owner → AreSets names records sets (i + 1)
passes_by names records sets i r s lt here missing = record {
  as_many = s.as_many;
  each = λ j name set at in_set.
      let not_at = no_false (is_at name r) (λ t. missing j (named_from names j name r.owner at (sym (at_to name r t)))) in
      s.each j name set at in_set ∙ sym (more_elsewhere records i r name lt here not_at);
}

abbrev same_low : RecordData → List (List ℕ) → Bool
same_low r low = same_labels (lowered r.owner) low

at_case : (a b : List (List ℕ)) (records : List RecordData) → lowered a ≡ lowered b → filter (is_at a) records ≡ filter (is_at b) records
unfolding is_at
at_case a b records e = ap (λ (low : List (List ℕ)). filter (λ r. same_low r low) records) e

-- the records of a name that has a number
pub node_is : (names : List (List (List ℕ))) (records : List RecordData) (sets : List (List ℕ)) (number : ℕ) (name : List (List ℕ)) (set : List ℕ) → AreSets names records sets (length records) → IsNamed names number name
    → set ≡ get_or sets number set → picked records set ≡ filter (is_at name) records
node_is names records sets number name set s n is =
    let of = named_as names number name n in
    let lt : number < length sets = omega (arith, s.as_many, inside names number name n) in
    s.each number of.name set of.is (slice_get-get_or sets number set lt ∙ ap Some (sym is))
    ∙ ap (filter (is_at of.name)) (take_all (length records) records (omega arith)) ∙ at_case of.name name records of.same

skip : (b : Bool) (r : RecordData) (rest : List RecordData) → (b ≡ true → ⊥) → cond b (r ∷ rest) rest ≡ rest
skip true r rest h = absurd (h refl)
skip false r rest h = refl

and_true : (a b : Bool) → b ≡ true → (a && b) ≡ a
and_true true b e = e
and_true false b e = refl

or_parts : (a b : Bool) → (a || b) ≡ false → (a ≡ false) × (b ≡ false)
or_parts true b e = absurd cc
or_parts false b e = (refl, e)

no_true : (b : Bool) → b ≡ true → b ≡ false → ⊥
no_true b t f = cc

nothing_at : (records : List RecordData) (name : List (List ℕ)) → list_any (λ r. is_within r.owner name) records ≡ false → filter (is_at name) records ≡ []
nothing_at [] name e = refl
nothing_at (r ∷ rs) name e =
    let parts = or_parts (is_within r.owner name) (list_any (λ (x : RecordData). is_within x.owner name) rs) e in
    skip (is_at name r) r (filter (is_at name) rs) (λ t. no_true (is_within r.owner name) (under_true r.owner name 0 (omega arith) (at_to name r t)) parts.0) ∙ nothing_at rs name parts.1

-- a name without a number has no records
pub none_at : (names : List (List (List ℕ))) (zone : Zone) (name : List (List ℕ)) → AreNames names zone.records → IsMissing names name → filter (is_at name) zone.records ≡ []
unfolding exists_among
none_at names zone name n missing = nothing_at zone.records name (n.missing name missing)

both : (a : Bool) (kind : ℕ) (r : RecordData) (here found : List RecordData) → filter (is_kind kind) here ≡ found → filter (is_kind kind) (cond a (r ∷ here) here) ≡ cond (a && is_kind kind r) (r ∷ found) found
both true kind r here found e = ap (λ (t : List RecordData). cond (is_kind kind r) (r ∷ t) t) e
both false kind r here found e = e

pub kind_at : (name : List (List ℕ)) (kind : ℕ) (records : List RecordData) → filter (is_kind kind) (filter (is_at name) records) ≡ filter (is_of name kind) records
unfolding is_of is_at is_kind
kind_at name kind [] = refl
kind_at name kind (r ∷ rs) = both (is_same r.owner name) kind r (filter (is_at name) rs) (filter (is_of name kind) rs) (kind_at name kind rs)

-- the records of a type at a name
pub set_in_at : (zone : Zone) (name : List (List ℕ)) (kind : ℕ) (node : List RecordData) → node ≡ filter (is_at name) zone.records → set_in node kind ≡ set_at zone name kind
unfolding set_in set_at
set_in_at zone name kind node e =
    ap (λ (rs : List RecordData). cond (kind == 255) (by_type [] rs) (filter (is_kind kind) rs)) e
    ∙ ap (λ (rs : List RecordData). cond (kind == 255) (by_type [] (filter (is_at name) zone.records)) rs) (kind_at name kind zone.records)

any_step : (a : Bool) (q : RecordData → Bool) (r : RecordData) (here : List RecordData) (rest : Bool) → list_any q here ≡ rest → list_any q (cond a (r ∷ here) here) ≡ ((a && q r) || rest)
any_step true q r here rest e = ap (λ (b : Bool). q r || b) e
any_step false q r here rest e = e

any_filter : (p q : RecordData → Bool) (rs : List RecordData) → list_any q (filter p rs) ≡ list_any (λ r. p r && q r) rs
any_filter p q [] = refl
any_filter p q (r ∷ rs) = any_step (p r) q r (filter p rs) (list_any (λ (x : RecordData). p x && q x) rs) (any_filter p q rs)

pub eqb-same : (a b : ℕ) → a ≡ b → (a == b) ≡ true
eqb-same a b e = grind (arith, nat_tests)

asked_any : (name : List (List ℕ)) (kind : ℕ) (rs : List RecordData) → (kind == 255) ≡ true → list_any (λ r. is_at name r && is_asked kind r) rs ≡ list_any (is_at name) rs
unfolding is_asked
asked_any name kind [] e = refl
asked_any name kind (r ∷ rs) e = λ j. (and_true (is_at name r) ((kind == 255) || is_kind kind r) (ap (λ (b : Bool). b || is_kind kind r) e) j) || (asked_any name kind rs e j)

asked_one : (name : List (List ℕ)) (kind : ℕ) (rs : List RecordData) → (kind == 255) ≡ false → list_any (λ r. is_at name r && is_asked kind r) rs ≡ list_any (is_of name kind) rs
unfolding is_asked is_at is_of is_kind
asked_one name kind [] e = refl
asked_one name kind (r ∷ rs) e = λ j. (is_same r.owner name && ((e j) || (kind_of r.rdata == kind))) || (asked_one name kind rs e j)

-- whether a name has records of a type
pub has_in_at : (zone : Zone) (name : List (List ℕ)) (kind : ℕ) (node : List RecordData) → node ≡ filter (is_at name) zone.records → list_any (is_asked kind) node ≡ has_at zone name kind
has_in_at zone name kind node e =
    ap (list_any (is_asked kind)) e ∙ any_filter (is_at name) (is_asked kind) zone.records
    ∙ elim (cases_Bool (kind == 255)) [
      | inl any ↦ asked_any name kind zone.records any ∙ has_any zone name kind (eqb-true kind 255 any)
      | inr one ↦ asked_one name kind zone.records one ∙ has_of zone name kind (λ is. no_true (kind == 255) (eqb-same kind 255 is) one)
    ]

pub alias_in_at : (zone : Zone) (name : List (List ℕ)) (kind : ℕ) (node : List RecordData) → node ≡ filter (is_at name) zone.records → is_alias_in node kind ≡ is_alias zone name kind
unfolding is_alias_in is_alias
alias_in_at zone name kind node e = ap (λ (b : Bool). not (kind == 5) && not (kind == 255) && b) (has_in_at zone name 5 node e)

-- what a name that exists gives
pub found_in_at : (zone : Zone) (name : List (List ℕ)) (kind : ℕ) (node : List RecordData) → node ≡ filter (is_at name) zone.records → found_in node kind ≡ found_at zone name kind
unfolding found_in found_at
found_in_at zone name kind node e = λ j. cond (alias_in_at zone name kind node e j) (alias_found (set_in_at zone name 5 node e j)) (set_found (set_in_at zone name kind node e j))

set_in_none : (kind : ℕ) → set_in [] kind ≡ []
unfolding set_in by_type
set_in_none kind = elim (cases_Bool (kind == 255)) [
  | inl t ↦ cond-true _ _ _ t
  | inr f ↦ cond-false _ _ _ f
]

-- a name without a number has no set
pub no_set : (names : List (List (List ℕ))) (zone : Zone) (name : List (List ℕ)) (kind : ℕ) → AreNames names zone.records → IsMissing names name → set_at zone name kind ≡ []
no_set names zone name kind n missing = sym (set_in_at zone name kind [] (sym (none_at names zone name n missing))) ∙ set_in_none kind

pub set_in_any : (node : List RecordData) (kind : ℕ) → kind ≡ 255 → set_in node kind ≡ by_type [] node
unfolding set_in
set_in_any node kind e = cond-true _ _ _ (eqb-same kind 255 e)

pub set_in_of : (node : List RecordData) (kind : ℕ) → (kind ≡ 255 → ⊥) → set_in node kind ≡ filter (is_kind kind) node
unfolding set_in
set_in_of node kind other = cond-false _ _ _ (no_false (kind == 255) (λ t. other (eqb-true kind 255 t)))

pub alias_finds : (node : List RecordData) (kind : ℕ) (find : Find) (old new : List RecordData) → is_alias_in node kind ≡ true → find.absent ≡ false → new ≡ old ++ set_in node 5 → find.target ≡ target_of (drop (length old) new)
    → Finds (found_in node kind) find old new
unfolding found_in
alias_finds node kind find old new e code is target = rw e (record {
  absent = code;
  target = target ∙ ap target_of (ap (drop (length old)) is ∙ drop_at old (set_in node 5) (length old) refl);
  records = is;
})

-- the type that is asked for is CNAME or ANY
not_aliased : (x y c : Bool) → (not x && not y) ≡ false → (not x && not y && c) ≡ false
not_aliased true y c e = refl
not_aliased false true c e = refl
not_aliased false false c e = absurd cc

is_aliased : (x y c : Bool) → (not x && not y) ≡ true → (not x && not y && c) ≡ c
is_aliased true y c e = absurd cc
is_aliased false true c e = absurd cc
is_aliased false false c e = refl

pub no_alias_kind : (node : List RecordData) (kind : ℕ) (aliased : Bool) → aliased ≡ (not (kind == 5) && not (kind == 255)) → aliased ≡ false → is_alias_in node kind ≡ false
unfolding is_alias_in
no_alias_kind node kind aliased is e = not_aliased (kind == 5) (kind == 255) (list_any (is_asked 5) node) (sym is ∙ e)

pub alias_kind : (node : List RecordData) (kind : ℕ) (aliased has : Bool) → aliased ≡ (not (kind == 5) && not (kind == 255)) → aliased ≡ true → has ≡ list_any (is_kind 5) node → is_alias_in node kind ≡ has
unfolding is_alias_in is_asked
alias_kind node kind aliased has is e h = is_aliased (kind == 5) (kind == 255) (list_any (is_asked 5) node) (sym is ∙ e) ∙ sym h

no_any : (x y : Bool) → (not x && not y) ≡ true → y ≡ true → ⊥
no_any true y e t = absurd cc
no_any false true e t = absurd cc
no_any false false e t = absurd cc

pub kind_set : (node : List RecordData) (kind : ℕ) (aliased : Bool) → aliased ≡ (not (kind == 5) && not (kind == 255)) → aliased ≡ true → set_in node kind ≡ filter (is_kind kind) node
kind_set node kind aliased is e = set_in_of node kind (λ any. no_any (kind == 5) (kind == 255) (sym is ∙ e) (eqb-same kind 255 any))

-- CNAME records behind what there was
pub alias_tells : (set : List RecordData) (find : Find) (old new : List RecordData) (from : ℕ) → length old ≡ from → find.absent ≡ false → new ≡ old ++ set → find.target ≡ target_of (drop from new) → Finds (alias_found set) find old new
alias_tells set find old new from e code is target = record {
  absent = code;
  target = target ∙ ap target_of (ap (drop from) is ∙ drop_at old set from e);
  records = is;
}

pub alias_found_in : (node : List RecordData) (kind : ℕ) (find : Find) (old new : List RecordData) → is_alias_in node kind ≡ true → Finds (alias_found (filter (is_kind 5) node)) find old new → Finds (found_in node kind) find old new
unfolding found_in set_in
alias_found_in node kind find old new e f = rw e f

target_as : (name : List (List ℕ)) (rs : List RecordData) → target_of (map (with_owner name) rs) ≡ target_of rs
target_as name [] = refl
target_as name (r ∷ rs) = refl

-- the same for a name at which a wildcard stands in
pub alias_finds_as : (name : List (List ℕ)) (node : List RecordData) (kind : ℕ) (find : Find) (old new : List RecordData) → is_alias_in node kind ≡ true → find.absent ≡ false → new ≡ old ++ map (with_owner name) (set_in node 5)
    → find.target ≡ target_of (drop (length old) new) → Finds (owned_by name (found_in node kind)) find old new
unfolding found_in
alias_finds_as name node kind find old new e code is target = rw e (record {
  absent = code;
  target = target ∙ ap target_of (ap (drop (length old)) is ∙ drop_at old (map (with_owner name) (set_in node 5)) (length old) refl) ∙ target_as name (set_in node 5);
  records = is;
})

pub set_finds_as : (name : List (List ℕ)) (node : List RecordData) (kind : ℕ) (find : Find) (old new : List RecordData) → is_alias_in node kind ≡ false → find.absent ≡ false → find.target ≡ None
    → new ≡ old ++ map (with_owner name) (set_in node kind) → Finds (owned_by name (found_in node kind)) find old new
unfolding found_in
set_finds_as name node kind find old new e code target is = rw e (record { absent = code; target = target; records = is })

pub set_finds : (node : List RecordData) (kind : ℕ) (find : Find) (old new : List RecordData) → is_alias_in node kind ≡ false → find.absent ≡ false → find.target ≡ None → new ≡ old ++ set_in node kind
    → Finds (found_in node kind) find old new
unfolding found_in
set_finds node kind find old new e code target is = rw e (record { absent = code; target = target; records = is })

pub exists_by : (names : List (List (List ℕ))) (zone : Zone) (name key : List (List ℕ)) (o : Option ℕ) → AreNames names zone.records → key ≡ name → IfSome o (λ i. IsNumberOf names key i) → IfNone o (IsMissing names key)
    → is_some o ≡ exists_in zone name
unfolding exists_in exists_among
exists_by names zone name key None n e some none = sym (n.missing name (subst (λ (k : List (List ℕ)). IsMissing names k) e none))
exists_by names zone name key (Some i) n e some none = sym (n.stands i name (subst (λ (k : List (List ℕ)). IsNamed names i k) e some.is))

-- a number that was found, and one that wasn't
pub numbered : (names : List (List (List ℕ))) (found : Option ℕ) (key name : List (List ℕ)) → key ≡ name → IfSome found (λ i. IsNumberOf names key i) → IfNone found (IsMissing names key) → IsNumbered names found name
numbered names None key name e some none = subst (λ (n : List (List ℕ)). IsMissing names n) e none
numbered names (Some i) key name e some none = subst (λ (n : List (List ℕ)). IsNamed names i n) e some.is

pub numbered_some : (names : List (List (List ℕ))) (found : Option ℕ) (i : ℕ) (name : List (List ℕ)) → IsNumbered names found name → found ≡ Some i → IsNamed names i name
numbered_some names found i name h e = rw e at h

pub numbered_none : (names : List (List (List ℕ))) (found : Option ℕ) (name : List (List ℕ)) → IsNumbered names found name → found ≡ None → IsMissing names name
numbered_none names found name h e = rw e at h
