-- Marks of names by number, as records are added.
use Rattle.std.proofs.Common.{◌≡◌, ℕ, zero, suc, ◌<◌, Bool, true, false, cond, List, [], ◌∷◌, ◌++◌, length, Some, None, refl, sym, ap, subst, ◌∙◌, arith, inl, inr, append_assoc, eqb-true}
use Rattle.std.specs.Prelude.{◌⊎◌, ◌&&◌, ◌||◌, ◌==◌, replicate, slice_set, slice_index_or}
use Rattle.std.specs.List.{filter, list_any}
use Rattle.std.proofs.lemmas.Bool.{cond-true, cond-false}
use Rattle.std.proofs.lemmas.List.{append-nil, length-replicate, length-set, get_or-set_same, get_or-set_other, get_or-replicate}
use Rattle.std.proofs.lemmas.List.Folds.{list_any-append}
use Rattle.dns_names.specs.Name.{is_same, lowered}
use Rattle.dns_data.specs.Record.{RecordData, kind_of}
use Rattle.dns_data.specs.declared.zone.Zone.{Zone}
use Rattle.name_table.specs.Table.{IsMissing, IsNamed, IsNumberOf}
use Rattle.zone_lookup.specs.Zone.{is_of, set_at}
use Rattle.zone_lookup.specs.ZoneAnswer.{with_addresses, with_set}
use Rattle.zone_lookup.proofs.PlainList.{set_of}
use Rattle.zone_tree.specs.Marks.{AreMarked, AreSeen, IsSeen}
use Rattle.zone_tree.specs.Sets.{is_kind, picked}
use Rattle.zone_tree.specs.Tree.{AreNames, AreSets}
use Rattle.zone_tree.specs.declared.marks.Marks.{Marks}
use Rattle.zone_tree.proofs.Cutting.{set_case}
use Rattle.zone_tree.proofs.Filling.{kind_at, no_false, no_set, node_is, same_from, same_to}
use Rattle.zone_tree.proofs.Glue.{and_parts, head_of, Head}
use Rattle.zone_tree.proofs.Shapes.{inside, named_case, or_false, or_true}

same_or_not : (i j : ℕ) → (i ≡ j) ⊎ (i ≡ j → ⊥)
same_or_not zero zero = inl refl
same_or_not zero (suc j) = inr (λ e. omega (arith, e))
same_or_not (suc i) zero = inr (λ e. omega (arith, e))
same_or_not (suc i) (suc j) = elim (same_or_not i j) [ inl e ↦ inl (omega (arith, e)) | inr n ↦ inr (λ e. n (omega (arith, e))) ]

-- a record's name and type
of_parts : (name : List (List ℕ)) (kind : ℕ) (r : RecordData) → is_of name kind r ≡ true → (lowered r.owner ≡ lowered name) × (kind_of r.rdata ≡ kind)
unfolding is_of
of_parts name kind r e =
    let parts = and_parts (is_same r.owner name) (kind_of r.rdata == kind) e in (same_to r.owner name parts.0, eqb-true (kind_of r.rdata) kind parts.1)

of_true : (name : List (List ℕ)) (kind : ℕ) (r : RecordData) → lowered r.owner ≡ lowered name → (kind_of r.rdata == kind) ≡ true → is_of name kind r ≡ true
unfolding is_of
of_true name kind r e k = λ j. (same_from r.owner name e j) && (k j)

-- a record that passes two tests
record Both (p q : RecordData → Bool) : Type 0 where
  pub first : RecordData
  pub one : p first ≡ true
  pub two : q first ≡ true

both_or : (p q : RecordData → Bool) (r : RecordData) (rest : Bool) (b : Bool) → p r ≡ true → (rest ≡ true → Both p q) → q r ≡ b → (b || rest) ≡ true → Both p q
both_or p q r rest true h next k e = record { first = r; one = h; two = k }
both_or p q r rest false h next k e = next e

both_by : (p q : RecordData → Bool) (r : RecordData) (rest : List RecordData) (b : Bool) → p r ≡ b → (list_any q rest ≡ true → Both p q) → list_any q (cond b (r ∷ rest) rest) ≡ true → Both p q
both_by p q r rest true h next e = both_or p q r (list_any q rest) (q r) h next refl e
both_by p q r rest false h next e = next e

any_both : (p q : RecordData → Bool) (rs : List RecordData) → list_any q (filter p rs) ≡ true → Both p q
any_both p q [] e = absurd cc
any_both p q (r ∷ rs) e = both_by p q r (filter p rs) (p r) refl (any_both p q rs) e

-- the records of a set have no other name or type
none_of : (zone : Zone) (name key : List (List ℕ)) (k kind : ℕ) → (k ≡ 255 → ⊥) → (lowered name ≡ lowered key → k ≡ kind → ⊥) → list_any (is_of key kind) (set_at zone name k) ≡ false
none_of zone name key k kind other apart = no_false (list_any (is_of key kind) (set_at zone name k)) (λ t.
    let both = any_both (is_of name k) (is_of key kind) zone.records (ap (list_any (is_of key kind)) (set_of zone name k other) ∙ t) in
    let one = of_parts name k both.first both.one in
    let two = of_parts key kind both.first both.two in
    apart (sym one.0 ∙ two.0) (sym one.1 ∙ two.1))

pub any_more : (p : RecordData → Bool) (xs ys : List RecordData) → list_any p xs ≡ true → list_any p (xs ++ ys) ≡ true
any_more p xs ys e = list_any-append p xs ys ∙ ap (λ (b : Bool). b || list_any p ys) e

any_behind : (p : RecordData → Bool) (xs ys : List RecordData) → list_any p ys ≡ true → list_any p (xs ++ ys) ≡ true
any_behind p xs ys e = list_any-append p xs ys ∙ ap (λ (b : Bool). list_any p xs || b) e ∙ or_true (list_any p xs)

pub any_neither : (p : RecordData → Bool) (xs ys : List RecordData) → list_any p xs ≡ false → list_any p ys ≡ false → list_any p (xs ++ ys) ≡ false
any_neither p xs ys e f = list_any-append p xs ys ∙ (λ j. (e j) || (f j))

pub any_one : (p : RecordData → Bool) (r : RecordData) → list_any p (r ∷ []) ≡ p r
any_one p r = or_false (p r)

seen_more : (b : Bool) (zone : Zone) (kind : ℕ) (there more : List RecordData) (key : List (List ℕ)) → IsSeen b zone kind there key → list_any (is_of key kind) more ≡ false → IsSeen b zone kind (there ++ more) key
seen_more true zone kind there more key s none = elim s [
  | inl e ↦ inl (any_more (is_of key kind) there more e)
  | inr n ↦ inr n
]
seen_more false zone kind there more key s none = any_neither (is_of key kind) there more s none

-- records more, of which none is a name's of the type
seen_longer : (names : List (List (List ℕ))) (zone : Zone) (kind : ℕ) (there more : List RecordData) (marks : List Bool) → AreSeen names zone kind there marks
    → ((i : ℕ) (key : List (List ℕ)) → IsNamed names i key → list_any (is_of key kind) more ≡ false) → AreSeen names zone kind (there ++ more) marks
seen_longer names zone kind there more marks s none = record {
  as_many = s.as_many;
  each = λ i key n. seen_more (slice_index_or marks i false) zone kind there more key (s.each i key n) (none i key n);
}

-- records more, at most of one name, which gets its mark
seen_step : (names : List (List (List ℕ))) (zone : Zone) (kind : ℕ) (there more : List RecordData) (marks : List Bool) (number : ℕ) → AreSeen names zone kind there marks
    → ((key : List (List ℕ)) → IsNamed names number key → IsSeen true zone kind (there ++ more) key)
    → ((i : ℕ) (key : List (List ℕ)) → IsNamed names i key → (i ≡ number → ⊥) → list_any (is_of key kind) more ≡ false) → AreSeen names zone kind (there ++ more) (slice_set marks number true)
seen_step names zone kind there more marks number s here others = record {
  as_many = length-set marks number true ∙ s.as_many;
  each = λ i key n. elim (same_or_not i number) [
    | inl same ↦
        let at : IsNamed names number key = subst (λ (k : ℕ). IsNamed names k key) same n in
        let lt : number < length marks = omega (arith, s.as_many, inside names number key at) in
        let mark = ap (λ (k : ℕ). slice_index_or (slice_set marks number true) k false) same ∙ get_or-set_same marks number true false lt in
        subst (λ (b : Bool). IsSeen b zone kind (there ++ more) key) (sym mark) (here key at)
    | inr apart ↦
        let mark = get_or-set_other marks number i true false apart in
        subst (λ (b : Bool). IsSeen b zone kind (there ++ more) key) (sym mark) (seen_more (slice_index_or marks i false) zone kind there more key (s.each i key n) (others i key n apart))
  ];
}

-- a name by two spellings
same_named : (names : List (List (List ℕ))) (i : ℕ) (a b : List (List ℕ)) → IsNamed names i a → IsNamed names i b → lowered a ≡ lowered b
same_named names i a b n m = let two : Some (lowered a) ≡ Some (lowered b) = sym n ∙ m in cc

-- a record of the type
pub marks_owner : (names : List (List (List ℕ))) (zone : Zone) (kind : ℕ) (there : List RecordData) (marks : List Bool) (r : RecordData) (number : ℕ) → AreSeen names zone kind there marks → IsNumberOf names r.owner number
    → is_kind kind r ≡ true → AreSeen names zone kind (there ++ r ∷ []) (slice_set marks number true)
unfolding is_kind
marks_owner names zone kind there marks r number s n of =
    seen_step names zone kind there (r ∷ []) marks number s
    (λ key m. inl (any_behind (is_of key kind) there (r ∷ []) (any_one (is_of key kind) r ∙ of_true key kind r (same_named names number r.owner key n.is m) of)))
    (λ i key m apart. any_one (is_of key kind) r ∙ no_false (is_of key kind r) (λ t. let parts = of_parts key kind r t in apart (n.only i (named_case names i key r.owner (sym parts.0) m))))

and_false : (b : Bool) → (b && false) ≡ false
and_false true = refl
and_false false = refl

-- one of another type
pub passes_type : (names : List (List (List ℕ))) (zone : Zone) (kind : ℕ) (there : List RecordData) (marks : List Bool) (r : RecordData) → AreSeen names zone kind there marks → is_kind kind r ≡ false
    → AreSeen names zone kind (there ++ r ∷ []) marks
unfolding is_of is_kind
passes_type names zone kind there marks r s of =
    seen_longer names zone kind there (r ∷ []) marks s (λ i key m. any_one (is_of key kind) r ∙ ap (λ (b : Bool). is_same r.owner key && b) of ∙ and_false (is_same r.owner key))

-- and one whose owner has no number
pub passes_owner : (names : List (List (List ℕ))) (zone : Zone) (kind : ℕ) (there : List RecordData) (marks : List Bool) (r : RecordData) → AreSeen names zone kind there marks → IsMissing names r.owner
    → AreSeen names zone kind (there ++ r ∷ []) marks
passes_owner names zone kind there marks r s missing =
    seen_longer names zone kind there (r ∷ []) marks s
    (λ i key m. any_one (is_of key kind) r ∙ no_false (is_of key kind r) (λ t. let parts = of_parts key kind r t in missing i (named_case names i key r.owner (sym parts.0) m)))

by_none : (b : Bool) (old set : List RecordData) → set ≡ [] → cond b old (old ++ set) ≡ old
by_none true old set e = refl
by_none false old set e = ap (λ (rs : List RecordData). old ++ rs) e ∙ append-nil old

by_mark : (b : Bool) (zone : Zone) (kind : ℕ) (answer old : List RecordData) (name : List (List ℕ)) → IsSeen b zone kind (answer ++ old) name → cond b old (old ++ set_at zone name kind) ≡ with_set zone answer old name kind
unfolding with_set
by_mark true zone kind answer old name s = elim s [
  | inl e ↦ sym (cond-true _ _ _ (sym (list_any-append (is_of name kind) answer old) ∙ e))
  | inr none ↦ sym (by_none (list_any (is_of name kind) answer || list_any (is_of name kind) old) old (set_at zone name kind) none)
]
by_mark false zone kind answer old name s = sym (cond-false _ _ _ (sym (list_any-append (is_of name kind) answer old) ∙ s))

-- a set is appended where its name has no mark
pub set_by_mark : (names : List (List (List ℕ))) (zone : Zone) (sets : List (List ℕ)) (answer old : List RecordData) (name : List (List ℕ)) (number kind : ℕ) (set : List ℕ) (marks : List Bool)
    → AreSets names zone.records sets (length zone.records) → IsNamed names number name → set ≡ slice_index_or sets number set → (kind ≡ 255 → ⊥) → AreSeen names zone kind (answer ++ old) marks
    → cond (slice_index_or marks number false) old (old ++ filter (is_kind kind) (picked zone.records set)) ≡ with_set zone answer old name kind
set_by_mark names zone sets answer old name number kind set marks s n is other seen =
    let node = ap (filter (is_kind kind)) (node_is names zone.records sets number name set s n is) ∙ kind_at name kind zone.records ∙ set_of zone name kind other in
    ap (λ (rs : List RecordData). cond (slice_index_or marks number false) old (old ++ rs)) node ∙ by_mark (slice_index_or marks number false) zone kind answer old name (seen.each number name n)

head_any : (p : RecordData → Bool) (set : List RecordData) → Head p set → list_any p set ≡ true
head_any p set h = ap (list_any p) h.is ∙ ap (λ (b : Bool). b || list_any p h.rest) h.passes

set_head : (zone : Zone) (name : List (List ℕ)) (kind : ℕ) → (kind ≡ 255 → ⊥) → (set_at zone name kind ≡ []) ⊎ Head (is_of name kind) (set_at zone name kind)
set_head zone name kind other = subst (λ (rs : List RecordData). (rs ≡ []) ⊎ Head (is_of name kind) rs) (set_of zone name kind other) (head_of (is_of name kind) zone.records)

seen_by : (b : Bool) (names : List (List (List ℕ))) (zone : Zone) (kind : ℕ) (answer old : List RecordData) (name : List (List ℕ)) (number : ℕ) (marks : List Bool) → slice_index_or marks number false ≡ b → IsNumberOf names name number
    → (kind ≡ 255 → ⊥) → AreSeen names zone kind (answer ++ old) marks → AreSeen names zone kind (answer ++ cond b old (old ++ set_at zone name kind)) (slice_set marks number true)
seen_by true names zone kind answer old name number marks e n other s =
    let there = answer ++ old in
    let none = append-nil there in
    subst (λ (rs : List RecordData). AreSeen names zone kind rs (slice_set marks number true)) none (
    seen_step names zone kind there [] marks number s
    (λ key m. subst (λ (rs : List RecordData). IsSeen true zone kind rs key) (sym none) (subst (λ (b : Bool). IsSeen b zone kind there key) e (s.each number key m)))
    (λ i key m apart. refl)
    )
seen_by false names zone kind answer old name number marks e n other s =
    let there = answer ++ old in
    let set = set_at zone name kind in
    subst (λ (rs : List RecordData). AreSeen names zone kind rs (slice_set marks number true)) (append_assoc answer old set) (
    seen_step names zone kind there set marks number s
    (λ key m. elim (set_head zone key kind other) [
      | inl none ↦ inr none
      | inr head ↦
          let same = set_case zone name key kind (same_named names number name key n.is m) in
          inl (any_behind (is_of key kind) there set (ap (list_any (is_of key kind)) same ∙ head_any (is_of key kind) (set_at zone key kind) head))
    ])
    (λ i key m apart. none_of zone name key kind kind other (λ same k. apart (n.only i (named_case names i key name (sym same) m))))
    )

-- a name's set of the type, which gets its mark
seen_set : (names : List (List (List ℕ))) (zone : Zone) (kind : ℕ) (answer old : List RecordData) (name : List (List ℕ)) (number : ℕ) (marks : List Bool) → IsNumberOf names name number → (kind ≡ 255 → ⊥)
    → AreSeen names zone kind (answer ++ old) marks → AreSeen names zone kind (answer ++ with_set zone answer old name kind) (slice_set marks number true)
seen_set names zone kind answer old name number marks n other s =
    let b = slice_index_or marks number false in
    subst (λ (rs : List RecordData). AreSeen names zone kind (answer ++ rs) (slice_set marks number true)) (by_mark b zone kind answer old name (s.each number name n.is))
    (seen_by b names zone kind answer old name number marks refl n other s)

other_by : (b : Bool) (names : List (List (List ℕ))) (zone : Zone) (kind k : ℕ) (answer old : List RecordData) (name : List (List ℕ)) (marks : List Bool) → (k ≡ kind → ⊥) → (k ≡ 255 → ⊥) → AreSeen names zone kind (answer ++ old) marks
    → AreSeen names zone kind (answer ++ cond b old (old ++ set_at zone name k)) marks
other_by true names zone kind k answer old name marks apart other s = s
other_by false names zone kind k answer old name marks apart other s =
    let set = set_at zone name k in
    subst (λ (rs : List RecordData). AreSeen names zone kind rs marks) (append_assoc answer old set)
    (seen_longer names zone kind (answer ++ old) set marks s (λ i key m. none_of zone name key k kind other (λ same e. apart e)))

-- and one of another type
seen_other : (names : List (List (List ℕ))) (zone : Zone) (kind k : ℕ) (answer old : List RecordData) (name : List (List ℕ)) (marks : List Bool) → (k ≡ kind → ⊥) → (k ≡ 255 → ⊥) → AreSeen names zone kind (answer ++ old) marks
    → AreSeen names zone kind (answer ++ with_set zone answer old name k) marks
unfolding with_set
seen_other names zone kind k answer old name marks apart other s = other_by (list_any (is_of name k) answer || list_any (is_of name k) old) names zone kind k answer old name marks apart other s

abbrev pub with_two : Zone → List RecordData → List RecordData → List (List ℕ) → List RecordData
with_two zone answer old name = with_set zone answer (with_set zone answer old name 1) name 28

pub two_are : (zone : Zone) (answer old : List RecordData) (name : List (List ℕ)) → with_two zone answer old name ≡ with_addresses zone answer old (Some name)
unfolding with_addresses
two_are zone answer old name = refl

pub none_are : (zone : Zone) (answer old : List RecordData) → old ≡ with_addresses zone answer old None
unfolding with_addresses
none_are zone answer old = refl

-- a name without a number
no_more : (zone : Zone) (answer old : List RecordData) (name : List (List ℕ)) (kind : ℕ) → set_at zone name kind ≡ [] → with_set zone answer old name kind ≡ old
unfolding with_set
no_more zone answer old name kind none = by_none (list_any (is_of name kind) answer || list_any (is_of name kind) old) old (set_at zone name kind) none

pub missing_adds : (names : List (List (List ℕ))) (zone : Zone) (answer old : List RecordData) (name : List (List ℕ)) → AreNames names zone.records → IsMissing names name → old ≡ with_addresses zone answer old (Some name)
missing_adds names zone answer old name n missing =
    let first = no_more zone answer old name 1 (no_set names zone name 1 n missing) in
    sym (ap (λ (rs : List RecordData). with_set zone answer rs name 28) first ∙ no_more zone answer old name 28 (no_set names zone name 28 n missing)) ∙ two_are zone answer old name

-- both sets of a name, which gets both marks
marks_two : (names : List (List (List ℕ))) (zone : Zone) (answer old : List RecordData) (name : List (List ℕ)) (number : ℕ) (marks : Marks) (v4 v6 : List Bool) → IsNumberOf names name number → AreMarked names zone (answer ++ old) marks
    → v4 ≡ slice_set marks.v4.items number true → v6 ≡ slice_set marks.v6.items number true
    → (AreSeen names zone 1 (answer ++ with_two zone answer old name) v4) × (AreSeen names zone 28 (answer ++ with_two zone answer old name) v6)
marks_two names zone answer old name number marks v4 v6 n s e f =
    let first = with_set zone answer old name 1 in
    let a = seen_set names zone 1 answer old name number marks.v4.items n (λ k. omega (arith, k)) s.v4 in
    let b = seen_other names zone 28 1 answer old name marks.v6.items (λ k. omega (arith, k)) (λ k. omega (arith, k)) s.v6 in (
      subst (λ (bs : List Bool). AreSeen names zone 1 (answer ++ with_two zone answer old name) bs) (sym e)
          (seen_other names zone 1 28 answer first name (slice_set marks.v4.items number true) (λ k. omega (arith, k)) (λ k. omega (arith, k)) a),
      subst (λ (bs : List Bool). AreSeen names zone 28 (answer ++ with_two zone answer old name) bs) (sym f)
          (seen_set names zone 28 answer first name number marks.v6.items n (λ k. omega (arith, k)) b),
    )

pushed_kind : (names : List (List (List ℕ))) (zone : Zone) (sets : List (List ℕ)) (answer old new : List RecordData) (name : List (List ℕ)) (number kind : ℕ) (set : List ℕ) (marks : List Bool) (records : List RecordData) (numbers : List ℕ)
    → AreSets names zone.records sets (length zone.records) → IsNamed names number name → set ≡ slice_index_or sets number set → (kind ≡ 255 → ⊥) → AreSeen names zone kind (answer ++ old) marks
    → records ≡ zone.records → numbers ≡ set → new ≡ cond (slice_index_or marks number false) old (old ++ filter (is_kind kind) (picked records numbers)) → new ≡ with_set zone answer old name kind
pushed_kind names zone sets answer old new name number kind set marks records numbers s n is other seen all some e =
    e ∙ (λ j. cond (slice_index_or marks number false) old (old ++ filter (is_kind kind) (picked (all j) (some j)))) ∙ set_by_mark names zone sets answer old name number kind set marks s n is other seen

-- both sets of a name, as far as they have no mark
pub pushed_both : (names : List (List (List ℕ))) (zone : Zone) (sets : List (List ℕ)) (answer old first last : List RecordData) (name : List (List ℕ)) (number : ℕ) (set : List ℕ) (marks : Marks) (records : List RecordData) (numbers : List ℕ)
    → AreSets names zone.records sets (length zone.records) → IsNumberOf names name number → set ≡ slice_index_or sets number set → AreMarked names zone (answer ++ old) marks → records ≡ zone.records → numbers ≡ set
    → first ≡ cond (slice_index_or marks.v4.items number false) old (old ++ filter (is_kind 1) (picked records numbers))
    → last ≡ cond (slice_index_or marks.v6.items number false) first (first ++ filter (is_kind 28) (picked records numbers)) → last ≡ with_addresses zone answer old (Some name)
pushed_both names zone sets answer old first last name number set marks records numbers s n is m all some e f =
    let one = pushed_kind names zone sets answer old first name number 1 set marks.v4.items records numbers s n.is is (λ k. omega (arith, k)) m.v4 all some e in
    let seen = subst (λ (rs : List RecordData). AreSeen names zone 28 (answer ++ rs) marks.v6.items) (sym one)
    (seen_other names zone 28 1 answer old name marks.v6.items (λ k. omega (arith, k)) (λ k. omega (arith, k)) m.v6) in
    let two = pushed_kind names zone sets answer first last name number 28 set marks.v6.items records numbers s n.is is (λ k. omega (arith, k)) seen all some f in
    two ∙ ap (λ (rs : List RecordData). with_set zone answer rs name 28) one ∙ two_are zone answer old name

pub marks_both : (names : List (List (List ℕ))) (zone : Zone) (answer old last : List RecordData) (name : List (List ℕ)) (number : ℕ) (marks : Marks) (v4 v6 : List Bool) → IsNumberOf names name number
    → AreMarked names zone (answer ++ old) marks → last ≡ with_addresses zone answer old (Some name) → v4 ≡ slice_set marks.v4.items number true → v6 ≡ slice_set marks.v6.items number true
    → (AreSeen names zone 1 (answer ++ last) v4) × (AreSeen names zone 28 (answer ++ last) v6)
marks_both names zone answer old last name number marks v4 v6 n s is e f =
    let two = marks_two names zone answer old name number marks v4 v6 n s e f in
    let same : with_two zone answer old name ≡ last = two_are zone answer old name ∙ sym is in (
      subst (λ (rs : List RecordData). AreSeen names zone 1 (answer ++ rs) v4) same two.0,
      subst (λ (rs : List RecordData). AreSeen names zone 28 (answer ++ rs) v6) same two.1,
    )

get_none : (n i : ℕ) → i < n → slice_index_or (replicate n false) i false ≡ false
get_none n i lt = get_or-replicate n i false false lt

-- no marks, where nothing is there
pub none_seen : (names : List (List (List ℕ))) (zone : Zone) (kind : ℕ) (marks : List Bool) → marks ≡ replicate (length names) false → AreSeen names zone kind [] marks
none_seen names zone kind marks e = record {
  as_many = ap length e ∙ length-replicate (length names) false;
  each = λ i key n.
      let none = ap (λ (bs : List Bool). slice_index_or bs i false) e ∙ get_none (length names) i (inside names i key n) in
      subst (λ (b : Bool). IsSeen b zone kind [] key) (sym none) refl;
}
