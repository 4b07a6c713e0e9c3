-- Tables of names and their nodes, as names are added.
use Rattle.std.proofs.Common.{◌≡◌, ℕ, zero, suc, ◌+◌, ◌-◌, ◌<◌, ◌≤◌, Bool, true, false, List, [], ◌∷◌, ◌++◌, length, take, drop, map, get_or, Option, Some, None, refl, sym, ap, subst, ◌∙◌, arith, inl, inr}
use Rattle.std.specs.Prelude.{◌⊎◌, ◌&&◌, ◌||◌, slice_get, slice_set}
use Rattle.std.specs.Option.{option_map}
use Rattle.std.specs.List.{list_any}
use Rattle.std.specs.Char.{to_ascii_lowercase}
use Rattle.std.proofs.Common.{eqb, rules, length-append, length-drop}
use Rattle.std.proofs.lemmas.List.{length-map, length-set, drop_all, take_more, take_all}
use Rattle.std.proofs.lemmas.Option.{slice_get_within}
use Rattle.std.proofs.lemmas.Bool.{agree_below_at, cases_Bool, cases_lt}
use Rattle.std.proofs.lemmas.Bool.Decides.{Decides-eqb}
use Rattle.std.proofs.lemmas.Slice.Eq.{slice_eq-Decides}
use Rattle.std.specs.Prelude.{nat_lt}
use Rattle.dns_names.specs.Name.{is_same, is_within, lowered, wire_length}
use Rattle.dns_names.specs.declared.limit.TheConstants as limits
use Rattle.dns_data.specs.Record.{RecordData}
use Rattle.name_table.specs.Table.{IsMissing, IsNamed, IsNumberOf}
use Rattle.dns_names.specs.WithinLaws.{same_is}
use Rattle.zone_lookup.specs.Zone.{is_star}
use Rattle.zone_tree.specs.declared.node.Node.{Node}
use Rattle.zone_tree.specs.Tree.{star_at, IsAbove, starts_wild, starred, IsStarOf, IsNodeOf, IsShape, IsNew, Adding, Grows, HasAll, exists_among, AreNames}

-- an item that a list has at a place
pub record There {X : Type 0} (xs : List X) (i : ℕ) : Type 0 where
  pub item : X
  pub is : slice_get xs i ≡ Some item

pub there : {X : Type 0} (xs : List X) (i : ℕ) → i < length xs → There xs i
there [] i h = absurd (omega arith)
there (x ∷ xs) zero h = record { item = x; is = refl }
there (x ∷ xs) (suc i) h = let rest = there xs i (omega arith) in record { item = rest.item; is = rest.is }

-- the name of a number, and that it is the key, case aside
pub record NameOf (o : Option (List (List ℕ))) (key : List (List ℕ)) : Type 0 where
  pub name : List (List ℕ)
  pub is : o ≡ Some name
  pub same : lowered name ≡ lowered key

name_of : (o : Option (List (List ℕ))) (key : List (List ℕ)) → option_map lowered o ≡ Some (lowered key) → NameOf o key
name_of None key e = absurd cc
name_of (Some name) key e = record { name = name; is = refl; same = let two : Some (lowered name) ≡ Some (lowered key) = e in cc }

pub named_as : (names : List (List (List ℕ))) (i : ℕ) (key : List (List ℕ)) → IsNamed names i key → NameOf (slice_get names i) key
named_as names i key n = name_of (slice_get names i) key n

pub named_from : (names : List (List (List ℕ))) (i : ℕ) (name key : List (List ℕ)) → slice_get names i ≡ Some name → lowered name ≡ lowered key → IsNamed names i key
named_from names i name key at same = ap (option_map lowered) at ∙ ap Some same

pub inside : (names : List (List (List ℕ))) (i : ℕ) (key : List (List ℕ)) → IsNamed names i key → i < length names
inside names i key n = let at = named_as names i key n in slice_get_within names i at.name at.is

pub named_case : (names : List (List (List ℕ))) (i : ℕ) (a b : List (List ℕ)) → lowered a ≡ lowered b → IsNamed names i a → IsNamed names i b
named_case names i a b same n = n ∙ ap Some same

pub missing_case : (names : List (List (List ℕ))) (a b : List (List ℕ)) → lowered a ≡ lowered b → IsMissing names a → IsMissing names b
missing_case names a b same m i n = m i (named_case names i b a (sym same) n)

pub get_front : {X : Type 0} (xs ys : List X) (i : ℕ) (x : X) → slice_get xs i ≡ Some x → slice_get (xs ++ ys) i ≡ Some x
get_front [] ys i x e = absurd cc
get_front (z ∷ xs) ys zero x e = e
get_front (z ∷ xs) ys (suc i) x e = get_front xs ys i x e

get_last : {X : Type 0} (xs : List X) (x : X) → slice_get (xs ++ x ∷ []) (length xs) ≡ Some x
get_last [] x = refl
get_last (z ∷ xs) x = get_last xs x

-- an item of a longer list is an old one, or the new one
pub get_either : {X : Type 0} (xs : List X) (x y : X) (i : ℕ) → slice_get (xs ++ x ∷ []) i ≡ Some y → (slice_get xs i ≡ Some y) ⊎ ((i ≡ length xs) × (x ≡ y))
get_either [] x y zero e = inr (refl, cc)
get_either [] x y (suc i) e = absurd cc
get_either (z ∷ xs) x y zero e = inl e
get_either (z ∷ xs) x y (suc i) e = elim (get_either xs x y i e) [ inl old ↦ inl old | inr new ↦ inr (omega (arith, new.0), new.1) ]

-- an item of a list with one item set is that item, or another
pub set_either : {X : Type 0} (xs : List X) (i j : ℕ) (x y : X) → slice_get (slice_set xs i x) j ≡ Some y → ((i ≡ j) × (x ≡ y)) ⊎ ((i ≡ j → ⊥) × (slice_get xs j ≡ Some y))
set_either [] i j x y e = absurd cc
set_either (z ∷ xs) zero zero x y e = inl (refl, cc)
set_either (z ∷ xs) zero (suc j) x y e = inr ((λ h. omega arith), e)
set_either (z ∷ xs) (suc i) zero x y e = inr ((λ h. omega arith), e)
set_either (z ∷ xs) (suc i) (suc j) x y e = elim (set_either xs i j x y e) [ inl here ↦ inl (omega (arith, here.0), here.1) | inr old ↦ inr ((λ h. old.0 (omega arith)), old.1) ]

same_item : {X : Type 0} (o : Option X) (x y : X) → o ≡ Some x → o ≡ Some y → x ≡ y
same_item o x y a b = cc

-- a name stays with its number
pub kept : (names more : List (List (List ℕ))) (i : ℕ) (key : List (List ℕ)) → IsNamed names i key → IsNamed (names ++ more) i key
kept names more i key n = let at = named_as names i key n in named_from (names ++ more) i at.name key (get_front names more i at.name at.is) at.same

-- a name of a longer list is an old one, or the new one
pub one_more : (names : List (List (List ℕ))) (name key : List (List ℕ)) (i : ℕ) → IsNamed (names ++ name ∷ []) i key → IsNamed names i key ⊎ ((i ≡ length names) × (lowered name ≡ lowered key))
one_more names name key i n =
    let at = named_as (names ++ name ∷ []) i key n in
    elim (get_either names name at.name i at.is) [
      | inl old ↦ inl (named_from names i at.name key old at.same)
      | inr new ↦ inr (new.0, ap lowered new.1 ∙ at.same)
    ]

pub named_last : (names : List (List (List ℕ))) (name key : List (List ℕ)) → lowered name ≡ lowered key → IsNamed (names ++ name ∷ []) (length names) key
named_last names name key same = named_from (names ++ name ∷ []) (length names) name key (get_last names name) same

pub length_case : (a b : List (List ℕ)) → lowered a ≡ lowered b → length a ≡ length b
length_case a b e = sym (length-map a (λ (label : List ℕ). map to_ascii_lowercase label)) ∙ ap length e ∙ length-map b (λ (label : List ℕ). map to_ascii_lowercase label)

-- `*` has no other case
eqb_same : (x : ℕ) → x < 91 → eqb (to_ascii_lowercase x) 42 ≡ eqb x 42
eqb_same x lt = agree_below_at (λ (d : ℕ). eqb (to_ascii_lowercase d) 42) (λ (d : ℕ). eqb d 42) 91 x refl lt

star_byte : (x : ℕ) → eqb (to_ascii_lowercase x) 42 ≡ eqb x 42
star_byte x = elim (cases_lt x 91) [
  | inl lt ↦ eqb_same x lt
  | inr past ↦
      let e : nat_lt x 65 ≡ false = search rules in
      let f : nat_lt x 91 ≡ false = search rules in
      rw (e, f) refl
]

pub star_case : (a b : List ℕ) → map to_ascii_lowercase a ≡ map to_ascii_lowercase b → is_star a ≡ is_star b
star_case [] [] e = refl
star_case [] (y ∷ b) e = absurd cc
star_case (x ∷ a) [] e = absurd cc
star_case (x ∷ []) (y ∷ []) e =
    let head : to_ascii_lowercase x ≡ to_ascii_lowercase y = cc in
    ap (λ (t : Bool). t && true) (sym (star_byte x) ∙ ap (λ (t : ℕ). eqb t 42) head ∙ star_byte y)
star_case (x ∷ []) (y ∷ z ∷ b) e = absurd cc
star_case (x ∷ w ∷ a) (y ∷ []) e = absurd cc
star_case (x ∷ w ∷ a) (y ∷ z ∷ b) e =
    let head : to_ascii_lowercase x ≡ to_ascii_lowercase y = cc in
    ap (λ (t : Bool). t && false) (sym (star_byte x) ∙ ap (λ (t : ℕ). eqb t 42) head ∙ star_byte y)

star_is : (label : List ℕ) → is_star label ≡ true → label ≡ 42 ∷ []
star_is label h = (slice_eq-Decides Decides-eqb label (42 ∷ []) _ refl).0 h

no_true : (b : Bool) → b ≡ true → b ≡ false → ⊥
no_true b t f = cc

-- a name that is the wildcard below another
wild_below : (name key : List (List ℕ)) → lowered name ≡ lowered (star_at key) → (starts_wild name ≡ true) × (lowered (drop 1 name) ≡ lowered key)
wild_below [] key e = absurd cc
wild_below (label ∷ rest) key e =
    let first : map to_ascii_lowercase label ≡ map to_ascii_lowercase (42 ∷ []) = cc in
    (star_case label (42 ∷ []) first, cc)

below_wild : (name key : List (List ℕ)) → starts_wild name ≡ true → lowered (drop 1 name) ≡ lowered key → lowered name ≡ lowered (star_at key)
below_wild [] key w e = absurd cc
below_wild (label ∷ rest) key w e =
    let first : map to_ascii_lowercase label ≡ map to_ascii_lowercase (42 ∷ []) = ap (map to_ascii_lowercase) (star_is label w) in
    λ i. first i ∷ e i

pub wire_case : (a b : List (List ℕ)) → lowered a ≡ lowered b → wire_length a ≡ wire_length b
wire_case [] [] e = refl
wire_case [] (m ∷ b) e = absurd cc
wire_case (l ∷ a) [] e = absurd cc
wire_case (l ∷ a) (m ∷ b) e =
    let first : map to_ascii_lowercase l ≡ map to_ascii_lowercase m = cc in
    let rest : lowered a ≡ lowered b = cc in
    omega (arith, ap length first, length-map l to_ascii_lowercase, length-map m to_ascii_lowercase, wire_case a b rest)

wild_length : (name : List (List ℕ)) → starts_wild name ≡ true → wire_length name ≡ wire_length (drop 1 name) + 2
wild_length [] w = absurd cc
wild_length (label ∷ rest) w = omega (arith, ap length (star_is label w))

above_kept : (names more : List (List (List ℕ))) (above i : ℕ) (name : List (List ℕ)) → IsAbove names above name i → IsAbove (names ++ more) above name i
above_kept names more above i [] a = tt
above_kept names more above i (label ∷ rest) a = (kept names more above rest a.0, a.1)

star_kept : (names : List (List (List ℕ))) (name : List (List ℕ)) (star : Option ℕ) (i : ℕ) (at : List (List ℕ)) → slice_get names i ≡ Some at → IsStarOf names star at
    → (starts_wild name ≡ true → IsNamed names i (drop 1 name) → ⊥) → IsStarOf (names ++ name ∷ []) star at
star_kept names name None i at is s other = λ j n.
    elim (one_more names name (star_at at) j n) [
      | inl old ↦ s j old
      | inr new ↦ let w = wild_below name at new.1 in other w.0 (named_from names i at (drop 1 name) is (sym w.1))
    ]
star_kept names name (Some star) i at is s other = (kept names (name ∷ []) star (star_at at) s.0, s.1)

-- a node of a name that is no parent of a new wildcard stays as it is
old_node : (names : List (List (List ℕ))) (name : List (List ℕ)) (i : ℕ) (at : List (List ℕ)) (node : Node) → slice_get names i ≡ Some at → IsNodeOf names i at node
    → (starts_wild name ≡ true → IsNamed names i (drop 1 name) → ⊥) → IsNodeOf (names ++ name ∷ []) i at node
old_node names name i at node is n other = record {
  above = above_kept names (name ∷ []) node.above i at n.above;
  labels = n.labels;
  wild = n.wild;
  star = star_kept names name node.star i at is n.star other;
}

-- the node whose wildcard is new
starred_node : (names : List (List (List ℕ))) (name : List (List ℕ)) (i : ℕ) (at : List (List ℕ)) (node : Node) → slice_get names i ≡ Some at → IsNodeOf names i at node
    → starts_wild name ≡ true → IsNamed names i (drop 1 name) → wire_length name ≤ limits.NAME_BYTES → IsNodeOf (names ++ name ∷ []) i at (starred node (length names))
starred_node names name i at node is n w below short =
    let of = named_as names i (drop 1 name) below in
    let same : lowered at ≡ lowered (drop 1 name) = ap lowered (same_item (slice_get names i) at of.name is of.is) ∙ of.same in record {
      above = above_kept names (name ∷ []) node.above i at n.above;
      labels = n.labels;
      wild = n.wild;
      star = (named_last names name (star_at at) (below_wild name at w (sym same)), omega (arith, short, wild_length name w, wire_case at (drop 1 name) same));
    }

-- a name's number
pub record HasNumber (names : List (List (List ℕ))) (key : List (List ℕ)) : Type 0 where
  pub number : ℕ
  pub is : IsNamed names number key

up_from : (names : List (List (List ℕ))) (above i : ℕ) (at : List (List ℕ)) (label : List ℕ) (rest : List (List ℕ)) → IsAbove names above at i → lowered at ≡ lowered (label ∷ rest) → HasNumber names rest
up_from names above i [] label rest a same = absurd cc
up_from names above i (l ∷ at) label rest a same =
    let tails : lowered at ≡ lowered rest = cc in record { number = above; is = named_case names above at rest tails a.0 }

-- the name above a name that is there
up : (names : List (List (List ℕ))) (nodes : List Node) (i : ℕ) (label : List ℕ) (rest : List (List ℕ)) → IsShape names nodes → IsNamed names i (label ∷ rest) → HasNumber names rest
up names nodes i label rest shape n =
    let at = named_as names i (label ∷ rest) n in
    let lt = inside names i (label ∷ rest) n in
    let node = there nodes i (omega (arith, shape.as_many, lt)) in
    up_from names node.item.above i at.name label rest (shape.each i at.name node.item at.is node.is).above at.same

new_star : (names : List (List (List ℕ))) (nodes : List Node) (name : List (List ℕ)) → IsShape names nodes → IsMissing names name → IsMissing (names ++ name ∷ []) (star_at name)
new_star names nodes name shape missing j n =
    elim (one_more names name (star_at name) j n) [
      | inl old ↦ let above = up names nodes j (42 ∷ []) name shape old in missing above.number above.is
      | inr new ↦ let long = length_case name (star_at name) new.1 in absurd (omega (arith, long))
    ]

new_node : (names : List (List (List ℕ))) (nodes : List Node) (name : List (List ℕ)) (node : Node) → IsShape names nodes → IsNew names name node.above → node.labels ≡ length name → node.is_wild ≡ starts_wild name
    → node.star ≡ None → IsNodeOf (names ++ name ∷ []) (length names) name node
new_node names nodes name node shape new labels wild none = record {
  above = above_kept names (name ∷ []) node.above (length names) name new.place;
  labels = labels;
  wild = wild;
  star = subst (λ (o : Option ℕ). IsStarOf (names ++ name ∷ []) o name) (sym none) (new_star names nodes name shape new.missing);
}

each_plain : (names : List (List (List ℕ))) (nodes : List Node) (name : List (List ℕ)) (node : Node) → IsShape names nodes → IsNew names name node.above → node.labels ≡ length name → node.is_wild ≡ starts_wild name
    → node.star ≡ None → starts_wild name ≡ false → (i : ℕ) (at : List (List ℕ)) (of : Node) → slice_get (names ++ name ∷ []) i ≡ Some at → slice_get (nodes ++ node ∷ []) i ≡ Some of → IsNodeOf (names ++ name ∷ []) i at of
each_plain names nodes name node shape new labels wild none plain i at of is here =
    elim (get_either names name at i is) [
      | inl old ↦
          let lt = slice_get_within names i at old in
          let before : slice_get nodes i ≡ Some of = elim (get_either nodes node of i here) [ inl o ↦ o | inr n ↦ absurd (omega (arith, n.0, shape.as_many, lt)) ] in
          old_node names name i at of old (shape.each i at of old before) (λ w n. no_true (starts_wild name) w plain)
      | inr last ↦
          let is_node : node ≡ of = elim (get_either nodes node of i here) [ inl o ↦ absurd (let lt = slice_get_within nodes i of o in omega (arith, last.0, shape.as_many, lt)) | inr n ↦ n.1 ] in
          subst (λ (o : Node). IsNodeOf (names ++ name ∷ []) i at o) is_node (subst (λ (k : List (List ℕ)). IsNodeOf (names ++ name ∷ []) i k node) last.1 (subst (λ (k : ℕ). IsNodeOf (names ++ name ∷ []) k name node) (sym last.0)
          (new_node names nodes name node shape new labels wild none)))
    ]

-- a list with a name and its node more, where the name is no wildcard
pub shape_plain : (names : List (List (List ℕ))) (nodes : List Node) (name : List (List ℕ)) (node : Node) → IsShape names nodes → IsNew names name node.above → node.labels ≡ length name → node.is_wild ≡ starts_wild name
    → node.star ≡ None → starts_wild name ≡ false → IsShape (names ++ name ∷ []) (nodes ++ node ∷ [])
shape_plain names nodes name node shape new labels wild none plain = record {
  as_many = omega (arith, shape.as_many, length-append names (name ∷ []), length-append nodes (node ∷ []));
  each = λ i at of is here. each_plain names nodes name node shape new labels wild none plain i at of is here;
}

below_of : (names : List (List (List ℕ))) (above : ℕ) (name : List (List ℕ)) → IsAbove names above name (length names) → starts_wild name ≡ true → IsNamed names above (drop 1 name)
below_of names above [] a w = absurd cc
below_of names above (label ∷ rest) a w = a.0

-- an item of the nodes before or the new one, in a list with one more
before_or_new : (nodes : List Node) (node of : Node) (i count : ℕ) → length nodes ≡ count → slice_get (nodes ++ node ∷ []) i ≡ Some of → i < count → slice_get nodes i ≡ Some of
before_or_new nodes node of i count many here lt = elim (get_either nodes node of i here) [ inl o ↦ o | inr n ↦ absurd (omega (arith, n.0, many, lt)) ]

each_wild : (names : List (List (List ℕ))) (nodes : List Node) (name : List (List ℕ)) (node star : Node) → IsShape names nodes → IsNew names name node.above → node.labels ≡ length name → node.is_wild ≡ starts_wild name
    → node.star ≡ None → starts_wild name ≡ true → wire_length name ≤ limits.NAME_BYTES → slice_get nodes node.above ≡ Some star → (i : ℕ) (at : List (List ℕ)) (of : Node) → slice_get (names ++ name ∷ []) i ≡ Some at
    → slice_get (slice_set (nodes ++ node ∷ []) node.above (starred star (length names))) i ≡ Some of → IsNodeOf (names ++ name ∷ []) i at of
each_wild names nodes name node star shape new labels wild none w short above_is i at of is here =
    elim (get_either names name at i is) [
      | inl old ↦
          let lt = slice_get_within names i at old in
          elim (set_either (nodes ++ node ∷ []) node.above i (starred star (length names)) of here) [
            | inl set ↦
                let there : slice_get nodes i ≡ Some star = subst (λ (k : ℕ). slice_get nodes k ≡ Some star) set.0 above_is in
                let below : IsNamed names i (drop 1 name) = subst (λ (k : ℕ). IsNamed names k (drop 1 name)) set.0 (below_of names node.above name new.place w) in
                subst (λ (o : Node). IsNodeOf (names ++ name ∷ []) i at o) set.1 (starred_node names name i at star old (shape.each i at star old there) w below short)
            | inr other ↦
                let before = before_or_new nodes node of i (length names) shape.as_many other.1 lt in
                old_node names name i at of old (shape.each i at of old before) (λ x n. other.0 (sym (new.only i x n)))
          ]
      | inr last ↦
          elim (set_either (nodes ++ node ∷ []) node.above i (starred star (length names)) of here) [
            | inl set ↦ absurd (let lt = new.inside w in omega (arith, lt, set.0, last.0))
            | inr other ↦
                let is_node : node ≡ of = elim (get_either nodes node of i other.1) [ inl o ↦ absurd (let lt = slice_get_within nodes i of o in omega (arith, last.0, shape.as_many, lt)) | inr n ↦ n.1 ] in
                subst (λ (o : Node). IsNodeOf (names ++ name ∷ []) i at o) is_node (subst (λ (k : List (List ℕ)). IsNodeOf (names ++ name ∷ []) i k node) last.1 (subst (λ (k : ℕ). IsNodeOf (names ++ name ∷ []) k name node) (sym last.0)
                (new_node names nodes name node shape new labels wild none)))
          ]
    ]

-- and where it is one
pub shape_wild : (names : List (List (List ℕ))) (nodes : List Node) (name : List (List ℕ)) (node at : Node) → IsShape names nodes → IsNew names name node.above → node.labels ≡ length name → node.is_wild ≡ starts_wild name
    → node.star ≡ None → starts_wild name ≡ true → wire_length name ≤ limits.NAME_BYTES → slice_get nodes node.above ≡ Some at → IsShape (names ++ name ∷ []) (slice_set (nodes ++ node ∷ []) node.above (starred at (length names)))
shape_wild names nodes name node at shape new labels wild none w short there = record {
  as_many = omega (arith, shape.as_many, length-append names (name ∷ []), length-append nodes (node ∷ []), length-set (nodes ++ node ∷ []) node.above (starred at (length names)));
  each = λ i n of is here. each_wild names nodes name node at shape new labels wild none w short there i n of is here;
}

pub or_true : (b : Bool) → (b || true) ≡ true
or_true true = refl
or_true false = refl

pub or_false : (b : Bool) → (b || false) ≡ b
or_false true = refl
or_false false = refl

or_assoc : (a b c : Bool) → ((a || b) || c) ≡ (a || (b || c))
or_assoc true b c = refl
or_assoc false b c = refl

drop_next : {X : Type 0} (n : ℕ) (xs : List X) → drop 1 (drop n xs) ≡ drop (suc n) xs
drop_next zero xs = refl
drop_next (suc n) [] = refl
drop_next (suc n) (x ∷ xs) = drop_next n xs

drop_drop : {X : Type 0} (n : ℕ) (xs : List X) → drop 1 (drop n xs) ≡ drop (n + 1) xs
drop_drop n xs = let e : suc n ≡ n + 1 = omega arith in drop_next n xs ∙ ap (λ (m : ℕ). drop m xs) e

above_from : (names : List (List (List ℕ))) (number : ℕ) (name : List (List ℕ)) → IsNamed names number (drop 1 name) → number < length names → IsAbove names number name (length names)
above_from names number [] n lt = tt
above_from names number (label ∷ rest) n lt = (n, lt)

-- whether an owner is at or below a name
pub under_true : (owner key : List (List ℕ)) (above : ℕ) → above ≤ length owner → lowered (drop above owner) ≡ lowered key → is_within owner key ≡ true
unfolding is_within
under_true owner key above h same =
    let long = length_case (drop above owner) key same in
    let place : above ≡ length owner - length key = omega (arith, long, length-drop above owner, h) in
    subst (λ (n : ℕ). is_same (drop n owner) key ≡ true) place ((same_is (drop above owner) key).1 same)

under_is : (owner key : List (List ℕ)) → is_within owner key ≡ true → lowered (drop (length owner - length key) owner) ≡ lowered key
unfolding is_within
under_is owner key h = (same_is (drop (length owner - length key) owner) key).0 h

-- all names above one that is there are there
pub closed : (names : List (List (List ℕ))) (nodes : List Node) (key : List (List ℕ)) (i m : ℕ) → IsShape names nodes → IsNamed names i key → m ≤ length key → HasNumber names (drop m key)
closed names nodes key i zero shape n h = record { number = i; is = n }
closed names nodes [] i (suc m) shape n h = absurd (omega arith)
closed names nodes (label ∷ rest) i (suc m) shape n h =
    let above = up names nodes i label rest shape n in
    closed names nodes rest above.number m shape above.is (omega arith)

-- once the whole owner is there, so are the names above it
pub has_all : (names : List (List (List ℕ))) (nodes : List Node) (owner : List (List ℕ)) (number : ℕ) → IsShape names nodes → IsNumberOf names owner number → HasAll names owner
has_all names nodes owner number shape n key missing =
    elim (cases_Bool (is_within owner key)) [
      | inl yes_under ↦
          let there = closed names nodes owner number (length owner - length key) shape n.is (omega arith) in
          absurd (missing there.number (named_case names there.number (drop (length owner - length key) owner) key (under_is owner key yes_under) there.is))
      | inr not_under ↦ not_under
    ]

number_last : (names : List (List (List ℕ))) (name : List (List ℕ)) → IsMissing names name → IsNumberOf (names ++ name ∷ []) name (length names)
number_last names name missing = record {
  is = named_last names name name refl;
  only = λ i n. elim (one_more names name name i n) [ inl old ↦ absurd (missing i old) | inr new ↦ new.0 ];
}

still_missing : (names : List (List (List ℕ))) (name key : List (List ℕ)) → IsMissing names key → (length name ≡ length key → ⊥) → IsMissing (names ++ name ∷ []) key
still_missing names name key missing other i n = elim (one_more names name key i n) [ inl old ↦ missing i old | inr new ↦ other (length_case name key new.1) ]

-- the root, where nothing of an owner is there
pub root_is_new : (names : List (List (List ℕ))) (owner : List (List ℕ)) → ((k : ℕ) → k ≤ length owner → IsMissing names (drop k owner)) → IsNew names [] 0
root_is_new names owner none = record {
  missing = subst (λ (name : List (List ℕ)). IsMissing names name) (drop_all (length owner) owner (omega arith)) (none (length owner) (omega arith));
  place = tt;
  only = λ i w n. absurd cc;
  inside = λ w. absurd cc;
}

pub root_starts : (names : List (List (List ℕ))) (owner : List (List ℕ)) → ((k : ℕ) → k ≤ length owner → IsMissing names (drop k owner)) → Adding (names ++ [] ∷ []) owner (length owner) (length names)
root_starts names owner none =
    let all = drop_all (length owner) owner (omega arith) in
    let root : IsMissing names [] = subst (λ (name : List (List ℕ)). IsMissing names name) all (none (length owner) (omega arith)) in record {
      inside = omega arith;
      number_is = subst (λ (name : List (List ℕ)). IsNumberOf (names ++ [] ∷ []) name (length names)) (sym all) (number_last names [] root);
      missing = λ k h. still_missing names [] (drop k owner) (none k (omega arith)) (λ e. omega (arith, e, h, length-drop k owner));
    }

-- a name of an owner more
pub grows_by : (before names : List (List (List ℕ))) (owner name : List (List ℕ)) (above : ℕ) → Grows before names owner → above ≤ length owner → name ≡ drop above owner → Grows before (names ++ name ∷ []) owner
grows_by before names owner name above g h is = record {
  keeps = λ i key n. kept names (name ∷ []) i key (g.keeps i key n);
  only = λ i key n. elim (one_more names name key i n) [
    | inl old ↦ g.only i key old
    | inr new ↦ inr (under_true owner key above h (ap lowered (sym is) ∙ new.1))
  ];
}

pub all_when_done : (names : List (List (List ℕ))) (nodes : List Node) (owner : List (List ℕ)) (above number : ℕ) → IsShape names nodes → Adding names owner above number → above ≤ 0 → HasAll names owner
all_when_done names nodes owner zero number shape a h = has_all names nodes owner number shape a.number_is
all_when_done names nodes owner (suc above) number shape a h = absurd (omega arith)

pub front_there : {X : Type 0} (xs all : List X) (x y : X) (i : ℕ) → slice_get xs i ≡ Some y → all ≡ xs ++ x ∷ [] → slice_get all i ≡ Some y
front_there xs all x y i at is = ap (λ (l : List _). slice_get l i) is ∙ get_front xs (x ∷ []) i y at

pub grows_none : (names : List (List (List ℕ))) (owner : List (List ℕ)) → Grows names names owner
grows_none names owner = record { keeps = λ i key n. n; only = λ i key n. inl n }

pub root_grows : (names : List (List (List ℕ))) (owner : List (List ℕ)) → Grows names (names ++ [] ∷ []) owner
root_grows names owner = grows_by names names owner [] (length owner) (grows_none names owner) (omega arith) (sym (drop_all (length owner) owner (omega arith)))

pub next_is_new : (names : List (List (List ℕ))) (owner name : List (List ℕ)) (above less number : ℕ) → Adding names owner above number → above ≡ less + 1 → name ≡ drop less owner → IsNew names name number
next_is_new names owner name above less number a e is =
    let behind : drop 1 name ≡ drop above owner = ap (drop 1) is ∙ drop_drop less owner ∙ ap (λ (n : ℕ). drop n owner) (sym e) in
    let lt = inside names number (drop above owner) a.number_is.is in record {
      missing = subst (λ (n : List (List ℕ)). IsMissing names n) (sym is) (a.missing less (omega (arith, e)));
      place = above_from names number name (subst (λ (n : List (List ℕ)). IsNamed names number n) (sym behind) a.number_is.is) lt;
      only = λ i w n. a.number_is.only i (subst (λ (k : List (List ℕ)). IsNamed names i k) behind n);
      inside = λ w. lt;
    }

pub next_starts : (names : List (List (List ℕ))) (owner name : List (List ℕ)) (above less number : ℕ) → Adding names owner above number → above ≡ less + 1 → name ≡ drop less owner
    → Adding (names ++ name ∷ []) owner less (length names)
next_starts names owner name above less number a e is = record {
  inside = omega (arith, a.inside, e);
  number_is = subst (λ (n : List (List ℕ)). IsNumberOf (names ++ name ∷ []) n (length names)) is (number_last names name (subst (λ (n : List (List ℕ)). IsMissing names n) (sym is) (a.missing less (omega (arith, e)))));
  missing = λ k h. still_missing names name (drop k owner) (a.missing k (omega (arith, e, h))) (λ same. omega (arith, same, h, ap length is, length-drop k owner, length-drop less owner, a.inside, e));
}

-- the names of one record more
any_last : (records : List RecordData) (r : RecordData) (key : List (List ℕ)) → exists_among (records ++ r ∷ []) key ≡ (exists_among records key || is_within r.owner key)
unfolding exists_among
any_last [] r key = or_false (is_within r.owner key)
any_last (x ∷ records) r key = ap (λ (b : Bool). is_within x.owner key || b) (any_last records r key) ∙ sym (or_assoc (is_within x.owner key) (list_any (λ (y : RecordData). is_within y.owner key) records) (is_within r.owner key))

pub names_more : (before after : List (List (List ℕ))) (records : List RecordData) (i : ℕ) (r : RecordData) → Grows before after r.owner → HasAll after r.owner → AreNames before (take i records) → i < length records → r ≡ get_or records i r
    → AreNames after (take (i + 1) records)
names_more before after records i r g all names lt here =
    let more : take (i + 1) records ≡ take i records ++ r ∷ [] = take_more records i r lt ∙ ap (λ (x : RecordData). take i records ++ x ∷ []) (sym here) in
    rw more (record {
      stands = λ j key n. any_last (take i records) r key ∙ elim (g.only j key n) [
        | inl old ↦ ap (λ (b : Bool). b || is_within r.owner key) (names.stands j key old)
        | inr under ↦ ap (λ (b : Bool). exists_among (take i records) key || b) under ∙ or_true (exists_among (take i records) key)
      ];
      missing = λ key m. any_last (take i records) r key ∙ (λ j. names.missing key (λ k n. m k (g.keeps k key n)) j || all key m j);
    })

pub no_names : (records : List RecordData) (names : List (List (List ℕ))) → names ≡ [] → AreNames names (take 0 records)
unfolding exists_among
no_names records names e = rw e (record { stands = λ i key n. absurd cc; missing = λ key m. refl })

pub all_names : (names : List (List (List ℕ))) (records : List RecordData) (i : ℕ) → AreNames names (take i records) → length records ≤ i → AreNames names records
all_names names records i n past = subst (λ (rs : List RecordData). AreNames names rs) (take_all i records past) n
