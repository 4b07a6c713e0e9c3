-- Walks over the labels of a name, from its first label on.
use Rattle.std.proofs.Common.{◌≡◌, ℕ, zero, suc, ◌+◌, ◌-◌, ◌<◌, ◌≤◌, ◌↔◌, Bool, IsTrue, nat_eq, List, [], ◌∷◌, length, take, drop, get_or, map, refl, inl, inr, add-one, sym, ap, subst, ◌∙◌, arith, length-append}
use Rattle.std.proofs.lemmas.List.{take_at, drop_at, length-map, drop_more, drop_all, drop-drop, nil_from_length}
use Rattle.std.proofs.lemmas.Bool.{cases_lt}
use Rattle.std.proofs.lemmas.Bool.Decides.{Decides-eqb}
use Rattle.std.proofs.lemmas.Slice.Eq.{slice_eq-Decides}
use Rattle.std.specs.Cmp.Lexicographic.{pointwise}
use Rattle.std.proofs.Math.Nat.{eq-or-lt_of_le}
use Rattle.std.specs.List.{AllByRecursion}
use Rattle.std.specs.Char.{to_ascii_lowercase}
use Rattle.dns_names.specs.Name.{IsLabel, IsName, IsWire, IsWithin, Rest, spelled, labels_of, lowered}
use Rattle.dns_names.specs.NameLaws.{few, spelling, proper, spells_name, IsName-drop, labels-drop, same_case}

-- what stands at the head of a spelling
pub record Head (rest label : List ℕ) (others : List (List ℕ)) : Type 0 where
  pub size : get_or rest 0 0 ≡ length label
  pub text : take (length label) (drop 1 rest) ≡ label
  pub behind : drop (length label + 1) rest ≡ spelled others
  pub long : length label + 1 ≤ length rest

pub head_of : (rest label : List ℕ) (others : List (List ℕ)) → rest ≡ spelled (label ∷ others) → Head rest label others
head_of rest label others e = subst (λ (r : List ℕ). Head r label others) (sym e) (record {
  size = refl;
  text = take_at label (spelled others) (length label) refl;
  behind = rw add-one (drop_at label (spelled others) (length label) refl);
  long = omega (arith, length-append label (spelled others));
})

-- a rest that is not empty begins with a label
more_left : (name : List (List ℕ)) (i : ℕ) (rest : List ℕ) → Rest name i rest → 0 < length rest → i < length name
more_left name i rest r long =
    elim (cases_lt i (length name)) [
      | inl lt ↦ lt
      | inr past ↦ absurd (let none : length rest ≡ 0 = ap length r.is ∙ ap (λ (t : List (List ℕ)). length (spelled t)) (drop_all i name past) in omega arith)
    ]

pub record Step (name : List (List ℕ)) (i : ℕ) (rest : List ℕ) : Type 0 where
  pub inside : i < length name
  pub head : Head rest (get_or name i []) (drop (i + 1) name)

pub step : (name : List (List ℕ)) (i : ℕ) (rest : List ℕ) → Rest name i rest → 0 < length rest → Step name i rest
step name i rest r long =
    let inside = more_left name i rest r long in
    record { inside = inside; head = head_of rest (get_or name i []) (drop (i + 1) name) (r.is ∙ ap spelled (drop_more name i [] inside)) }

pub starts : (wire : List ℕ) (name : List (List ℕ)) → IsWire wire → labels_of wire ≡ name → Rest name 0 wire
starts wire name w e = record { inside = omega arith; is = spelling wire name w e }

-- where a label is left, something is
pub more_here : (name : List (List ℕ)) (i : ℕ) (rest : List ℕ) → Rest name i rest → i < length name → 0 < length rest
more_here name i rest r inside =
    let h = head_of rest (get_or name i []) (drop (i + 1) name) (r.is ∙ ap spelled (drop_more name i [] inside)) in
    omega (arith, h.long)

-- a label stands at the head
pub has_room : (name : List (List ℕ)) (i : ℕ) (rest : List ℕ) → Rest name i rest → 0 < length rest → get_or rest 0 0 + 1 ≤ length rest
has_room name i rest r long =
    let s = step name i rest r long in
    omega (arith, s.head.size, s.head.long)

-- what stands behind it
pub moves_on : (name : List (List ℕ)) (i : ℕ) (rest next : List ℕ) → Rest name i rest → 0 < length rest → next ≡ drop (get_or rest 0 0 + 1) rest → Rest name (i + 1) next
moves_on name i rest next r long e =
    let s = step name i rest r long in
    record {
      inside = omega (arith, s.inside);
      is = e ∙ ap (λ (k : ℕ). drop (k + 1) rest) s.head.size ∙ s.head.behind;
    }

label-in : (name : List (List ℕ)) (i : ℕ) → AllByRecursion IsLabel name → i < length name → IsLabel (get_or name i [])
label-in [] i each h = absurd (omega arith)
label-in (l ∷ name) zero each h = each.0
label-in (l ∷ name) (suc i) each h = label-in name i each.1 (omega arith)

-- the label at the head
pub label_here : (name : List (List ℕ)) (i : ℕ) (rest text : List ℕ) → Rest name i rest → 0 < length rest → text ≡ take (get_or rest 0 0) (drop 1 rest) → text ≡ get_or name i []
label_here name i rest text r long e =
    let s = step name i rest r long in
    e ∙ ap (λ (k : ℕ). take k (drop 1 rest)) s.head.size ∙ s.head.text

pub is_label : (name : List (List ℕ)) (i : ℕ) → IsName name → i < length name → IsLabel (get_or name i [])
is_label name i n h = label-in name i n.each h

-- at the end nothing is left
pub at_end : (name : List (List ℕ)) (i : ℕ) (rest : List ℕ) → Rest name i rest → length rest ≡ 0 → i ≡ length name
at_end name i rest r none =
    elim (cases_lt i (length name)) [
      | inl lt ↦ absurd (
          let s = head_of rest (get_or name i []) (drop (i + 1) name) (r.is ∙ ap spelled (drop_more name i [] lt)) in
          omega (arith, s.long, none))
      | inr past ↦ omega (arith, past, r.inside)
    ]

-- the walk to a zone: no label that was passed begins what is as short as the zone
pub record WithinSoFar (name zone : List (List ℕ)) (rest : List ℕ) : Type 0 where
  pub count : ℕ
  pub at : Rest name count rest
  pub first : (k : ℕ) → length (spelled (drop k name)) ≤ length (spelled zone) → count ≤ k

pub within_starts : (wire : List ℕ) (name zone : List (List ℕ)) → IsWire wire → labels_of wire ≡ name → WithinSoFar name zone wire
within_starts wire name zone w e = record { count = 0; at = starts wire name w e; first = λ k h. omega arith }

pub within_goes_on : (name zone : List (List ℕ)) (rest next : List ℕ) → WithinSoFar name zone rest → length (spelled zone) < length rest → next ≡ drop (get_or rest 0 0 + 1) rest
    → WithinSoFar name zone next
within_goes_on name zone rest next s long e =
    let size = ap length s.at.is in
    record {
      count = s.count + 1;
      at = moves_on name s.count rest next s.at (omega arith) e;
      first = λ k h.
          elim (eq-or-lt_of_le (s.first k h)) [
            | inl same ↦ absurd (let there : length (spelled (drop k name)) ≡ length (spelled (drop s.count name)) = ap (λ (j : ℕ). length (spelled (drop j name))) (sym same) in omega (arith, there, size, h, long))
            | inr lt ↦ omega (arith, lt)
          ];
    }

-- what is left of a spelling is not longer
shorter : (j : ℕ) (ls : List (List ℕ)) → length (spelled (drop j ls)) ≤ length (spelled ls)
shorter zero ls = omega arith
shorter (suc j) [] = omega arith
shorter (suc j) (l ∷ ls) = omega (arith, shorter j ls, length-append l (spelled ls))

-- where it is as long, it is the same
as_long : (j : ℕ) (ls : List (List ℕ)) → length (spelled ls) ≤ length (spelled (drop j ls)) → drop j ls ≡ ls
as_long zero ls h = refl
as_long (suc j) [] h = refl
as_long (suc j) (l ∷ ls) h = absurd (omega (arith, h, shorter j ls, length-append l (spelled ls)))

pub within_ends : (name zone : List (List ℕ)) (rest : List ℕ) → WithinSoFar name zone rest → length rest ≤ length (spelled zone) → IsName name → IsName zone
    → (map to_ascii_lowercase rest ≡ map to_ascii_lowercase (spelled zone)) ↔ IsWithin name zone
within_ends name zone rest s short n z =
    let here = s.at.is in (
      λ e. record {
        above = s.count;
        inside = s.at.inside;
        same = (same_case (drop s.count name) zone (labels-drop s.count name n.each) z.each).0 (ap (map to_ascii_lowercase) (sym here) ∙ e);
      },
      λ w.
          let e = (same_case (drop w.above name) zone (labels-drop w.above name n.each) z.each).1 w.same in
          let long : length (spelled (drop w.above name)) ≡ length (spelled zone) =
          sym (length-map (spelled (drop w.above name)) to_ascii_lowercase) ∙ ap length e ∙ length-map (spelled zone) to_ascii_lowercase in
          let far : s.count ≤ w.above = s.first w.above (omega (arith, long)) in
          let more : drop (w.above - s.count) (drop s.count name) ≡ drop w.above name =
          drop-drop (w.above - s.count) s.count name ∙ ap (λ (k : ℕ). drop k name) (omega arith) in
          let same : drop w.above name ≡ drop s.count name =
          sym more ∙ as_long (w.above - s.count) (drop s.count name) (omega (arith, ap length here, short, long, ap (λ (t : List (List ℕ)). length (spelled t)) more)) in
          ap (map to_ascii_lowercase) (here ∙ ap spelled (sym same)) ∙ e,
    )

-- without case, two wires are the same where their names are
pub same_wires : (wire other : List ℕ) (name named : List (List ℕ)) → IsWire wire → labels_of wire ≡ name → IsWire other → labels_of other ≡ named
    → (map to_ascii_lowercase wire ≡ map to_ascii_lowercase other) ↔ (lowered name ≡ lowered named)
same_wires wire other name named w e v d =
    let p = ap (map to_ascii_lowercase) (spelling wire name w e) in
    let q = ap (map to_ascii_lowercase) (spelling other named v d) in
    let both = same_case name named (proper wire name w e).each (proper other named v d).each in
    (λ h. both.0 (sym p ∙ h ∙ q), λ h. p ∙ both.1 h ∙ sym q)

-- an empty wire is the root
pub none_left : (wire : List ℕ) (name : List (List ℕ)) → IsWire wire → labels_of wire ≡ name → length wire ≡ 0 → name ≡ []
none_left wire name w e none = nil_from_length name (omega (arith, few name, none, ap length (spelling wire name w e)))

-- the first label of a wire, and what is behind it
pub record Next (name : List (List ℕ)) (text next : List ℕ) : Type 0 where
  pub right : IsWire next
  pub value : name ≡ text ∷ labels_of next
  pub sized : IsLabel text

pub next_label : (wire text next : List ℕ) (name : List (List ℕ)) → IsWire wire → labels_of wire ≡ name → 0 < length wire → text ≡ take (get_or wire 0 0) (drop 1 wire) → next ≡ drop (get_or wire 0 0 + 1) wire
    → Next name text next
next_label wire text next name w e long p q =
    let r = starts wire name w e in
    let n = proper wire name w e in
    let inside = more_left name 0 wire r long in
    let rest = moves_on name 0 wire next r long q in
    let is = label_here name 0 wire text r long p in
    let s = spells_name next (drop 1 name) rest.is (IsName-drop 1 name n) in
    record {
      right = s.right;
      value = drop_more name 0 [] inside ∙ (λ i. sym is i ∷ sym s.view i);
      sized = subst IsLabel (sym is) (is_label name 0 n inside);
    }

-- what is left, from the fields of an open name
pub rest_of : (wire other rest : List ℕ) (name : List (List ℕ)) (i : ℕ) → i ≤ length name → labels_of wire ≡ name → other ≡ wire → rest ≡ spelled (drop i (labels_of other)) → Rest name i rest
rest_of wire other rest name i inside e o r = record {
  inside = inside;
  is = r ∙ ap (λ (w : List ℕ). spelled (drop i (labels_of w))) o ∙ ap (λ (n : List (List ℕ)). spelled (drop i n)) e;
}

-- what `==` says of two wires
pub same_name : (r : Bool) (xs ys wire other : List ℕ) (name named : List (List ℕ)) → IsWire wire → labels_of wire ≡ name → IsWire other → labels_of other ≡ named
    → xs ≡ wire → ys ≡ other → r ≡ pointwise nat_eq xs ys → IsTrue r ↔ (name ≡ named)
same_name r xs ys wire other name named w e v d p q is =
    let both = slice_eq-Decides Decides-eqb xs ys r is in (
      λ t. sym e ∙ ap labels_of (sym p ∙ both.0 t ∙ q) ∙ d,
      λ h. both.1 (p ∙ spelling wire name w e ∙ ap spelled h ∙ sym (spelling other named v d) ∙ sym q),
    )
