-- Tables of names: what their buckets hold.
use Rattle.std.proofs.Common.{◌≡◌, ◌↔◌, ℕ, zero, suc, ◌+◌, ◌<◌, ◌≤◌, List, [], ◌∷◌, ◌++◌, length, drop, take, map, get_or, set, ◌-◌, ◌*◌, ◌/◌, ◌%◌, ◌^◌, cond, Bool, true, false, Option, Some, None, refl, inl, inr, sym, ap, subst, ◌∙◌, arith, add-one}
use Rattle.std.specs.Prelude.{slice_get, slice_set, slice_index_or, ◌⊎◌, IfNone, IfSome, slice_index, slice_range, nat_lt}
use Rattle.std.specs.Option.{option_map}
use Rattle.std.proofs.lemmas.Option.{slice_get_past, slice_get_within, slice_get-get_or, get_or_from_slice_get}
use Rattle.std.proofs.lemmas.List.{get_or-set_same, length-set, drop_all, length-map, take-map, drop-map}
use Rattle.std.specs.Int.{w64, from_le_bytes}
use Rattle.std.specs.Char.{to_ascii_lowercase}
use Rattle.std.proofs.lemmas.Bool.{cases_lt}
use Rattle.dns_names.specs.Name.{IsName, spelled, lowered}
use Rattle.dns_names.specs.NameLaws.{same_case}
use Rattle.name_table.specs.Hash.{small, word_at, mixed, words_to, bytes_to, sum_of, hash_of, place_of}
use Rattle.name_table.specs.NumberLaws.{last, push_cases}
use Rattle.name_table.specs.Table.{AreMarked, Holds, IsNamed, IsNumberOf, IsLongest, IsTable, IsKept, IsEntryOf, NoneAmong, IsMissing, PassedTo, entry_of}
use Rattle.std.specs.Int.Bits.{bit_or}
use Rattle.std.proofs.lemmas.Nat.{or_block}
use Rattle.std.proofs.lemmas.Bool.{agree_below_at}
use Rattle.std.proofs.Common.{eqb, eqb-true, true, false, rules, length-take, length-drop, length-append}
use Rattle.name_table.specs.declared.hash.TheConstants.{SMALL}
use Rattle.name_table.specs.declared.entry.Entry.{Entry}

pub not_there : (names : List (List (List ℕ))) (i : ℕ) (key : List (List ℕ)) → length names ≤ i → IsNamed names i key → ⊥
not_there names i key past n = let none = slice_get_past names i past in absurd cc

-- the name at an index is the key where their spellings are the same, case aside
pub is_there : (names : List (List (List ℕ))) (i : ℕ) (name key : List (List ℕ)) → i < length names → name ≡ get_or names i name → IsName name → IsName key
    → IsNamed names i key ↔ (map to_ascii_lowercase (spelled name) ≡ map to_ascii_lowercase (spelled key))
is_there names i name key inside e p q =
    let here : slice_get names i ≡ Some name = slice_get-get_or names i name inside ∙ ap Some (sym e) in
    let both = same_case name key p.each q.each in (
      λ n. both.1 (let two : Some (lowered name) ≡ Some (lowered key) = sym (ap (option_map lowered) here) ∙ n in cc),
      λ s. ap (option_map lowered) here ∙ ap Some (both.0 s),
    )

-- a letter and its capital are one, with that bit set
small_case : (x : ℕ) → small (to_ascii_lowercase x) ≡ small x
small_case x = elim (cases_lt x 91) [
  | inl lt ↦ eqb-true (small (to_ascii_lowercase x)) (small x) (agree_below_at (λ (d : ℕ). eqb (small (to_ascii_lowercase d)) (small d)) (λ _. true) 91 x refl lt)
  | inr past ↦
      let e : nat_lt x 65 ≡ false = search rules in
      let f : nat_lt x 91 ≡ false = search rules in
      rw (e, f) refl
]

small_as : (x y : ℕ) → to_ascii_lowercase x ≡ to_ascii_lowercase y → small x ≡ small y
small_as x y e = sym (small_case x) ∙ ap small e ∙ small_case y

smalls : (a b : List ℕ) → map to_ascii_lowercase a ≡ map to_ascii_lowercase b → map small a ≡ map small b
smalls [] [] e = refl
smalls [] (y ∷ b) e = absurd cc
smalls (x ∷ a) [] e = absurd cc
smalls (x ∷ a) (y ∷ b) e =
    let head : to_ascii_lowercase x ≡ to_ascii_lowercase y = cc in
    let rest : map to_ascii_lowercase a ≡ map to_ascii_lowercase b = cc in
    λ i. small_as x y head i ∷ smalls a b rest i

part : (a : List ℕ) (at : ℕ) → map small (slice_range a at (at + 8)) ≡ take (at + 8 - at) (drop at (map small a))
part a at = sym (take-map small (at + 8 - at) (drop at a)) ∙ ap (take (at + 8 - at)) (sym (drop-map small at a))

-- what the hash takes of bytes is the same, case aside
word_case : (a b : List ℕ) (at : ℕ) → map to_ascii_lowercase a ≡ map to_ascii_lowercase b → word_at a at ≡ word_at b at
unfolding word_at
word_case a b at e = ap (from_le_bytes w64) (part a at ∙ ap (λ (t : List ℕ). take (at + 8 - at) (drop at t)) (smalls a b e) ∙ sym (part b at))

byte_case : (a b : List ℕ) (i : ℕ) → map to_ascii_lowercase a ≡ map to_ascii_lowercase b → small (slice_index a i) ≡ small (slice_index b i)
byte_case [] [] i e = refl
byte_case [] (y ∷ b) i e = absurd cc
byte_case (x ∷ a) [] i e = absurd cc
byte_case (x ∷ a) (y ∷ b) zero e = small_as x y (let head : to_ascii_lowercase x ≡ to_ascii_lowercase y = cc in head)
byte_case (x ∷ a) (y ∷ b) (suc i) e = byte_case a b i (let rest : map to_ascii_lowercase a ≡ map to_ascii_lowercase b = cc in rest)

length_case : (a b : List ℕ) → map to_ascii_lowercase a ≡ map to_ascii_lowercase b → length a ≡ length b
length_case a b e = sym (length-map a to_ascii_lowercase) ∙ ap length e ∙ length-map b to_ascii_lowercase

words_case : (a b : List ℕ) (i : ℕ) → map to_ascii_lowercase a ≡ map to_ascii_lowercase b → words_to i a ≡ words_to i b
unfolding words_to
words_case a b zero e = length_case a b e
words_case a b (suc i) e = λ j. mixed (words_case a b i e j) (word_case a b (8 * i) e j)

bytes_case : (a b : List ℕ) (i : ℕ) → map to_ascii_lowercase a ≡ map to_ascii_lowercase b → bytes_to i a ≡ bytes_to i b
unfolding bytes_to
bytes_case a b zero e = length_case a b e
bytes_case a b (suc i) e = λ j. mixed (bytes_case a b i e j) (byte_case a b i e j)

sum_case : (a b : List ℕ) → map to_ascii_lowercase a ≡ map to_ascii_lowercase b → sum_of a ≡ sum_of b
unfolding sum_of
sum_case a b e =
    let same = length_case a b e in
    rw same (λ j. cond (nat_lt (length b) 8) (bytes_case a b (length b) e j) (mixed (words_case a b (length b / 8) e j) (word_case a b (length b - 8) e j)))

-- names that are the same, case aside, have one hash
hash_case : (a b : List (List ℕ)) → IsName a → IsName b → lowered a ≡ lowered b → hash_of (spelled a) ≡ hash_of (spelled b)
unfolding hash_of
hash_case a b p q e = ap (λ (h : ℕ). h % 2 ^ 32) (sum_case (spelled a) (spelled b) ((same_case a b p.each q.each).1 e))

pub starts : (names : List (List (List ℕ))) (entries : List Entry) (key : List (List ℕ)) (hash : ℕ) → NoneAmong names entries key hash 0
starts names entries key hash place i h e n = absurd (omega arith)

pub passes : (names : List (List (List ℕ))) (entries : List Entry) (key : List (List ℕ)) (hash count : ℕ) (entry : Entry) → NoneAmong names entries key hash count → entry ≡ get_or entries count entry
    → (IsEntryOf names entry key hash → ⊥) → NoneAmong names entries key hash (count + 1)
passes names entries key hash count entry none here other place i at h n =
    elim (cases_lt place count) [
      | inl lt ↦ none place i lt h n
      | inr past ↦
          let same : place ≡ count = omega arith in
          let is : entry ≡ entry_of hash i = here ∙ get_or_from_slice_get entries count (entry_of hash i) entry (subst (λ (k : ℕ). slice_get entries k ≡ Some (entry_of hash i)) same h) in
          other (record {
            hash_is = ap (λ (e : Entry). e.hash) is;
            named = subst (λ (k : ℕ). IsNamed names k key) (sym (ap (λ (e : Entry). e.number) is)) n;
          })
    ]

pub ends : (names : List (List (List ℕ))) (entries : List Entry) (key : List (List ℕ)) (hash count : ℕ) → NoneAmong names entries key hash count → length entries ≤ count
    → (i : ℕ) → Holds entries (entry_of hash i) → IsNamed names i key → ⊥
ends names entries key hash count none all i h n = none h.place i (let inside = slice_get_within entries h.place (entry_of hash i) h.is in omega arith) h.is n

front : {X : Type 0} (xs ys : List X) (i : ℕ) (x : X) → slice_get xs i ≡ Some x → slice_get (xs ++ ys) i ≡ Some x
front [] ys i x e = absurd cc
front (z ∷ xs) ys zero x e = e
front (z ∷ xs) ys (suc i) x e = front xs ys i x e

set_here : {X : Type 0} (xs : List X) (i : ℕ) (x y : X) → slice_get (slice_set xs i x) i ≡ Some y → x ≡ y
set_here [] i x y e = absurd cc
set_here (z ∷ xs) zero x y e = cc
set_here (z ∷ xs) (suc i) x y e = set_here xs i x y e

-- an item of a list with one item set is that item, or an old one
set_either : {X : Type 0} (xs : List X) (i j : ℕ) (x y : X) → slice_get (slice_set xs i x) j ≡ Some y → ((i ≡ j) × (x ≡ y)) ⊎ (slice_get xs j ≡ Some y)
set_either [] i j x y e = inr e
set_either (z ∷ xs) zero zero x y e = inl (refl, cc)
set_either (z ∷ xs) zero (suc j) x y e = inr e
set_either (z ∷ xs) (suc i) zero x y e = inr e
set_either (z ∷ xs) (suc i) (suc j) x y e = elim (set_either xs i j x y e) [ inl here ↦ inl (ap suc here.0, here.1) | inr old ↦ inr old ]

-- a bucket that holds more
held : (bucket : List Entry) (more entry : Entry) → Holds bucket entry → Holds (bucket ++ more ∷ []) entry
held bucket more entry h = record { place = h.place; is = front bucket (more ∷ []) h.place entry h.is }

get_front : {X : Type 0} (xs ys : List X) (i : ℕ) → i < length xs → slice_get (xs ++ ys) i ≡ slice_get xs i
get_front [] ys i h = absurd (omega arith)
get_front (z ∷ xs) ys zero h = refl
get_front (z ∷ xs) ys (suc i) h = get_front xs ys i (omega arith)

pub bucket_is : (buckets : List (List Entry)) (place hash count : ℕ) (bucket : List Entry) → place ≡ place_of hash count → count ≡ length buckets → place < count
    → bucket ≡ get_or buckets place bucket → slice_get buckets (place_of hash (length buckets)) ≡ Some bucket
bucket_is buckets place hash count bucket at all inside e =
    let here : slice_get buckets place ≡ Some bucket = slice_get-get_or buckets place bucket (omega arith) ∙ ap Some (sym e) in
    subst (λ (n : ℕ). slice_get buckets (place_of hash n) ≡ Some bucket) all (subst (λ (p : ℕ). slice_get buckets p ≡ Some bucket) at here)

pub none_by : (names : List (List (List ℕ))) (buckets : List (List Entry)) (o : Option ℕ) (key : List (List ℕ)) (hash : ℕ) (bucket : List Entry) → IsTable names buckets → IsName key
    → hash ≡ hash_of (spelled key) → slice_get buckets (place_of hash (length buckets)) ≡ Some bucket → IfNone o ((i : ℕ) → Holds bucket (entry_of hash i) → IsNamed names i key → ⊥)
    → IfNone o (IsMissing names key)
none_by names buckets None key hash bucket t p e at h =
    λ i n. h i (subst (λ (k : ℕ). Holds bucket (entry_of k i)) (sym e) (t.kept i key bucket p n (subst (λ (k : ℕ). slice_get buckets (place_of k (length buckets)) ≡ Some bucket) e at))) n
none_by names buckets (Some x) key hash bucket t p e at h = tt

pub found_by : (names : List (List (List ℕ))) (buckets : List (List Entry)) (o : Option ℕ) (key : List (List ℕ)) → IsTable names buckets → IfSome o (λ i. IsNamed names i key)
    → IfSome o (λ i. IsNumberOf names key i)
found_by names buckets None key t h = tt
found_by names buckets (Some x) key t h = record { is = h; only = λ i n. t.distinct i x key n h }

-- an entry more in a bucket
kept_after : (names : List (List (List ℕ))) (buckets : List (List Entry)) (place : ℕ) (entry : Entry) (old new : List Entry) → IsKept names buckets → place < length buckets → old ≡ get_or buckets place old
    → new ≡ old ++ entry ∷ [] → IsKept names (slice_set buckets place new)
kept_after names buckets place entry old new kept inside was is i key bucket p n at =
    let hash = hash_of (spelled key) in
    let there : slice_get (slice_set buckets place new) (place_of hash (length buckets)) ≡ Some bucket =
    subst (λ (m : ℕ). slice_get (slice_set buckets place new) (place_of hash m) ≡ Some bucket) (length-set buckets place new) at in
    elim (set_either buckets place (place_of hash (length buckets)) new bucket there) [
      | inl here ↦
          let before : slice_get buckets (place_of hash (length buckets)) ≡ Some old = subst (λ (p : ℕ). slice_get buckets p ≡ Some old) here.0 (slice_get-get_or buckets place old inside ∙ ap Some (sym was)) in
          subst (λ (b : List Entry). Holds b (entry_of hash i)) (sym is ∙ here.1) (held old entry (entry_of hash i) (kept i key old p n before))
      | inr other ↦ kept i key bucket p n other
    ]

pub table_after : (names : List (List (List ℕ))) (buckets : List (List Entry)) (place : ℕ) (entry : Entry) (old new : List Entry) → IsTable names buckets → place < length buckets → old ≡ get_or buckets place old
    → new ≡ old ++ entry ∷ [] → IsTable names (slice_set buckets place new)
table_after names buckets place entry old new t inside was is = record {
  some = omega (arith, t.some, length-set buckets place new);
  few = omega (arith, t.few, length-set buckets place new);
  kept = kept_after names buckets place entry old new t.kept inside was is;
  distinct = t.distinct;
}

only_last : (names : List (List (List ℕ))) (name : List (List ℕ)) (i : ℕ) (key : List (List ℕ)) → length names ≤ i → IsNamed (names ++ name ∷ []) i key → (i ≡ length names) × (lowered name ≡ lowered key)
only_last [] name zero key past n = (refl, let both : Some (lowered name) ≡ Some (lowered key) = n in cc)
only_last [] name (suc i) key past n = absurd cc
only_last (x ∷ names) name zero key past n = absurd (omega arith)
only_last (x ∷ names) name (suc i) key past n = let rest = only_last names name i key (omega arith) n in (omega (arith, rest.0), rest.1)

-- the new name's entry is in its bucket
new_one : (names : List (List (List ℕ))) (buckets : List (List Entry)) (place hash : ℕ) (old new : List Entry) (name : List (List ℕ)) → place < length buckets → new ≡ old ++ entry_of hash (length names) ∷ []
    → hash ≡ hash_of (spelled name) → IsName name → place ≡ place_of hash (length buckets) → (i : ℕ) (key : List (List ℕ)) (bucket : List Entry) → IsName key → length names ≤ i → IsNamed (names ++ name ∷ []) i key
    → slice_get (slice_set buckets place new) (place_of (hash_of (spelled key)) (length (slice_set buckets place new))) ≡ Some bucket → Holds bucket (entry_of (hash_of (spelled key)) i)
new_one names buckets place hash old new name inside is spells proper at i key bucket p past n there =
    let within = only_last names name i key past n in
    let same : hash_of (spelled key) ≡ hash = hash_case key name p proper (sym within.1) ∙ sym spells in
    let where_it_is : place_of (hash_of (spelled key)) (length (slice_set buckets place new)) ≡ place =
    (λ j. place_of (same j) (length-set buckets place new j)) ∙ sym at in
    let here : new ≡ bucket = set_here buckets place new bucket (subst (λ (p : ℕ). slice_get (slice_set buckets place new) p ≡ Some bucket) where_it_is there) in
    let entry : entry_of hash (length names) ≡ entry_of (hash_of (spelled key)) i = λ j. entry_of (sym same j) (sym within.0 j) in
    subst (λ (b : List Entry). Holds b (entry_of (hash_of (spelled key)) i)) here
    (record { place = length old; is = ap (λ (b : List Entry). slice_get b (length old)) is ∙ last old (entry_of hash (length names)) ∙ ap Some entry })

old_one : (names : List (List (List ℕ))) (name : List (List ℕ)) (i : ℕ) (key : List (List ℕ)) → i < length names → IsNamed (names ++ name ∷ []) i key → IsNamed names i key
old_one names name i key lt n = ap (option_map lowered) (sym (get_front names (name ∷ []) i lt)) ∙ n

still_missing : (names : List (List (List ℕ))) (name : List (List ℕ)) (i j : ℕ) (key : List (List ℕ)) → IsMissing names name → i < length names → length names ≤ j
    → IsNamed (names ++ name ∷ []) i key → IsNamed (names ++ name ∷ []) j key → ⊥
still_missing names name i j key missing lt past n m =
    missing i (old_one names name i key lt n ∙ ap Some (sym (only_last names name j key past m).1))

distinct_after : (names : List (List (List ℕ))) (name : List (List ℕ)) → IsMissing names name → ((i j : ℕ) (key : List (List ℕ)) → IsNamed names i key → IsNamed names j key → i ≡ j)
    → (i j : ℕ) (key : List (List ℕ)) → IsNamed (names ++ name ∷ []) i key → IsNamed (names ++ name ∷ []) j key → i ≡ j
distinct_after names name missing distinct i j key n m =
    elim (cases_lt i (length names)) [
      | inl first ↦ elim (cases_lt j (length names)) [
        | inl second ↦ distinct i j key (old_one names name i key first n) (old_one names name j key second m)
        | inr past ↦ absurd (still_missing names name i j key missing first past n m)
      ]
      | inr past ↦ elim (cases_lt j (length names)) [
        | inl second ↦ absurd (still_missing names name j i key missing second past m n)
        | inr behind ↦ (only_last names name i key past n).0 ∙ sym (only_last names name j key behind m).0
      ]
    ]

-- a name more, whose entry is in its bucket
pub more_after : (names : List (List (List ℕ))) (buckets : List (List Entry)) (place hash : ℕ) (old new : List Entry) (name : List (List ℕ)) → IsTable names buckets → place < length buckets
    → old ≡ get_or buckets place old → new ≡ old ++ entry_of hash (length names) ∷ [] → hash ≡ hash_of (spelled name) → IsName name → place ≡ place_of hash (length buckets) → IsMissing names name
    → IsTable (names ++ name ∷ []) (slice_set buckets place new)
more_after names buckets place hash old new name t inside was is spells proper at missing =
    let before = table_after names buckets place (entry_of hash (length names)) old new t inside was is in record {
      some = before.some;
      few = before.few;
      kept = λ i key bucket p n there.
          elim (cases_lt i (length names)) [
            | inl lt ↦ before.kept i key bucket p (old_one names name i key lt n) there
            | inr past ↦ new_one names buckets place hash old new name inside is spells proper at i key bucket p past n there
          ];
      distinct = distinct_after names name missing t.distinct;
    }

pub is_longest : (names : List (List (List ℕ))) (name rest : List (List ℕ)) (above number : ℕ) → PassedTo names name above rest → IsNumberOf names rest number
    → IsLongest names name (record { above = above; number = number })
is_longest names name rest above number p n = record {
  inside = p.inside;
  is = subst (λ (r : List (List ℕ)). IsNumberOf names r number) p.is n;
  longer = p.longer;
}

room : (above : ℕ) (name : List (List ℕ)) (label : List ℕ) (more : List (List ℕ)) → drop above name ≡ label ∷ more → above + 1 ≤ length name
room zero [] label more e = absurd cc
room zero (l ∷ name) label more e = omega arith
room (suc above) [] label more e = absurd cc
room (suc above) (l ∷ name) label more e = omega (arith, room above name label more e)

next : (above : ℕ) (name : List (List ℕ)) (label : List ℕ) (more : List (List ℕ)) → drop above name ≡ label ∷ more → more ≡ drop (above + 1) name
next zero [] label more e = absurd cc
next zero (l ∷ name) label more e = cc
next (suc above) [] label more e = absurd cc
next (suc above) (l ∷ name) label more e = rw add-one (rw add-one at (next above name label more e))

ended : (above : ℕ) (name : List (List ℕ)) → drop above name ≡ [] → length name ≤ above
ended zero [] e = omega arith
ended zero (l ∷ name) e = absurd cc
ended (suc above) [] e = omega arith
ended (suc above) (l ∷ name) e = omega (arith, ended above name e)

pub sets_out : (names : List (List (List ℕ))) (name rest : List (List ℕ)) → rest ≡ name → PassedTo names name 0 rest
sets_out names name rest e = record { inside = omega arith; is = e; longer = λ k h. absurd (omega arith) }

pub goes_up : (names : List (List (List ℕ))) (name rest more : List (List ℕ)) (label : List ℕ) (above : ℕ) → PassedTo names name above rest → IsMissing names rest → rest ≡ label ∷ more → PassedTo names name (above + 1) more
goes_up names name rest more label above p none e =
    let here : drop above name ≡ label ∷ more = sym p.is ∙ e in record {
      inside = room above name label more here;
      is = next above name label more here;
      longer = λ k h. elim (cases_lt k above) [
        | inl lt ↦ p.longer k lt
        | inr past ↦ subst (λ (r : List (List ℕ)). IsMissing names r) (p.is ∙ ap (λ (n : ℕ). drop n name) (omega arith)) none
      ];
    }

pub at_end : (names : List (List (List ℕ))) (name rest : List (List ℕ)) (above : ℕ) → PassedTo names name above rest → IsMissing names rest → rest ≡ [] → (k : ℕ) → k ≤ length name → IsMissing names (drop k name)
at_end names name rest above p none e k h =
    elim (cases_lt k above) [
      | inl lt ↦ p.longer k lt
      | inr past ↦ subst (λ (r : List (List ℕ)). IsMissing names r) (e ∙ sym (drop_all k name (let long = ended above name (sym p.is ∙ e) in omega arith))) none
    ]

at_small : (bytes : List ℕ) (i : ℕ) → i < length bytes → slice_index (map small bytes) i ≡ small (slice_index bytes i)
at_small [] i l = absurd (omega arith)
at_small (x ∷ bytes) zero l = refl
at_small (x ∷ bytes) (suc i) l = at_small bytes i (omega arith)

-- a byte more, below others
below : (a m byte : ℕ) → byte < 256 → bit_or (a * 256 + byte) (m * 256 + 32) ≡ bit_or a m * 256 + small byte
below a m byte h = or_block 8 a m byte 32 h (omega arith)

-- a number by its bytes, lowest first
abbrev word_of : ℕ → ℕ → ℕ → ℕ → ℕ → ℕ → ℕ → ℕ → ℕ
word_of a b c d e f g h = ((((((h * 256 + g) * 256 + f) * 256 + e) * 256 + d) * 256 + c) * 256 + b) * 256 + a

set_each : (a b c d e f g h : ℕ) → a < 256 → b < 256 → c < 256 → d < 256 → e < 256 → f < 256 → g < 256 → bit_or (word_of a b c d e f g h) SMALL ≡ word_of (small a) (small b) (small c) (small d) (small e) (small f) (small g) (small h)
set_each a b c d e f g h a_few b_few c_few d_few e_few f_few g_few = below ((((((h * 256 + g) * 256 + f) * 256 + e) * 256 + d) * 256 + c) * 256 + b) 9042521604759584 a a_few ∙ ap (λ (t : ℕ). t * 256 + small a)
    (below (((((h * 256 + g) * 256 + f) * 256 + e) * 256 + d) * 256 + c) 35322350018592 b b_few ∙ ap (λ (t : ℕ). t * 256 + small b)
    (below ((((h * 256 + g) * 256 + f) * 256 + e) * 256 + d) 137977929760 c c_few ∙ ap (λ (t : ℕ). t * 256 + small c)
    (below (((h * 256 + g) * 256 + f) * 256 + e) 538976288 d d_few ∙ ap (λ (t : ℕ). t * 256 + small d)
    (below ((h * 256 + g) * 256 + f) 2105376 e e_few ∙ ap (λ (t : ℕ). t * 256 + small e)
    (below (h * 256 + g) 8224 f f_few ∙ ap (λ (t : ℕ). t * 256 + small f)
    (below (h) 32 g g_few))))))

-- the bit of eight bytes is set in each
pub small_word : (bytes : List ℕ) → length bytes ≡ 8 → ((i : ℕ) → slice_index bytes i < 256) → bit_or (from_le_bytes w64 bytes) SMALL ≡ from_le_bytes w64 (map small bytes)
small_word bytes long few =
    let b = λ (i : ℕ). slice_index bytes i in
    let left : from_le_bytes w64 bytes ≡ word_of (b 0) (b 1) (b 2) (b 3) (b 4) (b 5) (b 6) (b 7) = omega arith in
    let at = λ (i : ℕ) (l : i < 8). at_small bytes i (omega (arith, l, long)) in
    let right : word_of (small (b 0)) (small (b 1)) (small (b 2)) (small (b 3)) (small (b 4)) (small (b 5)) (small (b 6)) (small (b 7)) ≡ from_le_bytes w64 (map small bytes) =
    omega (arith, at 0 (omega arith), at 1 (omega arith), at 2 (omega arith), at 3 (omega arith), at 4 (omega arith), at 5 (omega arith), at 6 (omega arith), at 7 (omega arith)) in
    ap (λ (t : ℕ). bit_or t SMALL) left ∙ set_each (b 0) (b 1) (b 2) (b 3) (b 4) (b 5) (b 6) (b 7) (few 0) (few 1) (few 2) (few 3) (few 4) (few 5) (few 6) ∙ right

none_there : (at count i : ℕ) → slice_index (take count (drop at [])) i ≡ 0
none_there zero zero i = refl
none_there zero (suc count) i = refl
none_there (suc at) zero i = refl
none_there (suc at) (suc count) i = refl

range_few : (bytes : List ℕ) (at count : ℕ) → ((i : ℕ) → slice_index bytes i < 256) → (i : ℕ) → slice_index (take count (drop at bytes)) i < 256
range_few [] at count few i = omega (arith, none_there at count i)
range_few (x ∷ bytes) zero zero few i = omega arith
range_few (x ∷ bytes) zero (suc count) few zero = few zero
range_few (x ∷ bytes) zero (suc count) few (suc i) = range_few bytes zero count (λ j. few (suc j)) i
range_few (x ∷ bytes) (suc at) count few i = range_few bytes at count (λ j. few (suc j)) i

pub small_range : (bytes : List ℕ) (at word : ℕ) → at + 8 ≤ length bytes → ((i : ℕ) → slice_index bytes i < 256) → word ≡ from_le_bytes w64 (slice_range bytes at (at + 8)) → bit_or word SMALL ≡ word_at bytes at
unfolding word_at
small_range bytes at word inside few e =
    let long : length (slice_range bytes at (at + 8)) ≡ 8 = omega (arith, length-take (at + 8 - at) (drop at bytes), length-drop at bytes, inside) in
    ap (λ (t : ℕ). bit_or t SMALL) e ∙ small_word (slice_range bytes at (at + 8)) long (range_few bytes at (at + 8 - at) few)

length_lowered : (name : List (List ℕ)) → length (spelled (lowered name)) ≡ length (spelled name)
length_lowered [] = refl
length_lowered (label ∷ name) =
    let low = map to_ascii_lowercase label in
    omega (arith, length-append low (spelled (lowered name)), length-append label (spelled name), length-map label to_ascii_lowercase, length_lowered name)

-- a name is as long as one that is the same
marked_too : (lengths : List Bool) (o : Option (List (List ℕ))) (key : List (List ℕ)) → ((name : List (List ℕ)) → o ≡ Some name → slice_index_or lengths (length (spelled name)) false ≡ true) → option_map lowered o ≡ Some (lowered key) → slice_index_or lengths (length (spelled key)) false ≡ true
marked_too lengths None key h e = absurd cc
marked_too lengths (Some name) key h e =
    let same : lowered name ≡ lowered key = cc in
    let both : length (spelled (lowered name)) ≡ length (spelled (lowered key)) = ap (λ (n : List (List ℕ)). length (spelled n)) same in
    let long : length (spelled key) ≡ length (spelled name) = omega (arith, both, length_lowered name, length_lowered key) in
    ap (λ at. slice_index_or lengths at false) long ∙ h name refl

pub none_so_long : (names : List (List (List ℕ))) (lengths : List Bool) (key : List (List ℕ)) (wire : List ℕ) → AreMarked names lengths → wire ≡ spelled key → slice_index_or lengths (length wire) false ≡ false → IsMissing names key
none_so_long names lengths key wire marked is none i n =
    let yes = marked_too lengths (slice_get names i) key (marked i) n in
    let no = ap (λ (w : List ℕ). slice_index_or lengths (length w) false) (sym is) ∙ none in
    let clash : true ≡ false = sym yes ∙ no in
    absurd cc

set_mark : (lengths : List Bool) (at other : ℕ) → slice_index_or lengths other false ≡ true → slice_index_or (set lengths at true) other false ≡ true
set_mark [] at other e = absurd cc
set_mark (mark ∷ lengths) zero zero e = refl
set_mark (mark ∷ lengths) zero (suc other) e = e
set_mark (mark ∷ lengths) (suc at) zero e = e
set_mark (mark ∷ lengths) (suc at) (suc other) e = set_mark lengths at other e

pub mark_push : (names : List (List (List ℕ))) (name : List (List ℕ)) (lengths : List Bool) (at : ℕ) → AreMarked names lengths → at ≡ length (spelled name) → at < length lengths → AreMarked (names ++ name ∷ []) (set lengths at true)
mark_push names name lengths at marked is inside i other stands = elim (push_cases names name i other stands) [
  | inl old ↦ set_mark lengths at (length (spelled other)) (marked i other old)
  | inr new ↦
      let same : length (spelled other) ≡ at = ap (λ (n : List (List ℕ)). length (spelled n)) (sym new.1) ∙ sym is in
      ap (λ here. slice_index_or (set lengths at true) here false) same ∙ get_or-set_same lengths at true false inside
]
