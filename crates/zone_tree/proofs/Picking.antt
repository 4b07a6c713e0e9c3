-- The records of numbers.
use Rattle.std.proofs.Common.{◌≡◌, ℕ, ◌+◌, ◌<◌, ◌≤◌, Bool, true, false, cond, List, [], ◌∷◌, ◌++◌, length, take, drop, get_or, map, Option, Some, None, refl, sym, ap, ◌∙◌, append_assoc}
use Rattle.std.specs.Prelude.{◌||◌, slice_get}
use Rattle.std.specs.List.{filter, list_any}
use Rattle.std.proofs.lemmas.List.{drop_more, drop_all, take_all, take_more, append-nil, map-append}
use Rattle.std.proofs.lemmas.List.Elements.{filter-append}
use Rattle.std.proofs.lemmas.List.Folds.{list_any-append}
use Rattle.std.proofs.lemmas.Bool.{cond-true, cond-false}
use Rattle.dns_data.specs.Record.{RecordData}
use Rattle.zone_tree.specs.Sets.{before, picked}

before-append : {X : Type 0} (o : Option X) (xs ys : List X) → before o (xs ++ ys) ≡ before o xs ++ ys
before-append None xs ys = refl
before-append (Some x) xs ys = refl

pub picked-append : (records : List RecordData) (is js : List ℕ) → picked records (is ++ js) ≡ picked records is ++ picked records js
unfolding picked
picked-append records [] js = refl
picked-append records (i ∷ is) js = ap (before (slice_get records i)) (picked-append records is js) ∙ before-append (slice_get records i) (picked records is) (picked records js)

pub picked_one : (records : List RecordData) (i : ℕ) → picked records (i ∷ []) ≡ before (slice_get records i) []
unfolding picked
picked_one records i = refl

picked_front : (records : List RecordData) (i : ℕ) (is : List ℕ) → picked records (i ∷ is) ≡ before (slice_get records i) (picked records is)
unfolding picked
picked_front records i is = refl

-- the records of one number more
picked_more : (records : List RecordData) (set : List ℕ) (i : ℕ) → i < length set → picked records (take (i + 1) set) ≡ picked records (take i set) ++ before (slice_get records (get_or set i 0)) []
picked_more records set i inside =
    ap (picked records) (take_more set i 0 inside) ∙ picked-append records (take i set) (get_or set i 0 ∷ []) ∙ ap (λ (rs : List RecordData). picked records (take i set) ++ rs) (picked_one records (get_or set i 0))

-- a record more, where it passes
pub takes : (p : RecordData → Bool) (records old out new : List RecordData) (set : List ℕ) (i : ℕ) (r : RecordData) → out ≡ old ++ filter p (picked records (take i set)) → i < length set
    → slice_get records (get_or set i 0) ≡ Some r → p r ≡ true → new ≡ out ++ r ∷ [] → new ≡ old ++ filter p (picked records (take (i + 1) set))
takes p records old out new set i r was inside at passes is =
    let done = picked records (take i set) in
    let more : picked records (take (i + 1) set) ≡ done ++ r ∷ [] = picked_more records set i inside ∙ ap (λ (o : Option RecordData). done ++ before o []) at in
    let one : filter p (r ∷ []) ≡ r ∷ [] = cond-true _ _ _ passes in
    is ∙ ap (λ (rs : List RecordData). rs ++ r ∷ []) was ∙ append_assoc old (filter p done) (r ∷ [])
    ∙ ap (λ (rs : List RecordData). old ++ (filter p done ++ rs)) (sym one)
    ∙ ap (λ (rs : List RecordData). old ++ rs) (sym (filter-append p done (r ∷ [])) ∙ ap (filter p) (sym more))

-- one that doesn't pass
pub leaves : (p : RecordData → Bool) (records old out : List RecordData) (set : List ℕ) (i : ℕ) (r : RecordData) → out ≡ old ++ filter p (picked records (take i set)) → i < length set
    → slice_get records (get_or set i 0) ≡ Some r → p r ≡ false → out ≡ old ++ filter p (picked records (take (i + 1) set))
leaves p records old out set i r was inside at fails =
    let done = picked records (take i set) in
    let more : picked records (take (i + 1) set) ≡ done ++ r ∷ [] = picked_more records set i inside ∙ ap (λ (o : Option RecordData). done ++ before o []) at in
    let none : filter p (r ∷ []) ≡ [] = cond-false _ _ _ fails in
    was ∙ ap (λ (rs : List RecordData). old ++ rs) (sym (append-nil (filter p done)) ∙ ap (λ (rs : List RecordData). filter p done ++ rs) (sym none)
    ∙ sym (filter-append p done (r ∷ [])) ∙ ap (filter p) (sym more))

takes_by : (p : RecordData → Bool) (b : Bool) (records old out new : List RecordData) (set : List ℕ) (i : ℕ) (r : RecordData) → out ≡ old ++ filter p (picked records (take i set)) → i < length set
    → slice_get records (get_or set i 0) ≡ Some r → p r ≡ b → new ≡ cond b (out ++ r ∷ []) out → new ≡ old ++ filter p (picked records (take (i + 1) set))
takes_by p true records old out new set i r was inside at e is = takes p records old out new set i r was inside at e is
takes_by p false records old out new set i r was inside at e is = is ∙ leaves p records old out set i r was inside at e

-- either
pub takes_or_leaves : (p : RecordData → Bool) (records old out new : List RecordData) (set : List ℕ) (i : ℕ) (r : RecordData) → out ≡ old ++ filter p (picked records (take i set)) → i < length set
    → slice_get records (get_or set i 0) ≡ Some r → new ≡ cond (p r) (out ++ r ∷ []) out → new ≡ old ++ filter p (picked records (take (i + 1) set))
takes_or_leaves p records old out new set i r was inside at is = takes_by p (p r) records old out new set i r was inside at refl is

-- a number without a record
pub leaves_none : (p : RecordData → Bool) (records old out : List RecordData) (set : List ℕ) (i : ℕ) → out ≡ old ++ filter p (picked records (take i set)) → i < length set
    → slice_get records (get_or set i 0) ≡ None → out ≡ old ++ filter p (picked records (take (i + 1) set))
leaves_none p records old out set i was inside at =
    let done = picked records (take i set) in
    let more : picked records (take (i + 1) set) ≡ done = picked_more records set i inside ∙ ap (λ (o : Option RecordData). done ++ before o []) at ∙ append-nil done in
    was ∙ ap (λ (rs : List RecordData). old ++ filter p rs) (sym more)

pub taken_all : (p : RecordData → Bool) (records old out : List RecordData) (set : List ℕ) (i : ℕ) → out ≡ old ++ filter p (picked records (take i set)) → length set ≤ i → out ≡ old ++ filter p (picked records set)
taken_all p records old out set i was past = was ∙ ap (λ (is : List ℕ). old ++ filter p (picked records is)) (take_all i set past)

-- copies of all
pub copies_one : (records out new : List RecordData) (set : List ℕ) (i : ℕ) (r : RecordData) → out ≡ picked records (take i set) → i < length set
    → slice_get records (get_or set i 0) ≡ Some r → new ≡ out ++ r ∷ [] → new ≡ picked records (take (i + 1) set)
copies_one records out new set i r was inside at is =
    is ∙ ap (λ (rs : List RecordData). rs ++ r ∷ []) was ∙ sym (picked_more records set i inside ∙ ap (λ (o : Option RecordData). picked records (take i set) ++ before o []) at)

pub copies_none : (records out : List RecordData) (set : List ℕ) (i : ℕ) → out ≡ picked records (take i set) → i < length set
    → slice_get records (get_or set i 0) ≡ None → out ≡ picked records (take (i + 1) set)
copies_none records out set i was inside at =
    was ∙ sym (picked_more records set i inside ∙ ap (λ (o : Option RecordData). picked records (take i set) ++ before o []) at ∙ append-nil (picked records (take i set)))

pub copied_all : (records out : List RecordData) (set : List ℕ) (i : ℕ) → out ≡ picked records (take i set) → length set ≤ i → out ≡ picked records set
copied_all records out set i was past = was ∙ ap (picked records) (take_all i set past)

-- a test of each record in turn
any_before : (p : RecordData → Bool) (o : Option RecordData) (rs : List RecordData) (r : RecordData) → o ≡ Some r → list_any p (before o rs) ≡ (p r || list_any p rs)
any_before p None rs r e = absurd cc
any_before p (Some x) rs r e = let same : x ≡ r = cc in ap (λ (y : RecordData). p y || list_any p rs) same

any_at : (p : RecordData → Bool) (records : List RecordData) (set : List ℕ) (i : ℕ) → i < length set
    → list_any p (picked records (drop i set)) ≡ list_any p (before (slice_get records (get_or set i 0)) (picked records (drop (i + 1) set)))
any_at p records set i inside =
    ap (λ (is : List ℕ). list_any p (picked records is)) (drop_more set i 0 inside) ∙ ap (list_any p) (picked_front records (get_or set i 0) (drop (i + 1) set))

pub any_here : (p : RecordData → Bool) (records : List RecordData) (set : List ℕ) (i : ℕ) (r : RecordData) → list_any p (picked records (drop i set)) ≡ list_any p (picked records set) → i < length set
    → slice_get records (get_or set i 0) ≡ Some r → p r ≡ true → true ≡ list_any p (picked records set)
any_here p records set i r was inside at passes =
    sym (ap (λ (b : Bool). b || list_any p (picked records (drop (i + 1) set))) passes) ∙ sym (any_before p (slice_get records (get_or set i 0)) (picked records (drop (i + 1) set)) r at)
    ∙ sym (any_at p records set i inside) ∙ was

pub any_later : (p : RecordData → Bool) (records : List RecordData) (set : List ℕ) (i : ℕ) (r : RecordData) → list_any p (picked records (drop i set)) ≡ list_any p (picked records set) → i < length set
    → slice_get records (get_or set i 0) ≡ Some r → p r ≡ false → list_any p (picked records (drop (i + 1) set)) ≡ list_any p (picked records set)
any_later p records set i r was inside at fails =
    sym (ap (λ (b : Bool). b || list_any p (picked records (drop (i + 1) set))) fails) ∙ sym (any_before p (slice_get records (get_or set i 0)) (picked records (drop (i + 1) set)) r at)
    ∙ sym (any_at p records set i inside) ∙ was

pub any_none : (p : RecordData → Bool) (records : List RecordData) (set : List ℕ) (i : ℕ) → list_any p (picked records (drop i set)) ≡ list_any p (picked records set) → i < length set
    → slice_get records (get_or set i 0) ≡ None → list_any p (picked records (drop (i + 1) set)) ≡ list_any p (picked records set)
any_none p records set i was inside at =
    sym (ap (λ (o : Option RecordData). list_any p (before o (picked records (drop (i + 1) set)))) at) ∙ sym (any_at p records set i inside) ∙ was

pub picked_none : (records : List RecordData) → picked records [] ≡ []
unfolding picked
picked_none records = refl

pub any_end : (p : RecordData → Bool) (records : List RecordData) (set : List ℕ) (i : ℕ) → list_any p (picked records (drop i set)) ≡ list_any p (picked records set) → length set ≤ i → false ≡ list_any p (picked records set)
any_end p records set i was past = sym (ap (list_any p) (ap (picked records) (drop_all i set past) ∙ picked_none records)) ∙ was

pub takes_none : (p : RecordData → Bool) (records old : List RecordData) → old ≡ old ++ filter p (picked records [])
takes_none p records old = sym (append-nil old) ∙ ap (λ (rs : List RecordData). old ++ filter p rs) (sym (picked_none records))

-- a list beside it, of what is made of each record that passes
pub takes_as : (f : RecordData → RecordData) (p : RecordData → Bool) (records old out new : List RecordData) (set : List ℕ) (i : ℕ) (r : RecordData)
    → out ≡ old ++ map f (filter p (picked records (take i set))) → i < length set → slice_get records (get_or set i 0) ≡ Some r → p r ≡ true → new ≡ out ++ f r ∷ []
    → new ≡ old ++ map f (filter p (picked records (take (i + 1) set)))
takes_as f p records old out new set i r was inside at passes is =
    let done = filter p (picked records (take i set)) in
    let more : done ++ r ∷ [] ≡ filter p (picked records (take (i + 1) set)) = takes p records [] done (done ++ r ∷ []) set i r refl inside at passes refl in
    is ∙ ap (λ (rs : List RecordData). rs ++ f r ∷ []) was ∙ append_assoc old (map f done) (f r ∷ []) ∙ ap (λ (rs : List RecordData). old ++ rs) (sym (map-append f done (r ∷ [])))
    ∙ ap (λ (rs : List RecordData). old ++ map f rs) more

pub leaves_as : (f : RecordData → RecordData) (p : RecordData → Bool) (records old out : List RecordData) (set : List ℕ) (i : ℕ) (r : RecordData)
    → out ≡ old ++ map f (filter p (picked records (take i set))) → i < length set → slice_get records (get_or set i 0) ≡ Some r → p r ≡ false
    → out ≡ old ++ map f (filter p (picked records (take (i + 1) set)))
leaves_as f p records old out set i r was inside at fails =
    was ∙ ap (λ (rs : List RecordData). old ++ map f rs) (leaves p records [] (filter p (picked records (take i set))) set i r refl inside at fails)

pub leaves_none_as : (f : RecordData → RecordData) (p : RecordData → Bool) (records old out : List RecordData) (set : List ℕ) (i : ℕ)
    → out ≡ old ++ map f (filter p (picked records (take i set))) → i < length set → slice_get records (get_or set i 0) ≡ None
    → out ≡ old ++ map f (filter p (picked records (take (i + 1) set)))
leaves_none_as f p records old out set i was inside at =
    was ∙ ap (λ (rs : List RecordData). old ++ map f rs) (leaves_none p records [] (filter p (picked records (take i set))) set i refl inside at)

pub takes_none_as : (f : RecordData → RecordData) (p : RecordData → Bool) (records old : List RecordData) → old ≡ old ++ map f (filter p (picked records []))
takes_none_as f p records old = sym (append-nil old) ∙ ap (λ (rs : List RecordData). old ++ map f (filter p rs)) (sym (picked_none records))

or_no : (b : Bool) → (b || false) ≡ b
or_no true = refl
or_no false = refl

any_last : (p : RecordData → Bool) (rs : List RecordData) (r : RecordData) → (list_any p rs || p r) ≡ list_any p (rs ++ r ∷ [])
any_last p rs r = sym (list_any-append p rs (r ∷ []) ∙ ap (λ (b : Bool). list_any p rs || b) (or_no (p r)))

-- copies of all behind others
pub copied_one : (records old out new : List RecordData) (set : List ℕ) (i : ℕ) (r : RecordData) → out ≡ old ++ picked records (take i set) → i < length set
    → slice_get records (get_or set i 0) ≡ Some r → new ≡ out ++ r ∷ [] → new ≡ old ++ picked records (take (i + 1) set)
copied_one records old out new set i r was inside at is =
    let done = picked records (take i set) in
    is ∙ ap (λ (rs : List RecordData). rs ++ r ∷ []) was ∙ append_assoc old done (r ∷ []) ∙ ap (λ (rs : List RecordData). old ++ rs) (copies_one records done (done ++ r ∷ []) set i r refl inside at refl)

pub copied_none : (records old out : List RecordData) (set : List ℕ) (i : ℕ) → out ≡ old ++ picked records (take i set) → i < length set
    → slice_get records (get_or set i 0) ≡ None → out ≡ old ++ picked records (take (i + 1) set)
copied_none records old out set i was inside at = was ∙ ap (λ (rs : List RecordData). old ++ rs) (copies_none records (picked records (take i set)) set i refl inside at)

pub copied_first : (records old : List RecordData) → old ≡ old ++ picked records []
copied_first records old = sym (append-nil old) ∙ ap (λ (rs : List RecordData). old ++ rs) (sym (picked_none records))

-- a number more
pub picked_pushed : (records : List RecordData) (is : List ℕ) (i : ℕ) (r : RecordData) → slice_get records i ≡ Some r → picked records (is ++ i ∷ []) ≡ picked records is ++ r ∷ []
picked_pushed records is i r at = picked-append records is (i ∷ []) ∙ ap (λ (rs : List RecordData). picked records is ++ rs) (picked_one records i ∙ ap (λ (o : Option RecordData). before o []) at)

-- a test of each record in turn, as it is kept
pub any_more : (p : RecordData → Bool) (records : List RecordData) (set : List ℕ) (i : ℕ) (r : RecordData) (before_is : Bool) → before_is ≡ list_any p (picked records (take i set)) → i < length set
    → slice_get records (get_or set i 0) ≡ Some r → (before_is || p r) ≡ list_any p (picked records (take (i + 1) set))
any_more p records set i r before_is was inside at =
    let done = picked records (take i set) in
    ap (λ (b : Bool). b || p r) was ∙ any_last p done r ∙ ap (list_any p) (copies_one records done (done ++ r ∷ []) set i r refl inside at refl)

pub any_same : (p : RecordData → Bool) (records : List RecordData) (set : List ℕ) (i : ℕ) (before_is : Bool) → before_is ≡ list_any p (picked records (take i set)) → i < length set
    → slice_get records (get_or set i 0) ≡ None → before_is ≡ list_any p (picked records (take (i + 1) set))
any_same p records set i before_is was inside at = was ∙ ap (list_any p) (copies_none records (picked records (take i set)) set i refl inside at)

pub any_first : (p : RecordData → Bool) (records : List RecordData) → false ≡ list_any p (picked records [])
any_first p records = sym (ap (list_any p) (picked_none records))
