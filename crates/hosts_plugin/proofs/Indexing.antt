-- An index of what is listed: what it has after a number more.
use Rattle.std.proofs.Common.{◌≡◌, ℕ, zero, suc, Bool, true, false, cond, List, [], ◌∷◌, ◌++◌, length, take, Option, Some, None, refl, sym, ap, subst, ◌∙◌, arith, inl, inr, eqb, eqb-true, eq-eqb, filter, option_map}
use Rattle.std.specs.Prelude.{slice_get, slice_set}
use Rattle.std.proofs.lemmas.List.{length-append, take_all, append-nil}
use Rattle.std.proofs.lemmas.List.Elements.{filter-append}
use Rattle.std.proofs.lemmas.Option.{slice_get_within}
use Rattle.dns_names.specs.Name.{is_same, lowered, same_labels}
use Rattle.dns_names.specs.WithinLaws.{same_is}
use Rattle.name_table.specs.NumberLaws.{front, last, named_by, named_within, push_cases, set_other, set_same}
use Rattle.name_table.specs.Table.{IsMissing, IsNamed, IsNumberOf}
use Rattle.hosts_plugin.specs.declared.listing.Listing.{Listing}
use Rattle.hosts_plugin.specs.Index.{Adds, IndexData, IsEmpty, IsFound, IsIndexOf, before, has_some, kept, picked}

named_at : (names : List (List (List ℕ))) (i : ℕ) (name key : List (List ℕ)) → slice_get names i ≡ Some name → lowered name ≡ lowered key → IsNamed names i key
named_at names i name key e same = ap (option_map lowered) e ∙ ap Some same

named_same : (names : List (List (List ℕ))) (i : ℕ) (name key : List (List ℕ)) → slice_get names i ≡ Some name → IsNamed names i key → lowered name ≡ lowered key
named_same names i name key e n = let two : Some (lowered name) ≡ Some (lowered key) = sym (ap (option_map lowered) e) ∙ n in cc

take_next : {X : Type 0} (xs : List X) (n : ℕ) (x : X) → slice_get xs n ≡ Some x → take (suc n) xs ≡ take n xs ++ x ∷ []
take_next [] n x e = absurd cc
take_next (y ∷ xs) zero x e = let same : y ≡ x = cc in ap (λ z. z ∷ []) same
take_next (y ∷ xs) (suc n) x e = ap (λ zs. y ∷ zs) (take_next xs n x e)

-- what is listed under a name, with one more
kept_by : (key : Listing → List (List ℕ)) (name : List (List ℕ)) (l : Listing) (b : Bool) → is_same (key l) name ≡ b → kept key name (l ∷ []) ≡ cond b (l ∷ []) []
kept_by key name l b e = rw e refl

kept_next : (key : Listing → List (List ℕ)) (name : List (List ℕ)) (listings : List Listing) (n : ℕ) (l : Listing) (b : Bool) → slice_get listings n ≡ Some l → is_same (key l) name ≡ b
    → kept key name (take (suc n) listings) ≡ kept key name (take n listings) ++ cond b (l ∷ []) []
kept_next key name listings n l b e same =
    ap (kept key name) (take_next listings n l e) ∙ filter-append (λ (x : Listing). is_same (key x) name) (take n listings) (l ∷ [])
    ∙ ap (λ (ls : List Listing). kept key name (take n listings) ++ ls) (kept_by key name l b same)

kept_same : (key : Listing → List (List ℕ)) (name : List (List ℕ)) (listings : List Listing) (n : ℕ) (l : Listing) → slice_get listings n ≡ Some l → is_same (key l) name ≡ false
    → kept key name (take (suc n) listings) ≡ kept key name (take n listings)
kept_same key name listings n l e same = kept_next key name listings n l false e same ∙ append-nil (kept key name (take n listings))

has_more : (xs ys : List Listing) → has_some xs ≡ true → has_some (xs ++ ys) ≡ true
has_more [] ys e = absurd cc
has_more (x ∷ xs) ys e = refl

has_last : (xs : List Listing) (x : Listing) → has_some (xs ++ x ∷ []) ≡ true
has_last [] x = refl
has_last (y ∷ xs) x = refl

before_append : {X : Type 0} (o : Option X) (xs ys : List X) → before o (xs ++ ys) ≡ before o xs ++ ys
before_append None xs ys = refl
before_append (Some x) xs ys = refl

picked_push : {X : Type 0} (items : List X) (set : List ℕ) (n : ℕ) (x : X) → slice_get items n ≡ Some x → picked items (set ++ n ∷ []) ≡ picked items set ++ x ∷ []
picked_push items [] n x e = ap (λ o. before o []) e
picked_push items (i ∷ set) n x e = ap (before (slice_get items i)) (picked_push items set n x e) ∙ before_append (slice_get items i) (picked items set) (x ∷ [])

set_length : {X : Type 0} (xs : List X) (i : ℕ) (x : X) → length (slice_set xs i x) ≡ length xs
set_length [] i x = refl
set_length (y ∷ xs) zero x = refl
set_length (y ∷ xs) (suc i) x = ap suc (set_length xs i x)

-- the parts of what an index has, by its names and sets
abbrev Each : List (List (List ℕ)) → List (List ℕ) → (Listing → List (List ℕ)) → List Listing → ℕ → Type 0
Each names sets key listings count = (i : ℕ) (name : List (List ℕ)) (set : List ℕ) → slice_get names i ≡ Some name → slice_get sets i ≡ Some set → picked listings set ≡ kept key name (take count listings)

-- the name is there: at its own place
to_own : (names : List (List (List ℕ))) (sets : List (List ℕ)) (key : Listing → List (List ℕ)) (listings : List Listing) (n : ℕ) (l : Listing) (place : ℕ) (old : List ℕ)
    → slice_get listings n ≡ Some l → Each names sets key listings n → IsNumberOf names (key l) place → slice_get sets place ≡ Some old
    → (name : List (List ℕ)) (set : List ℕ) → slice_get names place ≡ Some name → slice_get (slice_set sets place (old ++ n ∷ [])) place ≡ Some set
    → picked listings set ≡ kept key name (take (suc n) listings)
to_own names sets key listings n l place old e each is stood name set at_name at_set =
    let inside = slice_get_within sets place old stood in
    let two : Some (old ++ n ∷ []) ≡ Some set = sym (set_same sets place (old ++ n ∷ []) inside) ∙ at_set in
    let set_is : old ++ n ∷ [] ≡ set = cc in
    let same = (same_is (key l) name).1 (sym (named_same names place name (key l) at_name is.is)) in
    ap (picked listings) (sym set_is) ∙ picked_push listings old n l e ∙ ap (λ (ls : List Listing). ls ++ l ∷ []) (each place name old at_name stood) ∙ sym (kept_next key name listings n l true e same)

-- and at another one
other_false : (names : List (List (List ℕ))) (key name : List (List ℕ)) (i place : ℕ) (b : Bool) → slice_get names i ≡ Some name → IsNumberOf names key place → (place ≡ i → ⊥) → is_same key name ≡ b → is_same key name ≡ false
other_false names key name i place false at_name is n e = e
other_false names key name i place true at_name is n e = absurd (n (sym (is.only i (named_at names i name key at_name (sym ((same_is key name).0 e))))))

to_other : (names : List (List (List ℕ))) (sets : List (List ℕ)) (key : Listing → List (List ℕ)) (listings : List Listing) (n : ℕ) (l : Listing) (place : ℕ) (new : List ℕ)
    → slice_get listings n ≡ Some l → Each names sets key listings n → IsNumberOf names (key l) place → (i : ℕ) → (place ≡ i → ⊥)
    → (name : List (List ℕ)) (set : List ℕ) → slice_get names i ≡ Some name → slice_get (slice_set sets place new) i ≡ Some set
    → picked listings set ≡ kept key name (take (suc n) listings)
to_other names sets key listings n l place new e each is i other name set at_name at_set =
    each i name set at_name (sym (set_other sets place i new other) ∙ at_set)
    ∙ sym (kept_same key name listings n l e (other_false names (key l) name i place (is_same (key l) name) at_name is other refl))

to_by : (names : List (List (List ℕ))) (sets : List (List ℕ)) (key : Listing → List (List ℕ)) (listings : List Listing) (n : ℕ) (l : Listing) (place : ℕ) (old : List ℕ)
    → slice_get listings n ≡ Some l → Each names sets key listings n → IsNumberOf names (key l) place → slice_get sets place ≡ Some old
    → (i : ℕ) (b : Bool) → eqb place i ≡ b → (name : List (List ℕ)) (set : List ℕ) → slice_get names i ≡ Some name → slice_get (slice_set sets place (old ++ n ∷ [])) i ≡ Some set
    → picked listings set ≡ kept key name (take (suc n) listings)
to_by names sets key listings n l place old e each is stood i true b name set at_name at_set =
    let at : i ≡ place = sym (eqb-true place i b) in
    to_own names sets key listings n l place old e each is stood name set (subst (λ (k : ℕ). slice_get names k ≡ Some name) at at_name)
    (subst (λ (k : ℕ). slice_get (slice_set sets place (old ++ n ∷ [])) k ≡ Some set) at at_set)
to_by names sets key listings n l place old e each is stood i false b name set at_name at_set =
    to_other names sets key listings n l place (old ++ n ∷ []) e each is i (λ at. let yes = eq-eqb place i at in absurd cc) name set at_name at_set

-- what a name is that is missing
missing_false : (names : List (List (List ℕ))) (key name : List (List ℕ)) (i : ℕ) (b : Bool) → IsNamed names i key → IsMissing names name → is_same key name ≡ b → is_same key name ≡ false
missing_false names key name i false n m e = e
missing_false names key name i true n m e = absurd (m i (n ∙ ap Some ((same_is key name).0 e)))

abbrev index_of : List (List (List ℕ)) → List (List ℕ) → IndexData
index_of names sets = record { names = names; sets = sets }

to_more : (names : List (List (List ℕ))) (sets : List (List ℕ)) (key : Listing → List (List ℕ)) (listings : List Listing) (n : ℕ) (l : Listing) (place : ℕ) (old : List ℕ)
    → slice_get listings n ≡ Some l → IsIndexOf (index_of names sets) key listings n → IsNumberOf names (key l) place → slice_get sets place ≡ Some old
    → IsIndexOf (index_of names (slice_set sets place (old ++ n ∷ []))) key listings (suc n)
to_more names sets key listings n l place old e h is stood = record {
  as_many = set_length sets place (old ++ n ∷ []) ∙ h.as_many;
  each = λ i name set. to_by names sets key listings n l place old e h.each is stood i (eqb place i) refl name set;
  some = λ i name at. ap has_some (kept_next key name listings n l (is_same (key l) name) e refl)
      ∙ has_more (kept key name (take n listings)) (cond (is_same (key l) name) (l ∷ []) []) (h.some i name at);
  none = λ name m. kept_same key name listings n l e (missing_false names (key l) name place (is_same (key l) name) is.is m refl) ∙ h.none name m;
}

-- the name is new
front_missing : (names : List (List (List ℕ))) (new name : List (List ℕ)) → IsMissing (names ++ new ∷ []) name → IsMissing names name
front_missing names new name m = λ i n. m i (ap (option_map lowered) (front names new i (named_within names name i n)) ∙ n)

new_false : (names : List (List (List ℕ))) (key name : List (List ℕ)) (i : ℕ) (b : Bool) → slice_get names i ≡ Some name → IsMissing names key → is_same key name ≡ b → is_same key name ≡ false
new_false names key name i false at_name m e = e
new_false names key name i true at_name m e = absurd (m i (named_at names i name key at_name (sym ((same_is key name).0 e))))

last_named : (names : List (List (List ℕ))) (new : List (List ℕ)) → IsNamed (names ++ new ∷ []) (length names) new
last_named names new = ap (option_map lowered) (last names new)

new_each : (names : List (List (List ℕ))) (sets : List (List ℕ)) (key : Listing → List (List ℕ)) (listings : List Listing) (n : ℕ) (l : Listing)
    → slice_get listings n ≡ Some l → IsIndexOf (index_of names sets) key listings n → IsMissing names (key l)
    → (i : ℕ) (name : List (List ℕ)) (set : List ℕ) → slice_get (names ++ key l ∷ []) i ≡ Some name → slice_get (sets ++ (n ∷ []) ∷ []) i ≡ Some set
    → picked listings set ≡ kept key name (take (suc n) listings)
new_each names sets key listings n l e h m i name set at_name at_set = elim (push_cases names (key l) i name at_name) [
  | inl stood ↦ let inside = slice_get_within names i name stood in
      let at_old : slice_get sets i ≡ Some set = sym (front sets (n ∷ []) i (omega (arith, inside, h.as_many))) ∙ at_set in
      h.each i name set stood at_old ∙ sym (kept_same key name listings n l e (new_false names (key l) name i (is_same (key l) name) stood m refl))
  | inr new ↦ let at : length sets ≡ i = omega (arith, new.0, h.as_many) in
      let two : Some (n ∷ []) ≡ Some set = sym (last sets (n ∷ [])) ∙ subst (λ (k : ℕ). slice_get (sets ++ (n ∷ []) ∷ []) k ≡ Some set) (sym at) at_set in
      let set_is : n ∷ [] ≡ set = cc in
      let same : is_same (key l) name ≡ true = (same_is (key l) name).1 (ap lowered new.1) in
      let nothing : kept key name (take n listings) ≡ [] = ap (λ (k : List (List ℕ)). kept key k (take n listings)) (sym new.1) ∙ h.none (key l) m in
      ap (picked listings) (sym set_is) ∙ picked_push listings [] n l e ∙ ap (λ (ls : List Listing). ls ++ l ∷ []) (sym nothing) ∙ sym (kept_next key name listings n l true e same)
]

new_some : (names : List (List (List ℕ))) (sets : List (List ℕ)) (key : Listing → List (List ℕ)) (listings : List Listing) (n : ℕ) (l : Listing)
    → slice_get listings n ≡ Some l → IsIndexOf (index_of names sets) key listings n
    → (i : ℕ) (name : List (List ℕ)) → slice_get (names ++ key l ∷ []) i ≡ Some name → has_some (kept key name (take (suc n) listings)) ≡ true
new_some names sets key listings n l e h i name at_name = elim (push_cases names (key l) i name at_name) [
  | inl stood ↦ ap has_some (kept_next key name listings n l (is_same (key l) name) e refl)
      ∙ has_more (kept key name (take n listings)) (cond (is_same (key l) name) (l ∷ []) []) (h.some i name stood)
  | inr new ↦ let same : is_same (key l) name ≡ true = (same_is (key l) name).1 (ap lowered new.1) in
      ap has_some (kept_next key name listings n l true e same) ∙ has_last (kept key name (take n listings)) l
]

new_more : (names : List (List (List ℕ))) (sets : List (List ℕ)) (key : Listing → List (List ℕ)) (listings : List Listing) (n : ℕ) (l : Listing)
    → slice_get listings n ≡ Some l → IsIndexOf (index_of names sets) key listings n → IsMissing names (key l)
    → IsIndexOf (index_of (names ++ key l ∷ []) (sets ++ (n ∷ []) ∷ [])) key listings (suc n)
new_more names sets key listings n l e h m = record {
  as_many = omega (arith, length-append names (key l ∷ []), length-append sets ((n ∷ []) ∷ []), h.as_many);
  each = new_each names sets key listings n l e h m;
  some = new_some names sets key listings n l e h;
  none = λ name missing. let old = front_missing names (key l) name missing in
      kept_same key name listings n l e (missing_false (names ++ key l ∷ []) (key l) name (length names) (is_same (key l) name) (last_named names (key l)) missing refl) ∙ h.none name old;
}

-- one listing more
pub index_more : (first second : IndexData) (key : Listing → List (List ℕ)) (listings : List Listing) (n : ℕ) (l : Listing)
    → slice_get listings n ≡ Some l → IsIndexOf first key listings n → Adds first second (key l) n → IsIndexOf second key listings (suc n)
index_more first second key listings n l e h a = elim a [
  | inl to ↦ subst (λ (x : IndexData). IsIndexOf x key listings (suc n)) (sym (λ i. index_of (to.names i) (to.sets i))) (to_more first.names first.sets key listings n l to.place to.old e h to.is to.stood)
  | inr new ↦ subst (λ (x : IndexData). IsIndexOf x key listings (suc n)) (sym (λ i. index_of (new.names i) (new.sets i))) (new_more first.names first.sets key listings n l e h new.missing)
]

nothing_at : {X : Type 0} (xs : List X) (i : ℕ) (x : X) → xs ≡ [] → slice_get xs i ≡ Some x → ⊥
nothing_at xs i x e h = let none : slice_get [] i ≡ Some x = subst (λ ys. slice_get ys i ≡ Some x) e h in absurd cc

-- an index of nothing
pub index_none : (index : IndexData) (key : Listing → List (List ℕ)) (listings : List Listing) → IsEmpty index → IsIndexOf index key listings 0
index_none index key listings e = record {
  as_many = ap length e.1 ∙ sym (ap length e.0);
  each = λ i name set at _. absurd (nothing_at index.names i name e.0 at);
  some = λ i name at. absurd (nothing_at index.names i name e.0 at);
  none = λ name m. refl;
}

-- what is found under a name
pub record IsAll (found some : List Listing) : Type 0 where
  pub is : found ≡ some
  pub filled : has_some found ≡ true

pub found_all : (index : IndexData) (key : Listing → List (List ℕ)) (listings : List Listing) (name : List (List ℕ)) (set : List ℕ) → IsIndexOf index key listings (length listings) → IsFound index name set
    → IsAll (kept key name listings) (picked listings set)
found_all index key listings name set h f =
    let there = named_by (slice_get index.names f.place) (lowered name) f.is.is in
    let whole : take (length listings) listings ≡ listings = take_all (length listings) listings (omega arith) in
    let small : kept key there.name listings ≡ kept key name listings = ap (λ (low : List (List ℕ)). filter (λ (l : Listing). same_labels (lowered (key l)) low) listings) there.same in
    record {
      is = sym (h.each f.place there.name set there.is f.stands ∙ ap (kept key there.name) whole ∙ small);
      filled = ap has_some (sym (ap (kept key there.name) whole ∙ small)) ∙ h.some f.place there.name there.is;
    }

pub missing_none : (index : IndexData) (key : Listing → List (List ℕ)) (listings : List Listing) (name : List (List ℕ)) → IsIndexOf index key listings (length listings) → IsMissing index.names name → kept key name listings ≡ []
missing_none index key listings name h m = ap (kept key name) (sym (take_all (length listings) listings (omega arith))) ∙ h.none name m
