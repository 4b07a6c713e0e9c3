-- A store of a shard holds what its history says.
use Rattle.std.proofs.Common.{◌≡◌, ℕ, ◌<◌, Bool, true, false, cond, ◌&&◌, List, [], ◌∷◌, ◌++◌, Option, Some}
use Rattle.std.proofs.Common.{None, option_map, refl, sym, ap, ◌∙◌, subst, append-nil, append_assoc}
use Rattle.std.specs.Option.{option_or}
use Rattle.std.specs.Map.{lookup}
use Rattle.std.specs.Arc.{arc_value}
use Rattle.std.specs.List.{AllByRecursion}
use Rattle.outside.specs.{EntryData, same_key}
use Rattle.outside.specs.SameLaws.{exact_key, key_itself}
use Rattle.outside.specs.declared.entry.Key.{Key}
use Rattle.outside.specs.declared.entry.Class.{Class}
use Rattle.outside.specs.declared.mark.Mark.{Mark}
use Rattle.outside.specs.declared.mark.Mark.TheVariants.{Looked, Put}
use Rattle.last_used.specs.Uses.{IsExact, is_kept, last_used}
use Rattle.last_used.specs.Stores.{IsStoreOf}
use Rattle.last_used.proofs.Latest.{last_append}
use Rattle.last_used.proofs.Stores.{looked, promotes, puts}
use Rattle.cache_shards.specs.Answers.{is_live, live_at, use_of, uses, put_of, last_put, found}
use Rattle.cache_shards.specs.Steps.{live_in, promoted_in, put_in}
use Rattle.cache_shards.specs.Stores.{Held, StoreData}

pub exact : IsExact same_key
exact = record { itself = key_itself; one = λ k l h. (exact_key k l).0 h }

or_none : {A : Type 0} (o : Option A) → option_or o None ≡ o
or_none None = refl
or_none (Some x) = refl

or_assoc : {A : Type 0} (o p q : Option A) → option_or (option_or o p) q ≡ option_or o (option_or p q)
or_assoc None p q = refl
or_assoc (Some x) p q = refl

module _ (stands_in : Class → Bool) where
  pub uses_snoc : (marks : List Mark) (m : Mark) → uses stands_in
      (marks ++ m ∷ []) ≡ uses stands_in marks ++ use_of stands_in m
  uses_snoc [] m = append-nil (use_of stands_in m)
  uses_snoc (x ∷ marks) m = ap (λ (l : List (Key × EntryData)). use_of stands_in x ++ l) (uses_snoc marks m)
      ∙ sym (append_assoc (use_of stands_in x) (uses stands_in marks) (use_of stands_in m))

  pub put_snoc : (key : Key) (marks : List Mark) (m : Mark) → last_put stands_in key (marks ++ m ∷ []) ≡ option_or
      (put_of stands_in key m) (last_put stands_in key marks)
  put_snoc key [] m = sym (or_none (put_of stands_in key m))
  put_snoc key (x ∷ marks) m = ap (λ (o : Option EntryData). option_or o (put_of stands_in key x))
      (put_snoc key marks m) ∙ or_assoc (put_of stands_in key m) (last_put stands_in key marks)
      (put_of stands_in key x)

  -- each use is of an entry that stands in this store
  abbrev InStore : Key × EntryData → Type 0
  InStore u = stands_in u.1.class ≡ true

  both_in : (us vs : List (Key × EntryData)) → AllByRecursion InStore us → AllByRecursion InStore vs
      → AllByRecursion InStore (us ++ vs)
  both_in [] vs h g = g
  both_in (u ∷ us) vs h g = (h.0, both_in us vs h.1 g)

  use_in : (m : Mark) → AllByRecursion InStore (use_of stands_in m)
  use_in (Looked key now (Some entry)) = by_test (stands_in entry.class) refl
    where
      by_test : (b : Bool) → stands_in entry.class ≡ b → AllByRecursion InStore (cond b ((key, entry) ∷ []) [])
      by_test true e = (e, tt)
      by_test false e = tt
  use_in (Put key entry true) = by_test (stands_in entry.class) refl
    where
      by_test : (b : Bool) → stands_in entry.class ≡ b → AllByRecursion InStore (cond b ((key, entry) ∷ []) [])
      by_test true e = (e, tt)
      by_test false e = tt
  use_in m = tt

  uses_in : (marks : List Mark) → AllByRecursion InStore (uses stands_in marks)
  uses_in [] = tt
  uses_in (m ∷ marks) = both_in (use_of stands_in m) (uses stands_in marks) (use_in m) (uses_in marks)

  last_in : (key : Key) (us : List (Key × EntryData)) (e : EntryData) → AllByRecursion InStore us
      → last_used same_key key us ≡ Some e → stands_in e.class ≡ true
  last_in key [] e h is = cc
  last_in key (u ∷ us) e h is = by_cases (last_used same_key key us) refl (λ g. last_in key us e h.1 g)
    where
      by_cases : (o : Option EntryData) → last_used same_key key us ≡ o → (last_used same_key key us ≡ Some e
          → stands_in e.class ≡ true) → stands_in e.class ≡ true
      by_cases (Some d) g more = let here = rw g at is in more (g ∙ here)
      by_cases None g more = by_test (same_key key u.0) (rw g at is)
        where
          by_test : (b : Bool) → cond b (Some u.1) None ≡ Some e → stands_in e.class ≡ true
          by_test true d = let one : u.1 ≡ e = cc in subst (λ (z : EntryData). stands_in z.class ≡ true) one h.0
          by_test false d = cc

  pub record StoreShows (most : ℕ) (marks : List Mark) (store : StoreData) : Type 0 where
    pub entries : IsStoreOf arc_value same_key store (uses stands_in marks)
    pub capacity : store.cap ≡ most
    pub last : (key : Key) → last_used same_key key (uses stands_in marks) ≡ last_put stands_in key marks

  live_cond : (now : ℕ) (b : Bool) (o : Option EntryData) → live_at now (cond b o None) ≡ cond b (live_at now o) None
  live_cond now true o = refl
  live_cond now false o = refl

  -- a store has for a key what counting says
  pub looked_shows : (capacity : ℕ) (marks : List Mark) (store : StoreData) (key : Key) (now : ℕ)
      → StoreShows capacity marks store
      → live_in store key now ≡ found stands_in capacity key now marks
  looked_shows capacity marks store key now h =
      ap (live_at now) (looked exact store (uses stands_in marks) key h.entries)
      ∙ live_cond now (is_kept same_key store.cap key (uses stands_in marks)) (last_used same_key key
      (uses stands_in marks))
      ∙ ap (λ (o : Option EntryData). cond (is_kept same_key store.cap key (uses stands_in marks))
      (live_at now o) None) (h.last key)
      ∙ ap (λ (n : ℕ). cond (is_kept same_key n key (uses stands_in marks)) (live_at now
      (last_put stands_in key marks)) None) h.capacity

  -- what a live entry is
  held : (now : ℕ) (o : Option Held) (e : EntryData) → live_at now (option_map arc_value o) ≡ Some e
      → (a : Held) × (o ≡ Some a) × (arc_value a ≡ e)
  held now None e h = cc
  held now (Some a) e h = by_test (is_live (arc_value a) now) h
    where
      by_test : (b : Bool) → cond b (Some (arc_value a)) None ≡ Some e
          → (c : Held) × (Some a ≡ Some c) × (arc_value c ≡ e)
      by_test true g = (a, refl, cc)
      by_test false g = cc

  last_found : (store : StoreData) (marks : List Mark) (key : Key) (a : Held)
      → IsStoreOf arc_value same_key store (uses stands_in marks) → lookup (same_key key) store.entries ≡ Some a
      → last_used same_key key (uses stands_in marks) ≡ Some (arc_value a)
  last_found store marks key a h is = by_test (is_kept same_key store.cap key (uses stands_in marks)) (sym
      (looked exact store (uses stands_in marks) key h) ∙ ap (option_map arc_value) is)
    where
      by_test : (b : Bool) → cond b (last_used same_key key (uses stands_in marks)) None ≡ Some (arc_value a)
          → last_used same_key key (uses stands_in marks) ≡ Some (arc_value a)
      by_test true g = g
      by_test false g = cc

  -- an entry stands in the store of its class
  pub found_in : (capacity : ℕ) (marks : List Mark) (store : StoreData) (key : Key) (now : ℕ) (e : EntryData)
      → StoreShows capacity marks store → live_in store key now ≡ Some e → stands_in e.class ≡ true
  found_in capacity marks store key now e h is =
      let a = held now (lookup (same_key key) store.entries) e is in
      last_in key (uses stands_in marks) e (uses_in marks) (last_found store marks key a.0 h.entries a.1
      ∙ ap (λ (z : EntryData). Some z) a.2)

  pub hit_shows : (capacity : ℕ) (marks : List Mark) (store : StoreData) (key : Key) (now : ℕ) (e : EntryData)
      → 0 < capacity → StoreShows capacity marks store → live_in store key now ≡ Some e
      → StoreShows capacity (marks ++ Looked key now (Some e) ∷ []) (promoted_in store key)
  hit_shows capacity marks store key now e low h is =
      let a = held now (lookup (same_key key) store.entries) e is in
      let us = uses stands_in marks in
      let m = Looked key now (Some e) in
      let class = found_in capacity marks store key now e h is in
      let grown : uses stands_in (marks ++ m ∷ []) ≡ us ++ (key, e) ∷ [] = uses_snoc marks m
      ∙ ap (λ (b : Bool). us ++ cond b ((key, e) ∷ []) []) class in
      let was : last_used same_key key us ≡ Some e = last_found store marks key a.0 h.entries a.1
      ∙ ap (λ (z : EntryData). Some z) a.2 in
      record {
        entries = subst (λ (l : List (Key × EntryData)). IsStoreOf arc_value same_key (promoted_in store key) l)
            (sym grown)
            (subst (λ (z : EntryData). IsStoreOf arc_value same_key (promoted_in store key) (us ++ (key, z) ∷ [])) a.2
            (promotes exact store us key a.0 (subst (λ (n : ℕ). 0 < n) (sym h.capacity) low) h.entries a.1));
        capacity = h.capacity;
        last = λ k. ap (last_used same_key k) grown ∙ last_append exact k us (key, e)
            ∙ by_test k was (same_key k key) refl ∙ h.last k ∙ sym (put_snoc k marks m);
      }
    where
      by_test : (k : Key) → last_used same_key key (uses stands_in marks) ≡ Some e → (b : Bool) → same_key k key ≡ b
          → option_or (cond b (Some e) None) (last_used same_key k (uses stands_in marks)) ≡ last_used same_key k
          (uses stands_in marks)
      by_test k was true p = sym (subst (λ (z : Key). last_used same_key z (uses stands_in marks) ≡ Some e) (sym
          (exact.one k key p)) was)
      by_test k was false p = refl

  pub put_shows : (capacity : ℕ) (marks : List Mark) (store : StoreData) (key : Key) (a : Held) → 0 < capacity
      → StoreShows capacity marks store → stands_in (arc_value a).class ≡ true
      → StoreShows capacity (marks ++ Put key (arc_value a) true ∷ []) (put_in store key a)
  put_shows capacity marks store key a low h class =
      let us = uses stands_in marks in
      let m = Put key (arc_value a) true in
      let grown : uses stands_in (marks ++ m ∷ []) ≡ us ++ (key, arc_value a) ∷ [] = uses_snoc marks m
      ∙ ap (λ (b : Bool). us ++ cond b ((key, arc_value a) ∷ []) []) class in
      record {
        entries = subst (λ (l : List (Key × EntryData)). IsStoreOf arc_value same_key (put_in store key a) l)
            (sym grown)
            (puts exact store us key a (subst (λ (n : ℕ). 0 < n) (sym h.capacity) low) h.entries);
        capacity = h.capacity;
        last = λ k. ap (last_used same_key k) grown ∙ last_append exact k us (key, arc_value a)
            ∙ ap (λ (o : Option EntryData). option_or (cond (same_key k key) (Some (arc_value a)) None) o)
            (h.last k)
            ∙ ap (λ (b : Bool). option_or (cond (b && same_key k key) (Some (arc_value a)) None)
            (last_put stands_in k marks)) (sym class) ∙ sym (put_snoc k marks m);
      }

  pub other_shows : (capacity : ℕ) (marks : List Mark) (store : StoreData) (m : Mark)
      → StoreShows capacity marks store → use_of stands_in m ≡ [] → ((k : Key) → put_of stands_in k m ≡ None)
      → StoreShows capacity (marks ++ m ∷ []) store
  other_shows capacity marks store m h unused put =
      let us = uses stands_in marks in
      let same : uses stands_in (marks ++ m ∷ []) ≡ us = uses_snoc marks m
      ∙ ap (λ (l : List (Key × EntryData)). us ++ l) unused ∙ append-nil us in
      record {
        entries = subst (λ (l : List (Key × EntryData)). IsStoreOf arc_value same_key store l) (sym same) h.entries;
        capacity = h.capacity;
        last = λ k. ap (last_used same_key k) same ∙ h.last k ∙ ap (λ (o : Option EntryData). option_or o
            (last_put stands_in k marks)) (sym (put k)) ∙ sym (put_snoc k marks m);
      }
