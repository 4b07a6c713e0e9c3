-- What is done with a store, and what it holds by counting uses.
use Rattle.std.proofs.Common.{◌≡◌, ℕ, zero, suc, ◌+◌, ◌-◌, ◌<◌, ◌≤◌, Bool, true, false, cond, List, [], ◌∷◌, ◌++◌}
use Rattle.std.proofs.Common.{map, take, Option, Some, None, refl, sym, ap, ◌∙◌, subst, arith, option_map}
use Rattle.std.specs.Option.{option_map_or}
use Rattle.std.specs.Map.{lookup, lookup_entry, remove_entry}
use Rattle.lru.specs.LruCache.{LruCache, lru_cache, promoted, put_entries}
use Rattle.last_used.specs.Uses.{IsExact, is_kept, last_used, latest}
use Rattle.last_used.specs.Stores.{shown, IsStoreOf}
use Rattle.last_used.proofs.Latest.{looked_entry, found_passes, removed_within, removed_past, kept_looked}
use Rattle.last_used.proofs.Latest.{latest_append}

pub take_first : {X : Type 0} (n : ℕ) (x : X) (xs : List X) → 0 < n → take n (x ∷ xs) ≡ x ∷ take (n - 1) xs
take_first zero x xs h = absurd (omega (arith, h))
take_first (suc n) x xs h = ap (λ (m : ℕ). x ∷ take m xs) (let s : n ≡ suc n - 1 = omega arith in s)

pub taken_again : {X : Type 0} (n : ℕ) (xs : List X) → take (n - 1) (take n xs) ≡ take (n - 1) xs
taken_again zero xs = refl
taken_again (suc n) xs = ap (λ (m : ℕ). take m (take (suc n) xs)) (let s : suc n - 1 ≡ n = omega arith in s)
    ∙ less n xs ∙ ap (λ (m : ℕ). take m xs) (let s : n ≡ suc n - 1 = omega arith in s)
  where
    less : {X : Type 0} (n : ℕ) (xs : List X) → take n (take (suc n) xs) ≡ take n xs
    less zero xs = refl
    less (suc n) [] = refl
    less (suc n) (x ∷ xs) = ap (λ (l : List _). x ∷ l) (less n xs)

module _ {K A E : Type 0} (value_of : A → E) where
  abbrev shown_one : K × A → K × E
  shown_one e = (e.0, value_of e.1)

  module _ (t : K → Bool) where
    pub shown_lookup : (es : List (K × A)) → lookup t (shown value_of es) ≡ option_map value_of (lookup t es)
    shown_lookup [] = refl
    shown_lookup (e ∷ es) = (elim (t e.0) as (λ b. t e.0 ≡ b → lookup t (shown value_of
        (e ∷ es)) ≡ option_map value_of (lookup t (e ∷ es))) [
          | true ↦ λ p. rw p
          | false ↦ λ p. rw p (shown_lookup es)
        ]) refl

    pub shown_entry : (es : List (K × A)) → lookup_entry t (shown value_of es) ≡ option_map shown_one
        (lookup_entry t es)
    shown_entry [] = refl
    shown_entry (e ∷ es) = (elim (t e.0) as (λ b. t e.0 ≡ b → lookup_entry t (shown value_of
        (e ∷ es)) ≡ option_map shown_one (lookup_entry t (e ∷ es))) [
          | true ↦ λ p. rw p
          | false ↦ λ p. rw p (shown_entry es)
        ]) refl

    pub shown_remove : (es : List (K × A)) → shown value_of (remove_entry t es) ≡ remove_entry t (shown value_of es)
    shown_remove [] = refl
    shown_remove (e ∷ es) = (elim (t e.0) as (λ b. t e.0 ≡ b → shown value_of (remove_entry t
        (e ∷ es)) ≡ remove_entry t (shown value_of (e ∷ es))) [
          | true ↦ λ p. rw p
          | false ↦ λ p. rw p (ap (λ (l : List (K × E)). shown_one e ∷ l) (shown_remove es))
        ]) refl

  pub shown_take : (n : ℕ) (es : List (K × A)) → shown value_of (take n es) ≡ take n (shown value_of es)
  shown_take zero es = refl
  shown_take (suc n) [] = refl
  shown_take (suc n) (e ∷ es) = ap (λ (l : List (K × E)). shown_one e ∷ l) (shown_take n es)

module _ {K A E : Type 0} {value_of : A → E} {same : K → K → Bool} (laws : IsExact same) where
  -- an empty store is that of no use
  pub nothing_used : (cap : ℕ) → IsStoreOf value_of same (lru_cache [] cap) []
  nothing_used zero = record { entries = refl }
  nothing_used (suc n) = record { entries = refl }

  -- a store answers by counting
  pub looked : (store : LruCache K A) (us : List (K × E)) (k : K) → IsStoreOf value_of same store us
      → option_map value_of (lookup (same k) store.entries) ≡ cond (is_kept same store.cap k us)
      (last_used same k us) None
  looked store us k h = sym (shown_lookup value_of (same k) store.entries)
      ∙ ap (λ (l : List (K × E)). lookup (same k) l) h.entries ∙ kept_looked laws store.cap k us

  -- an entry that is there, and comes first
  first_of : (store : LruCache K A) (us : List (K × E)) (k : K) (e : K × A) (a : A) → 0 < store.cap
      → IsStoreOf value_of same store us → lookup_entry (same k) store.entries ≡ Some e
      → shown value_of ((e.0, a) ∷ remove_entry (same k) store.entries) ≡ take store.cap (latest same (us ++
      (k, value_of a) ∷ []))
  first_of store us k e a low h found =
      let L = latest same us in
      let one : k ≡ e.0 = laws.one k e.0 (found_passes (same k) store.entries e found) in
      let among : lookup_entry (same k) (take store.cap L) ≡ Some (shown_one value_of e) = rw (← h.entries)
      (shown_entry value_of (same k) store.entries ∙ ap (option_map (shown_one value_of)) found) in
      let rest : shown value_of (remove_entry (same k) store.entries) ≡ take (store.cap - 1) (remove_entry
      (same k) L) =
      shown_remove value_of (same k) store.entries ∙ ap (λ (l : List (K × E)). remove_entry (same k) l) h.entries
      ∙ removed_within (same k) store.cap L (shown_one value_of e) among in
      ap (λ (l : List (K × E)). (e.0, value_of a) ∷ l) rest ∙ ap (λ (z : K). (z, value_of a) ∷ take (store.cap - 1)
      (remove_entry (same k) L)) (sym one)
      ∙ sym (take_first store.cap (k, value_of a) (remove_entry (same k) L) low)
      ∙ ap (λ (l : List (K × E)). take store.cap l) (sym (latest_append laws us (k, value_of a)))

  -- a hit is a use
  pub promotes : (store : LruCache K A) (us : List (K × E)) (k : K) (a : A) → 0 < store.cap
      → IsStoreOf value_of same store us → lookup (same k) store.entries ≡ Some a
      → IsStoreOf value_of same (lru_cache (promoted (same k) store.entries) store.cap) (us ++ (k, value_of a) ∷ [])
  promotes store us k a low h found = record { entries = by_cases (lookup_entry (same k) store.entries) refl }
    where
      by_cases : (o : Option (K × A)) → lookup_entry (same k) store.entries ≡ o
          → shown value_of (option_map_or (λ e. e ∷ remove_entry (same k) store.entries) o store.entries) ≡ take
          store.cap (latest same (us ++ (k, value_of a) ∷ []))
      by_cases None is = let none : lookup (same k) store.entries ≡ None = looked_entry (same k) store.entries
          ∙ ap (option_map (λ e. e.1)) is in absurd cc
      by_cases (Some e) is =
          let here : lookup (same k) store.entries ≡ Some e.1 = looked_entry (same k) store.entries
          ∙ ap (option_map (λ e. e.1)) is in
          let same_value : a ≡ e.1 = cc in
          subst (λ (z : A). shown value_of (e ∷ remove_entry (same k) store.entries) ≡ take store.cap (latest same
          (us ++ (k, value_of z) ∷ []))) (sym same_value) (first_of store us k e e.1 low h is)

  -- a put is a use
  pub puts : (store : LruCache K A) (us : List (K × E)) (k : K) (a : A) → 0 < store.cap
      → IsStoreOf value_of same store us
      → IsStoreOf value_of same (lru_cache (put_entries same store k a) store.cap) (us ++ (k, value_of a) ∷ [])
  puts store us k a low h = record { entries = by_cases (lookup_entry (same k) store.entries) refl }
    where
      by_cases : (o : Option (K × A)) → lookup_entry (same k) store.entries ≡ o
          → shown value_of (option_map_or (λ e. (e.0, a) ∷ remove_entry (same k) store.entries) o ((k, a) ∷ take
          (store.cap - 1) store.entries)) ≡ take store.cap (latest same (us ++ (k, value_of a) ∷ []))
      by_cases None is =
          let L = latest same us in
          let none : lookup_entry (same k) (take store.cap L) ≡ None = rw (← h.entries) (shown_entry value_of
          (same k) store.entries ∙ ap (option_map (shown_one value_of)) is) in
          let rest : shown value_of (take (store.cap - 1) store.entries) ≡ take (store.cap - 1) (remove_entry
          (same k) L) =
          shown_take value_of (store.cap - 1) store.entries ∙ ap (λ (l : List (K
          × E)). take (store.cap - 1) l) h.entries ∙ taken_again store.cap L
          ∙ sym (removed_past (same k) store.cap L none) in
          ap (λ (l : List (K × E)). (k, value_of a) ∷ l) rest ∙ sym (take_first store.cap (k, value_of a)
          (remove_entry (same k) L) low) ∙ ap (λ (l : List (K
          × E)). take store.cap l) (sym (latest_append laws us (k, value_of a)))
      by_cases (Some e) is = first_of store us k e a low h is
