-- A list that is kept in the order of last use.
use Rattle.std.proofs.Common.{◌≡◌, ℕ, zero, suc, ◌+◌, ◌-◌, ◌<◌, ◌≤◌, Bool, true, false, cond, ltb, ◌||◌, List, []}
use Rattle.std.proofs.Common.{◌∷◌, ◌++◌, length, take, length-append, Option, Some, None, refl, sym, ap, ◌∙◌, subst}
use Rattle.std.proofs.Common.{arith}
use Rattle.std.specs.Option.{option_or, option_map, option_map_or, is_some}
use Rattle.std.specs.Map.{lookup, lookup_entry, remove_entry}
use Rattle.std.proofs.lemmas.Bool.{false≢true, or_parts, ltb-true, ltb-false, lt-ltb, le-ltb}
use Rattle.last_used.specs.Uses.{IsExact, is_used, count_keys, behind_last, is_kept, last_used, latest}

-- one entry of a list, by a test of its key
module _ {K E : Type 0} (t : K → Bool) where
  pub none_removed : (xs : List (K × E)) → lookup_entry t xs ≡ None → remove_entry t xs ≡ xs
  none_removed [] h = refl
  none_removed (x ∷ xs) h = (elim (t x.0) as (λ b. t x.0 ≡ b → remove_entry t (x ∷ xs) ≡ x ∷ xs) [
    | true ↦ λ e. let g = rw e at h in cc
    | false ↦ λ e. rw e (ap (λ (l : List (K × E)). x ∷ l) (none_removed xs (rw e at h)))
  ]) refl

  pub removed_last : (xs : List (K × E)) (u : K × E) → lookup_entry t xs ≡ None → t u.0 ≡ true
      → remove_entry t (xs ++ u ∷ []) ≡ xs
  removed_last [] u h p = rw p
  removed_last (x ∷ xs) u h p = (elim (t x.0) as (λ b. t x.0 ≡ b → remove_entry t (x ∷ xs ++ u ∷ []) ≡ x ∷ xs) [
    | true ↦ λ e. let g = rw e at h in cc
    | false ↦ λ e. rw e (ap (λ (l : List (K × E)). x ∷ l) (removed_last xs u (rw e at h) p))
  ]) refl

  pub removed_before : (xs : List (K × E)) (u : K × E) → t u.0 ≡ false
      → remove_entry t (xs ++ u ∷ []) ≡ remove_entry t xs ++ u ∷ []
  removed_before [] u p = rw p
  removed_before (x ∷ xs) u p = (elim (t x.0) as (λ b. t x.0 ≡ b → remove_entry t (x ∷ xs ++ u ∷ []) ≡ remove_entry t
      (x ∷ xs) ++ u ∷ []) [
        | true ↦ λ e. rw e
        | false ↦ λ e. rw e (ap (λ (l : List (K × E)). x ∷ l) (removed_before xs u p))
      ]) refl

  pub looked_append : (xs ys : List (K × E)) → lookup t (xs ++ ys) ≡ option_or (lookup t xs) (lookup t ys)
  looked_append [] ys = refl
  looked_append (x ∷ xs) ys = (elim (t x.0) as (λ b. t x.0 ≡ b → lookup t (x ∷ xs ++ ys) ≡ option_or (lookup t
      (x ∷ xs)) (lookup t ys)) [
        | true ↦ λ e. rw e
        | false ↦ λ e. rw e (looked_append xs ys)
      ]) refl

  pub looked_entry : (xs : List (K × E)) → lookup t xs ≡ option_map (λ e. e.1) (lookup_entry t xs)
  looked_entry [] = refl
  looked_entry (x ∷ xs) = (elim (t x.0) as (λ b. t x.0 ≡ b → lookup t (x ∷ xs) ≡ option_map (λ e. e.1) (lookup_entry t
      (x ∷ xs))) [
        | true ↦ λ e. rw e
        | false ↦ λ e. rw e (looked_entry xs)
      ]) refl

  -- what was found passes
  pub found_passes : (xs : List (K × E)) (e : K × E) → lookup_entry t xs ≡ Some e → t e.0 ≡ true
  found_passes [] e h = cc
  found_passes (x ∷ xs) e h = (elim (t x.0) as (λ b. t x.0 ≡ b → t e.0 ≡ true) [
    | true ↦ λ p. let g = rw p at h in let same : x ≡ e = cc in subst (λ (z : K × E). t z.0 ≡ true) same p
    | false ↦ λ p. found_passes xs e (rw p at h)
  ]) refl

  -- the first n without an entry that is among them
  pub removed_within : (n : ℕ) (xs : List (K × E)) (e : K × E) → lookup_entry t (take n xs) ≡ Some e
      → remove_entry t (take n xs) ≡ take (n - 1) (remove_entry t xs)
  removed_within zero xs e h = cc
  removed_within (suc n) [] e h = cc
  removed_within (suc n) (x ∷ xs) e h = (elim (t x.0) as (λ b. t x.0 ≡ b
      → remove_entry t (x ∷ take n xs) ≡ take (suc n - 1) (remove_entry t (x ∷ xs))) [
        | true ↦ λ p. rw p (ap (λ (m : ℕ). take m xs) (let s : n ≡ suc n - 1 = omega arith in s))
        | false ↦ λ p. rw p (more n xs e (rw p at h) (removed_within n xs e (rw p at h)))
      ]) refl
    where
      more : (n : ℕ) (xs : List (K × E)) (e : K × E) → lookup_entry t (take n xs) ≡ Some e
          → remove_entry t (take n xs) ≡ take (n - 1) (remove_entry t xs)
          → x ∷ remove_entry t (take n xs) ≡ take (suc n - 1) (x ∷ remove_entry t xs)
      more zero xs e h r = cc
      more (suc m) xs e h r = ap (λ (l : List (K × E)). x ∷ l) (r
          ∙ ap (λ (k : ℕ). take k (remove_entry t xs)) (let s : suc m - 1 ≡ m = omega arith in s))
          ∙ ap (λ (k : ℕ). take k (x ∷ remove_entry t xs)) (let s : suc m ≡ suc (suc m) - 1 = omega arith in s)

  -- the first n - 1 without an entry that is not among the first n
  pub removed_past : (n : ℕ) (xs : List (K × E)) → lookup_entry t (take n xs) ≡ None
      → take (n - 1) (remove_entry t xs) ≡ take (n - 1) xs
  removed_past zero xs h = refl
  removed_past (suc n) [] h = refl
  removed_past (suc n) (x ∷ xs) h = (elim (t x.0) as (λ b. t x.0 ≡ b
      → take (suc n - 1) (remove_entry t (x ∷ xs)) ≡ take (suc n - 1) (x ∷ xs)) [
        | true ↦ λ p. let g = rw p at h in cc
        | false ↦ λ p. rw p (ap (λ (k : ℕ). take k (x ∷ remove_entry t xs)) (let s : suc n - 1 ≡ n = omega arith in s)
            ∙ more n (removed_past n xs (rw p at h)) ∙ ap (λ (k : ℕ). take k (x ∷ xs))
            (let s : n ≡ suc n - 1 = omega arith in s))
      ]) refl
    where
      more : (n : ℕ) → take (n - 1) (remove_entry t xs) ≡ take (n - 1) xs
          → take n (x ∷ remove_entry t xs) ≡ take n (x ∷ xs)
      more zero r = refl
      more (suc m) r = ap (λ (l : List (K × E)). x ∷ l) (ap (λ (k : ℕ). take k (remove_entry t xs))
          (let s : m ≡ suc m - 1 = omega arith in s) ∙ r ∙ ap (λ (k : ℕ). take k xs)
          (let s : suc m - 1 ≡ m = omega arith in s))

module _ {K E : Type 0} (t : K → Bool) where
  pub entry_append : (xs ys : List (K × E)) → lookup_entry t (xs ++ ys) ≡ option_or (lookup_entry t xs)
      (lookup_entry t ys)
  entry_append [] ys = refl
  entry_append (x ∷ xs) ys = (elim (t x.0) as (λ b. t x.0 ≡ b → lookup_entry t (x ∷ xs ++ ys) ≡ option_or
      (lookup_entry t (x ∷ xs)) (lookup_entry t ys)) [
        | true ↦ λ e. rw e
        | false ↦ λ e. rw e (entry_append xs ys)
      ]) refl

  -- among the first n, one more entry behind a list that doesn't pass changes nothing
  pub taken_other : (n : ℕ) (xs : List (K × E)) (u : K × E) → t u.0 ≡ false
      → lookup t (take n (xs ++ u ∷ [])) ≡ lookup t (take n xs)
  taken_other zero xs u p = refl
  taken_other (suc n) [] u p = rw p (nothing n)
    where
      nothing : (n : ℕ) → lookup t (take {A = K × E} n []) ≡ None
      nothing zero = refl
      nothing (suc n) = refl
  taken_other (suc n) (x ∷ xs) u p = (elim (t x.0) as (λ b. t x.0 ≡ b
      → lookup t (x ∷ take n (xs ++ u ∷ [])) ≡ lookup t (x ∷ take n xs)) [
        | true ↦ λ e. rw e
        | false ↦ λ e. rw e (taken_other n xs u p)
      ]) refl

  -- and one that passes is found where it is among them
  pub taken_last : (n : ℕ) (xs : List (K × E)) (u : K × E) → lookup_entry t xs ≡ None → t u.0 ≡ true
      → lookup t (take n (xs ++ u ∷ [])) ≡ cond (ltb (length xs) n) (Some u.1) None
  taken_last zero xs u h p = rw (le-ltb (length xs) 0 (omega arith)) refl
  taken_last (suc n) [] u h p = rw (p, lt-ltb 0 (suc n) (omega arith)) refl
  taken_last (suc n) (x ∷ xs) u h p = (elim (t x.0) as (λ b. t x.0 ≡ b
      → lookup t (x ∷ take n (xs ++ u ∷ [])) ≡ cond (ltb (length (x ∷ xs)) (suc n)) (Some u.1) None) [
        | true ↦ λ e. let g = rw e at h in cc
        | false ↦ λ e. rw e (taken_last n xs u (rw e at h) p ∙ ap (λ (b : Bool). cond b (Some u.1) None) (both (ltb
            (length xs) n) refl))
      ]) refl
    where
      both : (b : Bool) → ltb (length xs) n ≡ b → ltb (length xs) n ≡ ltb (length (x ∷ xs)) (suc n)
      both true e = let l = ltb-true (length xs) n e in e ∙ sym (lt-ltb (length (x ∷ xs)) (suc n) (omega (arith, l)))
      both false e = let l = ltb-false (length xs) n e in e ∙ sym (le-ltb (length (x ∷ xs)) (suc n) (omega
          (arith, l)))

module _ {K : Type 0} {same : K → K → Bool} (laws : IsExact same) where
  pub apart : (k l : K) → same k l ≡ false → same l k ≡ false
  apart k l h = by_test (same l k) refl
    where
      by_test : (b : Bool) → same l k ≡ b → b ≡ false
      by_test true e = absurd (false≢true (sym h ∙ subst (λ (z : K). same k z ≡ true) (sym (laws.one l k e))
          (laws.itself k)))
      by_test false e = refl

module _ {K E : Type 0} {same : K → K → Bool} (laws : IsExact same) where
  -- each key stands once in the list
  pub length_latest : (us : List (K × E)) → length (latest same us) ≡ count_keys same us
  length_latest [] = refl
  length_latest (u ∷ us) = (elim (is_used same u.0 us) as (λ b. is_used same u.0 us ≡ b
      → length (latest same (u ∷ us)) ≡ count_keys same (u ∷ us)) [
        | true ↦ λ e. rw e (let h = length_latest us in omega (arith, h))
        | false ↦ λ e. rw e (let h = length_latest us in let n = length-append (latest same us) (u ∷ []) in
            omega (arith, h, n))
      ]) refl

  pub none_latest : (k : K) (us : List (K × E)) → is_used same k us ≡ false
      → lookup_entry (same k) (latest same us) ≡ None
  none_latest k [] h = refl
  none_latest k (u ∷ us) h =
      let parts = or_parts (same k u.0) (is_used same k us) h in
      let before = none_latest k us parts.1 in
      (elim (is_used same u.0 us) as (λ b. is_used same u.0 us ≡ b
      → lookup_entry (same k) (latest same (u ∷ us)) ≡ None) [
        | true ↦ λ e. rw e before
        | false ↦ λ e. rw e (entry_append (same k) (latest same us) (u ∷ []) ∙ rw (before, parts.0) refl)
      ]) refl

  pub unused : (k : K) (us : List (K × E)) → is_used same k us ≡ false
      → (behind_last same k us ≡ None) × (last_used same k us ≡ None)
  unused k [] h = (refl, refl)
  unused k (u ∷ us) h =
      let parts = or_parts (same k u.0) (is_used same k us) h in
      let rest = unused k us parts.1 in
      (rw (rest.0, parts.0) refl, rw (rest.1, parts.0) refl)

  pub used : (k : K) (us : List (K × E)) → is_used same k us ≡ true
      → (b : List (K × E)) × (e : E) × (behind_last same k us ≡ Some b) × (last_used same k us ≡ Some e)
  used k [] h = absurd (false≢true h)
  used k (u ∷ us) h = by_test (λ p. used k us p) (is_used same k us) refl (same k u.0) refl
    where
      by_test : (is_used same k us ≡ true → (r : List (K × E)) × (e : E) × (behind_last same k us ≡ Some r)
          × (last_used same k us ≡ Some e)) → (b : Bool) → is_used same k us ≡ b → (d : Bool) → same k u.0 ≡ d
          → (r : List (K × E)) × (e : E) × (behind_last same k (u ∷ us) ≡ Some r)
          × (last_used same k (u ∷ us) ≡ Some e)
      by_test more true p d q = let rest = more p in (rest.0, rest.1, rw rest.2 refl, rw rest.3 refl)
      by_test more false p true q = let rest = unused k us p in (us, u.1, rw (rest.0, q) refl, rw (rest.1, q) refl)
      by_test more false p false q = absurd (false≢true (sym (rw (q, p) refl) ∙ h))

  -- what is found among the first entries is what counting says
  pub kept_looked : (cap : ℕ) (k : K) (us : List (K × E)) → lookup (same k) (take cap (latest same us)) ≡ cond
      (is_kept same cap k us) (last_used same k us) None
  kept_looked cap k [] = nothing cap
    where
      nothing : (n : ℕ) → lookup (same k) (take {A = K × E} n []) ≡ None
      nothing zero = refl
      nothing (suc n) = refl
  kept_looked cap k (u ∷ us) = by_test (kept_looked cap k us) (is_used same k us) refl (same k u.0) refl
      (is_used same u.0 us) refl
    where
      Looks : List (K × E) → Type 0
      Looks ws = lookup (same k) (take cap (latest same ws)) ≡ cond (is_kept same cap k ws) (last_used same k ws) None

      by_test : Looks us → (b : Bool) → is_used same k us ≡ b → (d : Bool) → same k u.0 ≡ d → (n : Bool)
          → is_used same u.0 us ≡ n
          → lookup (same k) (take cap (latest same (u ∷ us))) ≡ cond (is_kept same cap k (u ∷ us)) (last_used same k
          (u ∷ us)) None
      by_test more true p d q true r = let rest = used k us p in rw r (more ∙ rw (rest.2, rest.3) refl)
      by_test more true p true q false r = absurd (false≢true (sym r
          ∙ subst (λ (z : K). is_used same z us ≡ true) (laws.one k u.0 q) p))
      by_test more true p false q false r = let rest = used k us p in
          rw r (taken_other (same k) cap (latest same us) u q ∙ more ∙ rw (rest.2, rest.3) refl)
      by_test more false p false q true r = let rest = unused k us p in rw r (more ∙ rw (rest.0, q) refl)
      by_test more false p false q false r = let rest = unused k us p in
          rw r (taken_other (same k) cap (latest same us) u q ∙ more ∙ rw (rest.0, q) refl)
      by_test more false p true q true r = absurd (false≢true (sym p
          ∙ subst (λ (z : K). is_used same z us ≡ true) (sym (laws.one k u.0 q)) r))
      by_test more false p true q false r =
          let rest = unused k us p in
          rw r (taken_last (same k) cap (latest same us) u (none_latest k us p) q
          ∙ rw (rest.0, rest.1, q) (ap (λ (n : ℕ). cond (ltb n cap) (Some u.1) None) (length_latest us)))

  pub used_append : (k : K) (us : List (K × E)) (v : K × E) → is_used same k (us ++ v ∷ []) ≡
      (is_used same k us || same k v.0)
  used_append k [] v = by_test (same k v.0)
    where
      by_test : (b : Bool) → (b || false) ≡ b
      by_test true = refl
      by_test false = refl
  used_append k (u ∷ us) v = (elim (same k u.0) as (λ b. same k u.0 ≡ b
      → is_used same k (u ∷ us ++ v ∷ []) ≡ (is_used same k (u ∷ us) || same k v.0)) [
        | true ↦ λ e. rw e
        | false ↦ λ e. rw e (used_append k us v)
      ]) refl

  -- a further use comes first, and its key stands nowhere else
  pub latest_append : (us : List (K × E)) (v : K × E) → latest same (us ++ v ∷ []) ≡ v ∷ remove_entry (same v.0)
      (latest same us)
  latest_append [] v = refl
  latest_append (u ∷ us) v = by_test (latest_append us v) (is_used same u.0 us) refl (same u.0 v.0) refl
    where
      by_test : latest same (us ++ v ∷ []) ≡ v ∷ remove_entry (same v.0) (latest same us) → (b : Bool)
          → is_used same u.0 us ≡ b → (d : Bool) → same u.0 v.0 ≡ d
          → latest same (u ∷ us ++ v ∷ []) ≡ v ∷ remove_entry (same v.0) (latest same (u ∷ us))
      by_test more true p d q = rw (used_append u.0 us v, p) more
      by_test more false p true q =
          let one : u.0 ≡ v.0 = laws.one u.0 v.0 q in
          let none : lookup_entry (same v.0) (latest same us) ≡ None = none_latest v.0 us (subst (λ
          (z : K). is_used same z us ≡ false) one p) in
          let passes : same v.0 u.0 ≡ true = subst (λ (z : K). same v.0 z ≡ true) (sym one) (laws.itself v.0) in
          rw (used_append u.0 us v, p, q) (more ∙ ap (λ (l : List (K
          × E)). v ∷ l) (none_removed (same v.0) (latest same us) none
          ∙ sym (removed_last (same v.0) (latest same us) u none passes)))
      by_test more false p false q =
          rw (used_append u.0 us v, p, q) (ap (λ (l : List (K × E)). l ++ u ∷ []) more
          ∙ ap (λ (l : List (K × E)). v ∷ l) (sym (removed_before (same v.0) (latest same us) u
          (apart laws u.0 v.0 q))))

  pub last_append : (k : K) (us : List (K × E)) (v : K × E) → last_used same k (us ++ v ∷ []) ≡ option_or (cond
      (same k v.0) (Some v.1) None) (last_used same k us)
  last_append k [] v = by_test (same k v.0)
    where
      by_test : (b : Bool) → cond b (Some v.1) None ≡ option_or (cond b (Some v.1) None) None
      by_test true = refl
      by_test false = refl
  last_append k (u ∷ us) v = rw (last_append k us v) (by_test (same k v.0))
    where
      by_test : (b : Bool) → option_or (option_or (cond b (Some v.1) None) (last_used same k us)) (cond (same k u.0)
          (Some u.1) None)
          ≡ option_or (cond b (Some v.1) None) (option_or (last_used same k us) (cond (same k u.0) (Some u.1) None))
      by_test true = refl
      by_test false = refl
