-- A history merges the calls at lists of places that have each place once.
use Rattle.std.proofs.Common.{◌≡◌, ℕ, zero, suc, ◌+◌, ◌<◌, ◌≤◌, ◌⊎◌, inl, inr, Bool, true, false, cond, eqb, leb}
use Rattle.std.proofs.Common.{List, [], ◌∷◌, ◌++◌, map, set, length, length-append, slice_get, Option, Some}
use Rattle.std.proofs.Common.{flat_map, option_to_list, refl, sym, ap, ◌∙◌, subst, arith, append_assoc}
use Rattle.std.proofs.Common.{append-nil, ne_eqb, eq-eqb, le-leb, lt-ltb}
use Rattle.std.specs.List.{AllByRecursion}
use Rattle.std.proofs.lemmas.Bool.{and_parts, and_from, leb-true, cases_eq}
use Rattle.std.proofs.lemmas.Option.{same_Some}
use Rattle.ruled_lock.specs.Places.{times, times_in, once_below, is_rising, each_rising}
use Rattle.ruled_lock.specs.Histories.{calls_at}
use Rattle.ruled_lock.proofs.Places.{rising_ends}
use Rattle.outside.specs.declared.mark.Mark.{Mark}
use Rattle.ruled_lock.specs.Held.{owned}
use Rattle.ruled_lock.specs.Calls.{InOrder}
use Rattle.cache_shards.specs.declared.calls.ShardCall.{ShardCall}
use Rattle.cache_shards.specs.declared.calls.ShardCall.TheVariants.{Get, Put}
use Rattle.cache_shards.specs.declared.calls.ShardReply.{ShardReply}
use Rattle.cache_shards.specs.declared.calls.ShardReply.TheVariants as reply
use Rattle.cache_shards.specs.Marks.{marks_of, all_marks}
use Rattle.cache_shards.specs.Seats.{ShardView, told, own_marks, met_marks}
use Rattle.cache_shards.specs.Merges.{AreEmpty, Merges}

-- each list rises from n on
abbrev Rise : ℕ → ℕ → List (List ℕ) → Type 0
Rise n high lists = AllByRecursion (λ l. is_rising n l high ≡ true) lists

get_map : {A B : Type 0} (f : A → B) (xs : List A) (k : ℕ) (x : A) → slice_get xs k ≡ Some x
    → slice_get (map f xs) k ≡ Some (f x)
get_map f [] k x is = cc
get_map f (y ∷ xs) zero x is = ap (λ (z : _). Some (f z)) (same_Some y x is)
get_map f (y ∷ xs) (suc k) x is = get_map f xs k x is

set_map : {A B : Type 0} (f : A → B) (xs : List A) (k : ℕ) (y : A) → set (map f xs) k (f y) ≡ map f (set xs k y)
set_map f [] k y = refl
set_map f (x ∷ xs) zero y = refl
set_map f (x ∷ xs) (suc k) y = ap (λ (l : List _). f x ∷ l) (set_map f xs k y)

set_same : {A B : Type 0} (f : A → B) (xs : List A) (k : ℕ) (x y : A) → slice_get xs k ≡ Some x → f y ≡ f x
    → map f (set xs k y) ≡ map f xs
set_same f [] k x y is e = refl
set_same f (z ∷ xs) zero x y is e = ap (λ (w : _). w ∷ map f xs) (e ∙ ap f (sym (same_Some z x is)))
set_same f (z ∷ xs) (suc k) x y is e = ap (λ (l : List _). f z ∷ l) (set_same f xs k x y is e)

get_middle : {A : Type 0} (xs : List A) (y : A) (ys : List A) → slice_get (xs ++ y ∷ ys) (length xs) ≡ Some y
get_middle [] y ys = refl
get_middle (x ∷ xs) y ys = get_middle xs y ys

-- places below n do not stand in a list that rises from n on
none_below : (p n : ℕ) (l : List ℕ) (high : ℕ) → is_rising n l high ≡ true → p < n → times p l ≡ 0
none_below p n [] high r h = refl
none_below p n (x ∷ xs) high r h =
    let t = and_parts (leb n x) (is_rising (x + 1) xs high) r in
    let a = leb-true n x t.0 in
    let b = none_below p (x + 1) xs high t.1 (omega (arith, a, h)) in
    let c : eqb x p ≡ false = ne_eqb x p (λ e. omega (arith, a, h, e)) in
    let d : ◌≡◌ {A = ℕ} (cond (eqb x p) 1 0) 0 = ap (λ (b : Bool). cond b 1 0) c in
    omega (arith, b, d)

lower : (n : ℕ) (l : List ℕ) (high : ℕ) → is_rising (n + 1) l high ≡ true → is_rising n l high ≡ true
lower n [] high r = let a = leb-true (n + 1) high r in le-leb n high (omega (arith, a))
lower n (x ∷ xs) high r =
    let t = and_parts (leb (n + 1) x) (is_rising (x + 1) xs high) r in
    let a = leb-true (n + 1) x t.0 in
    and_from (leb n x) (is_rising (x + 1) xs high) (le-leb n x (omega (arith, a))) t.1

higher : (n : ℕ) (l : List ℕ) (high : ℕ) → is_rising n l high ≡ true → times n l ≡ 0 → n < high
    → is_rising (n + 1) l high ≡ true
higher n [] high r z h = le-leb (n + 1) high (omega (arith, h))
higher n (x ∷ xs) high r z h =
    let t = and_parts (leb n x) (is_rising (x + 1) xs high) r in
    let a = leb-true n x t.0 in
    and_from (leb (n + 1) x) (is_rising (x + 1) xs high) (le-leb (n + 1) x (apart a (cases_eq x n))) t.1
  where
    apart : n ≤ x → (x ≡ n) ⊎ (x ≡ n → ⊥) → n + 1 ≤ x
    apart a (inl e) = let o : ◌≡◌ {A = ℕ} (cond (eqb x n) 1 0) 1 = ap (λ (b : Bool). cond b 1 0) (eq-eqb x n e) in
        absurd (omega (arith, z, o))
    apart a (inr e) = grind (arith, a, e)

all_higher : (n : ℕ) (ls : List (List ℕ)) (high : ℕ) → Rise n high ls → times_in n ls ≡ 0 → n < high
    → Rise (n + 1) high ls
all_higher n [] high r z h = tt
all_higher n (l ∷ ls) high r z h = (
  higher n l high r.0 (omega (arith, z)) h,
  all_higher n ls high r.1 (omega
      (arith, z)) h,
)

rise_set : (n high : ℕ) (ls : List (List ℕ)) (k : ℕ) (l : List ℕ) → Rise n high ls → is_rising n l high ≡ true
    → Rise n high (set ls k l)
rise_set n high [] k l r h = tt
rise_set n high (x ∷ ls) zero l r h = (h, r.1)
rise_set n high (x ∷ ls) (suc k) l r h = (r.0, rise_set n high ls k l r.1 h)

rise_at : (n high : ℕ) (ls : List (List ℕ)) (k : ℕ) (l : List ℕ) → Rise n high ls → slice_get ls k ≡ Some l
    → is_rising n l high ≡ true
rise_at n high [] k l r is = cc
rise_at n high (x ∷ ls) zero l r is = subst (λ (z : List ℕ). is_rising n z high ≡ true) (same_Some x l is) r.0
rise_at n high (x ∷ ls) (suc k) l r is = rise_at n high ls k l r.1 is

times_set : (p : ℕ) (ls : List (List ℕ)) (k : ℕ) (l m : List ℕ) → slice_get ls k ≡ Some l
    → times_in p (set ls k m) + times p l ≡ times_in p ls + times p m
times_set p [] k l m is = cc
times_set p (x ∷ ls) zero l m is = let h : times p x ≡ times p l = ap (times p) (same_Some x l is) in omega (arith, h)
times_set p (x ∷ ls) (suc k) l m is = let h = times_set p ls k l m is in omega (arith, h)

-- the least place stands first in one of the lists
find_place : (n high : ℕ) (ls : List (List ℕ)) → Rise n high ls → times_in n ls ≡ 1
    → (at : ℕ) × (l : List ℕ) × (slice_get ls at ≡ Some (n ∷ l))
find_place n high [] r once = absurd (omega (arith, once))
find_place n high ([] ∷ ls) r once = let t = find_place n high ls r.1 (omega (arith, once)) in (suc t.0, t.1, t.2)
find_place n high ((x ∷ xs) ∷ ls) r once = by_test (λ z. find_place n high ls r.1 (omega (arith, once, z)))
    (cases_eq x n)
  where
    by_test : (times n (x ∷ xs) ≡ 0 → (at : ℕ) × (l : List ℕ) × (slice_get ls at ≡ Some (n ∷ l))) → (x ≡ n) ⊎ (x ≡ n
        → ⊥) → (at : ℕ) × (l : List ℕ) × (slice_get ((x ∷ xs) ∷ ls) at ≡ Some (n ∷ l))
    by_test more (inl e) = (0, xs, ap (λ (z : ℕ). Some (z ∷ xs)) e)
    by_test more (inr e) =
        let t = and_parts (leb n x) (is_rising (x + 1) xs high) r.0 in
        let a = leb-true n x t.0 in
        let low : n < x + 1 = omega (arith, a) in
        let b = none_below n (x + 1) xs high t.1 low in
        let d : ◌≡◌ {A = ℕ} (cond (eqb x n) 1 0) 0 = ap (λ (b : Bool). cond b 1 0) (ne_eqb x n e) in
        let rest = more (omega (arith, b, d)) in
        (suc rest.0, rest.1, rest.2)

rise_all : (ls : List (List ℕ)) (high : ℕ) → each_rising ls high ≡ true → Rise 0 high ls
rise_all [] high r = tt
rise_all (l ∷ ls) high r = let t = and_parts (is_rising 0 l high) (each_rising ls high) r in
    (t.0, rise_all ls high t.1)

module _ {E : Type 0} where
  none_left : (n : ℕ) (log : List E) (ls : List (List ℕ)) → Rise n n ls
      → AreEmpty (map (λ l. told (calls_at log l)) ls)
  none_left n log [] r = tt
  none_left n log ([] ∷ ls) r = none_left n log ls r.1
  none_left n log ((x ∷ xs) ∷ ls) r =
      let t = and_parts (leb n x) (is_rising (x + 1) xs n) r.0 in
      let a = leb-true n x t.0 in
      let b = rising_ends (x + 1) xs n t.1 in
      absurd (omega (arith, a, b))

  merges_from : (rest front log : List E) (n : ℕ) (ls : List (List ℕ)) → log ≡ front ++ rest → n ≡ length front
      → Rise n (length log) ls → ((p : ℕ) → n ≤ p → times_in p ls ≡ once_below p (length log))
      → Merges (map (λ l. told (calls_at log l)) ls) rest
  merges_from [] front log n ls is at r once =
      let long : length log ≡ n = ap (λ (l : List E). length l) (is ∙ append-nil front) ∙ sym at in
      none_left n log ls (subst (λ (h : ℕ). Rise n h ls) long r)
  merges_from (e ∷ rest) front log n ls is at r once =
      let long : length log ≡ length front + length (e ∷ rest) = ap (λ (l : List E). length l) is
      ∙ length-append front (e ∷ rest) in
      let inside : n < length log = omega (arith, long, at) in
      let one : once_below n (length log) ≡ 1 = ap (λ (b : Bool). cond b 1 0) (lt-ltb n (length log) inside) in
      let t = find_place n (length log) ls r (once n (omega arith) ∙ one) in
      let l = t.1 in
      let less = set ls t.0 l in
      let here : slice_get log n ≡ Some e = ap (λ (z : List E). slice_get z n) is
      ∙ ap (slice_get (front ++ e ∷ rest)) at ∙ get_middle front e rest in
      let first : told (calls_at log (n ∷ l)) ≡ e ∷ told (calls_at log l) = ap (λ
      (o : Option E). option_to_list o ++ told (calls_at log l)) here in
      let rises = rise_at n (length log) ls t.0 (n ∷ l) r t.2 in
      let parts = and_parts (leb n n) (is_rising (n + 1) l (length log)) rises in
      let gone = none_below n (n + 1) l (length log) parts.1 (omega arith) in
      let self : ◌≡◌ {A = ℕ} (cond (eqb n n) 1 0) 1 = ap (λ (b : Bool). cond b 1 0) (eq-eqb n n refl) in
      let counted = times_set n ls t.0 (n ∷ l) l t.2 in
      let was : times_in n ls ≡ 1 = once n (omega arith) ∙ one in
      let zero_left : times_in n less ≡ 0 = omega (arith, counted, was, gone, self) in
      let rise_less = all_higher n less (length log) (rise_set n (length log) ls t.0 l r (lower n l
      (length log) parts.1)) zero_left inside in (
        t.0,
        told (calls_at log l),
        get_map (λ l. told (calls_at log l)) ls t.0 (n ∷ l) t.2
            ∙ ap (λ (z : List E). Some z) first,
        subst (λ (z : List (List E)). Merges z rest) (sym (set_map (λ l. told (calls_at log l)) ls t.0 l))
            (merges_from rest (front ++ e ∷ []) log (n + 1) less (is
            ∙ sym (append_assoc front (e ∷ []) rest)) (let k = length-append front (e ∷ []) in
            omega (arith, k, at)) rise_less (still l less t.0 t.2 once refl)),
      )
    where
      still : (l : List ℕ) (less : List (List ℕ)) (k : ℕ) → slice_get ls k ≡ Some (n ∷ l) → ((p : ℕ) → n ≤ p
          → times_in p ls ≡ once_below p (length log)) → less ≡ set ls k l → (p : ℕ) → n + 1 ≤ p
          → times_in p less ≡ once_below p (length log)
      still l less k found once same p low =
          let counted = times_set p ls k (n ∷ l) l found in
          let c : eqb n p ≡ false = ne_eqb n p (λ e. omega (arith, low, e)) in
          let d : ◌≡◌ {A = ℕ} (cond (eqb n p) 1 0) 0 = ap (λ (b : Bool). cond b 1 0) c in
          let e : times_in p less ≡ times_in p (set ls k l) = ap (times_in p) same in
          let w = once p (omega (arith, low)) in
          omega (arith, counted, d, e, w)

  pub merges_places : (log : List E) (ls : List (List ℕ)) → each_rising ls (length log) ≡ true → ((p : ℕ)
      → times_in p ls ≡ once_below p (length log)) → Merges (map (λ l. told (calls_at log l)) ls) log
  merges_places log ls r once = merges_from log [] log 0 ls refl refl (rise_all ls (length log) r) (λ p low. once p)

module _ {E M : Type 0} (f : E → List M) (small : (e : E) → (f e ≡ []) ⊎ ((m : M) × (f e ≡ m ∷ []))) where
  empty_too : (ls : List (List E)) → AreEmpty ls → AreEmpty (map (flat_map f) ls)
  empty_too [] h = tt
  empty_too ([] ∷ ls) h = empty_too ls h
  empty_too ((e ∷ l) ∷ ls) h = absurd h

  -- what each item stands for is merged too
  pub merges_small : (log : List E) (ls : List (List E)) → Merges ls log
      → Merges (map (flat_map f) ls) (flat_map f log)
  merges_small [] ls h = empty_too ls h
  merges_small (e ∷ log) ls h = by_cases (small e) (merges_small log (set ls h.0 h.1) h.3)
    where
      by_cases : (f e ≡ []) ⊎ ((m : M) × (f e ≡ m ∷ [])) → Merges (map (flat_map f) (set ls h.0 h.1)) (flat_map f log)
          → Merges (map (flat_map f) ls) (flat_map f (e ∷ log))
      by_cases (inl none) more =
          let same : flat_map f h.1 ≡ flat_map f (e ∷ h.1) = sym (ap (λ (l : List M). l ++ flat_map f h.1) none) in
          subst (λ (l : List M). Merges (map (flat_map f) ls) l) (sym (ap (λ (l : List M). l ++ flat_map f log) none))
          (subst (λ (z : List (List M)). Merges z (flat_map f log)) (set_same (flat_map f) ls h.0
          (e ∷ h.1) h.1 h.2 same) more)
      by_cases (inr one) more =
          subst (λ (l : List M). Merges (map (flat_map f) ls) l) (sym (ap (λ
          (l : List M). l ++ flat_map f log) one.1)) (
            h.0,
            flat_map f h.1,
            get_map (flat_map f) ls h.0 (e ∷ h.1) h.2
                ∙ ap (λ (l : List M). Some (l ++ flat_map f h.1)) one.1,
            subst (λ (z : List (List M)). Merges z (flat_map f log)) (sym (set_map (flat_map f) ls h.0 h.1)) more,
          )

-- a call leaves one mark at most
few_marks : (e : ShardCall × ShardReply) → (marks_of e ≡ []) ⊎ ((m : Mark) × (marks_of e ≡ m ∷ []))
few_marks (Get key now, reply.Hit a) = inr (_, refl)
few_marks (Get key now, reply.Miss) = inr (_, refl)
few_marks (Get key now, reply.Kept) = inl refl
few_marks (Get key now, reply.NoMemory) = inl refl
few_marks (Put key a, reply.Kept) = inr (_, refl)
few_marks (Put key a, reply.Hit b) = inr (_, refl)
few_marks (Put key a, reply.Miss) = inr (_, refl)
few_marks (Put key a, reply.NoMemory) = inr (_, refl)

map_twice : {A B C : Type 0} (f : B → C) (h : A → B) (k : A → C) (xs : List A) → ((x : A) → f (h x) ≡ k x)
    → map f (map h xs) ≡ map k xs
map_twice f h k [] e = refl
map_twice f h k (x ∷ xs) e = λ i. e x i ∷ map_twice f h k xs e i

module _ {J : Type 0} where
  -- the whole history merges the logs of a view that owns each place once
  pub whole_merges : (v : ShardView J) → ((p : ℕ) → owned p v ≡ once_below p (length v.seen)) → InOrder v
      → Merges (own_marks v ∷ met_marks v) (all_marks v.seen)
  whole_merges v once order =
      let calls = merges_places v.seen (v.own ∷ v.met) (and_from (is_rising 0 v.own (length v.seen))
      (each_rising v.met (length v.seen)) order.own order.met) once in
      let marks = merges_small marks_of few_marks v.seen (map (λ l. told (calls_at v.seen l))
      (v.own ∷ v.met)) calls in
      subst (λ (z : List (List Mark)). Merges (own_marks v ∷ z) (all_marks v.seen))
      (map_twice all_marks (λ l. told (calls_at v.seen l)) (λ l. all_marks (told (calls_at v.seen l))) v.met
      (λ x. refl)
      ∙ sym (map_twice (λ c. all_marks (told c)) (calls_at v.seen) (λ l. all_marks (told
      (calls_at v.seen l))) v.met (λ x. refl)))
      marks
