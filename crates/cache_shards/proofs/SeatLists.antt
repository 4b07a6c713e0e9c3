-- The seats of a cache as a list.
use Rattle.std.proofs.Common.{◌≡◌, ℕ, zero, suc, ◌<◌, ◌≤◌, List, [], ◌∷◌, ◌++◌, map, set, length, slice_get, get_or}
use Rattle.std.proofs.Common.{take, drop, ◌+◌, ◌⊎◌, inl, inr, length-append, length-set, arith, Some}
use Rattle.std.proofs.Common.{refl, sym, ap, ◌∙◌, subst}
use Rattle.std.proofs.lemmas.Option.{same_Some, slice_get_read, slice_get_within}
use Rattle.std.proofs.lemmas.Bool.{cases_eq}
use Rattle.std.specs.List.{AllByRecursion}
use Rattle.ruled_lock.specs.Steps.{left_view, right_view}
use Rattle.atomic_table.specs.Seated.{TableId}
use Rattle.outside.specs.{EntryData}
use Rattle.outside.specs.declared.mark.Mark.{Mark}
use Rattle.cache_shards.specs.Answers.{Capacities}
use Rattle.cache_shards.specs.Seats.{CacheData, ShardView, ShardSeat, view_of, views_of, own_marks, met_marks, IsSeat}
use Rattle.cache_shards.specs.Seats.{IsSeatOf, AreSeats, Adds, AddsAt, AreNew, IsNewView, CutsAt, Meets, MeetsAt}
use Rattle.cache_shards.specs.Seats.{HasPartsAt, HaveParts, logs, added_at}

pub take_more : {A : Type 0} (k : ℕ) (xs : List A) (x : A) → slice_get xs k ≡ Some x
    → take (suc k) xs ≡ take k xs ++ x ∷ []
take_more k [] x is = cc
take_more zero (y ∷ xs) x is = ap (λ (z : _). z ∷ []) (same_Some y x is)
take_more (suc k) (y ∷ xs) x is = ap (λ (l : List _). y ∷ l) (take_more k xs x is)

pub map_snoc : {A B : Type 0} (f : A → B) (xs : List A) (x : A) → map f (xs ++ x ∷ []) ≡ map f xs ++ f x ∷ []
map_snoc f [] x = refl
map_snoc f (y ∷ xs) x = ap (λ (l : List _). f y ∷ l) (map_snoc f xs x)

pub take_whole : {A : Type 0} (k : ℕ) (xs : List A) → length xs ≤ k → take k xs ≡ xs
take_whole zero [] l = refl
take_whole (suc k) [] l = refl
take_whole zero (x ∷ xs) l = absurd (omega (arith, l))
take_whole (suc k) (x ∷ xs) l = ap (λ (m : List _). x ∷ m) (take_whole k xs (omega (arith, l)))

pub get_set : {A : Type 0} (xs : List A) (k : ℕ) (x y : A) → slice_get xs k ≡ Some x
    → slice_get (set xs k y) k ≡ Some y
get_set [] k x y is = cc
get_set (z ∷ xs) zero x y is = refl
get_set (z ∷ xs) (suc k) x y is = get_set xs k x y is

pub get_set_other : {A : Type 0} (xs : List A) (k n : ℕ) (y : A) → (n ≡ k → ⊥)
    → slice_get (set xs k y) n ≡ slice_get xs n
get_set_other [] k n y apart = refl
get_set_other (z ∷ xs) zero zero y apart = absurd (apart refl)
get_set_other (z ∷ xs) zero (suc n) y apart = refl
get_set_other (z ∷ xs) (suc k) zero y apart = refl
get_set_other (z ∷ xs) (suc k) (suc n) y apart = get_set_other xs k n y (λ e. apart (ap suc e))

pub get_front : {A : Type 0} (xs ys : List A) (k : ℕ) → k < length xs → slice_get (xs ++ ys) k ≡ slice_get xs k
get_front [] ys k l = absurd (omega (arith, l))
get_front (x ∷ xs) ys zero l = refl
get_front (x ∷ xs) ys (suc k) l = get_front xs ys k (omega (arith, l))

pub get_end : {A : Type 0} (xs : List A) (x : A) (k : ℕ) → k ≡ length xs → slice_get (xs ++ x ∷ []) k ≡ Some x
get_end [] x zero e = refl
get_end [] x (suc k) e = absurd (omega (arith, e))
get_end (y ∷ xs) x zero e = absurd (omega (arith, e))
get_end (y ∷ xs) x (suc k) e = get_end xs x k (omega (arith, e))

pub get_taken : {A : Type 0} (n : ℕ) (xs : List A) (k : ℕ) (x : A) → slice_get (take n xs) k ≡ Some x
    → slice_get xs k ≡ Some x
get_taken zero xs k x is = cc
get_taken (suc n) [] k x is = is
get_taken (suc n) (y ∷ xs) zero x is = is
get_taken (suc n) (y ∷ xs) (suc k) x is = get_taken n xs k x is

different : (k a : ℕ) → (k ≡ a → ⊥) → a ≤ k → a < k
different k a e l = grind (arith, e, l)

module _ {J : Type 0} where
  pub same_length : (caps : Capacities) (judge : J) (ids : List TableId) (seats : List (ShardSeat J))
      → AreSeats caps judge ids seats → length seats ≡ length ids
  same_length caps judge [] [] h = refl
  same_length caps judge (i ∷ ids) (s ∷ seats) h = ap suc (same_length caps judge ids seats h.1)
  same_length caps judge [] (s ∷ seats) h = absurd h
  same_length caps judge (i ∷ ids) [] h = absurd h

  pub seat_at : (caps : Capacities) (judge : J) (ids : List TableId) (seats : List (ShardSeat J)) (at : ℕ)
      (s : ShardSeat J) → AreSeats caps judge ids seats → slice_get seats at ≡ Some s
      → (id : TableId) × (slice_get ids at ≡ Some id) × IsSeat caps judge id s
  seat_at caps judge [] [] at s h is = cc
  seat_at caps judge (i ∷ ids) (x ∷ seats) zero s h is = (
    i,
    refl,
    subst (λ (z : ShardSeat J). IsSeat caps judge i z)
        (same_Some x s is) h.0,
  )
  seat_at caps judge (i ∷ ids) (x ∷ seats) (suc at) s h is = seat_at caps judge ids seats at s h.1 is
  seat_at caps judge [] (x ∷ seats) at s h is = absurd h
  seat_at caps judge (i ∷ ids) [] at s h is = absurd h

  pub seats_set : (caps : Capacities) (judge : J) (ids : List TableId) (seats : List (ShardSeat J)) (at : ℕ)
      (id : TableId) (s : ShardSeat J) → AreSeats caps judge ids seats → slice_get ids at ≡ Some id
      → IsSeat caps judge id s → AreSeats caps judge ids (set seats at s)
  seats_set caps judge [] [] at id s h is g = tt
  seats_set caps judge (i ∷ ids) (x ∷ seats) zero id s h is g = (
    subst (λ (z : TableId). IsSeat caps judge z s) (sym
        (same_Some i id is)) g,
    h.1,
  )
  seats_set caps judge (i ∷ ids) (x ∷ seats) (suc at) id s h is g =
      (h.0, seats_set caps judge ids seats at id s h.1 is g)
  seats_set caps judge [] (x ∷ seats) at id s h is g = absurd h
  seats_set caps judge (i ∷ ids) [] at id s h is g = absurd h

  pub seats_snoc : (caps : Capacities) (judge : J) (ids : List TableId) (seats : List (ShardSeat J)) (id : TableId)
      (s : ShardSeat J) → AreSeats caps judge ids seats → IsSeat caps judge id s
      → AreSeats caps judge (ids ++ id ∷ []) (seats ++ s ∷ [])
  seats_snoc caps judge [] [] id s h g = (g, tt)
  seats_snoc caps judge (i ∷ ids) (x ∷ seats) id s h g = (h.0, seats_snoc caps judge ids seats id s h.1 g)
  seats_snoc caps judge [] (x ∷ seats) id s h g = absurd h
  seats_snoc caps judge (i ∷ ids) [] id s h g = absurd h

  pub view_at : (seats : List (ShardSeat J)) (at : ℕ) (s : ShardSeat J) → slice_get seats at ≡ Some s
      → slice_get (views_of seats) at ≡ Some (view_of s)
  view_at [] at s is = cc
  view_at (x ∷ seats) zero s is = ap (λ (z : ShardSeat J). Some (view_of z)) (same_Some x s is)
  view_at (x ∷ seats) (suc at) s is = view_at seats at s is

  pub views_set : (seats : List (ShardSeat J)) (at : ℕ) (t : ShardSeat J)
      → views_of (set seats at t) ≡ set (views_of seats) at (view_of t)
  views_set [] at t = refl
  views_set (x ∷ seats) zero t = refl
  views_set (x ∷ seats) (suc at) t = ap (λ (l : List (ShardView J)). view_of x ∷ l) (views_set seats at t)

  map_set : {A : Type 0} (f : ShardView J → A) (seats : List (ShardSeat J)) (at : ℕ) (s t : ShardSeat J)
      → slice_get seats at ≡ Some s → f (view_of t) ≡ f (view_of s)
      → map f (views_of (set seats at t)) ≡ map f (views_of seats)
  map_set f [] at s t is e = refl
  map_set f (x ∷ seats) zero s t is e = let same : x ≡ s = same_Some x s is in λ i. (e
      ∙ ap (λ (z : ShardSeat J). f (view_of z)) (sym same)) i ∷ map f (views_of seats)
  map_set f (x ∷ seats) (suc at) s t is e = ap (λ (l : List _). f (view_of x) ∷ l) (map_set f seats at s t is e)

  logs_set : (seats : List (ShardSeat J)) (at : ℕ) (s t : ShardSeat J) (marks : List Mark)
      → slice_get seats at ≡ Some s → own_marks (view_of t) ≡ own_marks (view_of s) ++ marks
      → logs (views_of (set seats at t)) ≡ added_at at marks (logs (views_of seats))
  logs_set [] at s t marks is e = refl
  logs_set (x ∷ seats) zero s t marks is e =
      let same : x ≡ s = same_Some x s is in
      λ i. (e ∙ ap (λ (z : ShardSeat J). own_marks (view_of z) ++ marks) (sym same)) i ∷ logs (views_of seats)
  logs_set (x ∷ seats) (suc at) s t marks is e = ap (λ (l : List (List Mark)). own_marks (view_of x) ∷ l)
      (logs_set seats at s t marks is e)

  pub adds_set : (caps : Capacities) (just : EntryData → Type 0) (seats : List (ShardSeat J)) (at : ℕ)
      (s t : ShardSeat J) (marks : List Mark) → slice_get seats at ≡ Some s
      → Adds caps just (view_of s) (view_of t) marks → AddsAt caps just at (views_of seats) (views_of
      (set seats at t)) marks
  adds_set caps just seats at s t marks is h = record {
    logs = logs_set seats at s t marks is h.own;
    met = map_set met_marks seats at s t is h.met;
    parts = (map_set (λ v. v.parts) seats at s t is h.parts.0, map_set (λ v. v.all) seats at s t is h.parts.1);
    view = view_of s;
    new = view_of t;
    was = view_at seats at s is;
    is = views_set seats at t;
    adds = h;
  }

  pub parts_at : (least : ℕ) (seats : List (ShardSeat J)) (at : ℕ) (s : ShardSeat J)
      → HaveParts least (views_of seats) → slice_get seats at ≡ Some s → least ≤ (view_of s).parts
  parts_at least [] at s h is = cc
  parts_at least (x ∷ seats) zero s h is = subst (λ (z : ShardSeat J). least ≤ (view_of z).parts)
      (same_Some x s is) h.0
  parts_at least (x ∷ seats) (suc at) s h is = parts_at least seats at s h.1 is

  -- the seat at a place, and what it is
  pub placed : (cache : CacheData J) (seats : List (ShardSeat J)) (at : ℕ) (s : ShardSeat J) → IsSeatOf cache seats
      → at < 8 → s ≡ get_or seats at s → slice_get seats at ≡ Some s
  placed cache seats at s h low is =
      let n = same_length cache.capacities cache.judge cache.ids seats h.each in
      slice_get_read seats (length seats) at s (λ i. length seats) (let e = h.eight in omega (arith, n, e, low)) is

  pub seat_placed : (cache : CacheData J) (seats : List (ShardSeat J)) (at : ℕ) (s : ShardSeat J)
      → IsSeatOf cache seats → at < 8 → s ≡ get_or seats at s
      → (id : TableId) × (slice_get cache.ids at ≡ Some id) × IsSeat cache.capacities cache.judge id s
  seat_placed cache seats at s h low is = seat_at cache.capacities cache.judge cache.ids seats at s h.each
      (placed cache seats at s h low is)

  pub seat_set : (cache : CacheData J) (seats : List (ShardSeat J)) (at : ℕ) (id : TableId) (s : ShardSeat J)
      → IsSeatOf cache seats → slice_get cache.ids at ≡ Some id → IsSeat cache.capacities cache.judge id s
      → IsSeatOf cache (set seats at s)
  seat_set cache seats at id s h is g = record {
    each = seats_set cache.capacities cache.judge cache.ids seats at id s
        h.each is g;
    eight = h.eight;
    room = h.room;
  }

  -- the first k are changed by f
  abbrev pub stepped : (ShardView J → ShardView J) → ℕ → List (ShardView J) → List (ShardView J)
  stepped f k vs = map f (take k vs) ++ drop k vs

  stepped_at : (f : ShardView J → ShardView J) (k : ℕ) (vs : List (ShardView J))
      → slice_get (stepped f k vs) k ≡ slice_get vs k
  stepped_at f zero vs = refl
  stepped_at f (suc k) [] = refl
  stepped_at f (suc k) (v ∷ vs) = stepped_at f k vs

  step_more : (f : ShardView J → ShardView J) (k : ℕ) (vs : List (ShardView J)) (v : ShardView J)
      → slice_get vs k ≡ Some v → set (stepped f k vs) k (f v) ≡ stepped f (suc k) vs
  step_more f k [] v is = cc
  step_more f zero (x ∷ vs) v is = ap (λ (z : ShardView J). f z ∷ vs) (sym (same_Some x v is))
  step_more f (suc k) (x ∷ vs) v is = ap (λ (l : List (ShardView J)). f x ∷ l) (step_more f k vs v is)

  pub cut_parts : (k : ℕ) (vs us : List (ShardView J)) → HaveParts 2 vs → us ≡ stepped left_view k vs
      → HasPartsAt 2 k us
  cut_parts k vs us h e v is = parts_in k vs v h (sym (stepped_at left_view k vs)
      ∙ ap (λ (l : List (ShardView J)). slice_get l k) (sym e) ∙ is)
    where
      parts_in : (k : ℕ) (vs : List (ShardView J)) (v : ShardView J) → HaveParts 2 vs → slice_get vs k ≡ Some v
          → 2 ≤ v.parts
      parts_in k [] v h is = cc
      parts_in zero (x ∷ vs) v h is = subst (λ (z : ShardView J). 2 ≤ z.parts) (same_Some x v is) h.0
      parts_in (suc k) (x ∷ vs) v h is = parts_in k vs v h.1 is

  pub cut_left : (k : ℕ) (vs us news : List (ShardView J)) (r : ShardView J) → us ≡ stepped left_view k vs
      → CutsAt k us news r → news ≡ stepped left_view (k + 1) vs
  cut_left k vs us news r e h =
      let was : slice_get vs k ≡ Some h.view = sym (stepped_at left_view k vs)
      ∙ ap (λ (l : List (ShardView J)). slice_get l k) (sym e) ∙ h.was in
      h.left ∙ ap (λ (l : List (ShardView J)). set l k (left_view h.view)) e ∙ step_more left_view k vs h.view was
      ∙ ap (λ (n : ℕ). stepped left_view n vs) (let s : suc k ≡ k + 1 = omega arith in s)

  pub cut_right : (k : ℕ) (vs us news : List (ShardView J)) (made : List (ShardSeat J)) (r : ShardSeat J)
      → us ≡ stepped left_view k vs → CutsAt k us news (view_of r) → views_of made ≡ map right_view (take k vs)
      → views_of (made ++ r ∷ []) ≡ map right_view (take (k + 1) vs)
  cut_right k vs us news made r e h m =
      let was : slice_get vs k ≡ Some h.view = sym (stepped_at left_view k vs)
      ∙ ap (λ (l : List (ShardView J)). slice_get l k) (sym e) ∙ h.was in
      map_snoc view_of made r ∙ ap (λ (l : List (ShardView J)). l ++ view_of r ∷ []) m
      ∙ ap (λ (z : ShardView J). map right_view (take k vs) ++ z ∷ []) h.right_is
      ∙ sym (map_snoc right_view (take k vs) h.view) ∙ ap (map right_view) (sym (take_more k vs h.view was))
      ∙ ap (λ (n : ℕ). map right_view (take n vs)) (let s : suc k ≡ k + 1 = omega arith in s)

  pub cut_seats : (cache : CacheData J) (k : ℕ) (made : List (ShardSeat J)) (id : TableId) (r : ShardSeat J)
      → AreSeats cache.capacities cache.judge (take k cache.ids) made → slice_get cache.ids k ≡ Some id
      → IsSeat cache.capacities cache.judge id r → AreSeats cache.capacities cache.judge (take (k + 1) cache.ids)
      (made ++ r ∷ [])
  cut_seats cache k made id r h is g =
      subst (λ (l : List TableId). AreSeats cache.capacities cache.judge l (made ++ r ∷ [])) (sym
      (take_more k cache.ids id is) ∙ ap (λ (n : ℕ). take n cache.ids) (let s : suc k ≡ k + 1 = omega arith in
      s))
      (seats_snoc cache.capacities cache.judge (take k cache.ids) made id r h g)

  -- with all of them changed, nothing is left
  pub cut_done : (vs us : List (ShardView J)) (k : ℕ) → length vs ≤ k → us ≡ stepped left_view k vs
      → us ≡ map left_view vs
  cut_done vs us k long e = e ∙ all k vs long
    where
      all : (k : ℕ) (vs : List (ShardView J)) → length vs ≤ k → stepped left_view k vs ≡ map left_view vs
      all zero [] l = refl
      all (suc k) [] l = refl
      all zero (v ∷ vs) l = absurd (omega (arith, l))
      all (suc k) (v ∷ vs) l = ap (λ (m : List (ShardView J)). left_view v ∷ m) (all k vs (omega (arith, l)))

  pub length_views : (seats : List (ShardSeat J)) → length (views_of seats) ≡ length seats
  length_views [] = refl
  length_views (x ∷ seats) = ap suc (length_views seats)

  -- a view that is put back changes nothing
  pub set_back : (vs : List (ShardView J)) (at : ℕ) (v : ShardView J) → slice_get vs at ≡ Some v → set vs at v ≡ vs
  set_back [] at v is = refl
  set_back (x ∷ vs) zero v is = ap (λ (z : ShardView J). z ∷ vs) (sym (same_Some x v is))
  set_back (x ∷ vs) (suc at) v is = ap (λ (l : List (ShardView J)). x ∷ l) (set_back vs at v is)

  pub one_id : (cache : CacheData J) (at : ℕ) (i j : TableId) (s : ShardSeat J) → slice_get cache.ids at ≡ Some i
      → slice_get cache.ids at ≡ Some j → IsSeat cache.capacities cache.judge i s
      → IsSeat cache.capacities cache.judge j s
  one_id cache at i j s e f h = subst (λ (z : TableId). IsSeat cache.capacities cache.judge z s) (same_Some i j (sym e
      ∙ f)) h

  -- from place k on the views have met; before it nothing has changed, and the others are still there
  pub record MetBehind (k : ℕ) (views others left news : List (ShardView J)) : Type 0 where
    pub met : (at : ℕ) (v w u : ShardView J) → k ≤ at → slice_get views at ≡ Some v → slice_get others at ≡ Some w
        → slice_get news at ≡ Some u → Meets v w u
    pub before : (at : ℕ) → at < k → slice_get news at ≡ slice_get views at
    pub left_is : (at : ℕ) → at < k → slice_get left at ≡ slice_get others at
    pub long : length news ≡ length views

  pub length_others : (cache : CacheData J) (seats : List (ShardSeat J)) → IsSeatOf cache seats → length seats ≡ 8
  length_others cache seats h = same_length cache.capacities cache.judge cache.ids seats h.each ∙ h.eight

  pub none_met : (vs ws : List (ShardView J)) → MetBehind (length ws) vs ws ws vs
  none_met vs ws = record {
    met = λ at v w u l a b e. absurd (let k = slice_get_within ws at w b in omega (arith, l, k));
    before = λ at l. refl;
    left_is = λ at l. refl;
    long = refl;
  }

  pub last_seat : (cache : CacheData J) (n : ℕ) (left : List (ShardSeat J)) (one : ShardSeat J) (k : ℕ)
      → k ≡ length left → AreSeats cache.capacities cache.judge (take n cache.ids) (left ++ one ∷ [])
      → (id : TableId) × (slice_get cache.ids k ≡ Some id) × IsSeat cache.capacities cache.judge id one
  last_seat cache n left one k e h =
      let t = seat_at cache.capacities cache.judge (take n cache.ids) (left ++ one ∷ []) k one h
      (get_end left one k e) in
      (t.0, get_taken n cache.ids k t.0 t.1, t.2)

  pub seats_less : (caps : Capacities) (judge : J) (ids : List TableId) (n : ℕ) (left : List (ShardSeat J))
      (one : ShardSeat J) → AreSeats caps judge (take n ids) (left ++ one ∷ [])
      → AreSeats caps judge (take (length left) ids) left
  seats_less caps judge ids n [] one h = tt
  seats_less caps judge [] zero (x ∷ left) one h = absurd h
  seats_less caps judge [] (suc n) (x ∷ left) one h = absurd h
  seats_less caps judge (i ∷ ids) zero (x ∷ left) one h = absurd h
  seats_less caps judge (i ∷ ids) (suc n) (x ∷ left) one h = (h.0, seats_less caps judge ids n left one h.1)

  pub met_next : (a : ℕ) (vs ws : List (ShardView J)) (left : List (ShardView J)) (w : ShardView J) (us news : List
      (ShardView J)) → length left ≡ a → MetBehind (length (left ++ w ∷ [])) vs ws (left ++ w ∷ []) us
      → MeetsAt a us w news → MetBehind a vs ws left news
  met_next a vs ws left w us news n h m =
      let long : length (left ++ w ∷ []) ≡ a + 1 = let k = length-append left (w ∷ []) in omega (arith, k, n) in
      record {
        met = λ at v x u l is at_w is_new. either long at v x u l is at_w is_new;
        before = λ at l. ap (λ (z : List (ShardView J)). slice_get z at) m.is
            ∙ get_set_other us a at m.new (λ e. omega (arith, l, e)) ∙ h.before at (omega (arith, l, long));
        left_is = λ at l. sym (get_front left (w ∷ []) at (omega (arith, l, n)))
            ∙ h.left_is at (omega (arith, l, long));
        long = ap (λ (z : List (ShardView J)). length z) m.is ∙ length-set us a m.new ∙ h.long;
      }
    where
      either : length (left ++ w ∷ []) ≡ a + 1 → (k : ℕ) (v x u : ShardView J) → a ≤ k → slice_get vs k ≡ Some v
          → slice_get ws k ≡ Some x → slice_get news k ≡ Some u → Meets v x u
      either long k v x u l is at_w is_new = here long (cases_eq k a)
        where
          here : length (left ++ w ∷ []) ≡ a + 1 → (k ≡ a) ⊎ (k ≡ a → ⊥) → Meets v x u
          here long (inl e) =
              let now : slice_get us k ≡ Some v = h.before k (omega (arith, e, long)) ∙ is in
              let seen : slice_get us k ≡ Some m.view = ap (slice_get us) e ∙ m.was in
              let new : slice_get news k ≡ Some m.new = ap (λ (z : List (ShardView J)). slice_get z k) m.is
              ∙ ap (slice_get (set us a m.new)) e ∙ get_set us a m.view m.new m.was in
              let other : slice_get ws k ≡ Some w = sym (h.left_is k (omega (arith, e, long))) ∙ get_end left w k (e
              ∙ sym n) in
              subst (λ (z : ShardView J). Meets z x u) (same_Some m.view v (sym seen ∙ now))
              (subst (λ (z : ShardView J). Meets m.view z u) (same_Some w x (sym other ∙ at_w))
              (subst (λ (z : ShardView J). Meets m.view w z) (same_Some m.new u (sym new ∙ is_new)) m.meets))
          here long (inr e) =
              let still : slice_get us k ≡ Some u = sym (ap (λ (z : List (ShardView J)). slice_get z k) m.is
              ∙ get_set_other us a k m.new e) ∙ is_new in
              h.met k v x u (omega (arith, l, long, different k a e l)) is at_w still

  pub seats_more : {L : Type 0} (id_of : L → TableId) (caps : Capacities) (judge : J) (locks : List L) (seats : List
      (ShardSeat J)) (lock : L) (seat : ShardSeat J) (more : List L) (others : List (ShardSeat J))
      → more ≡ locks ++ lock ∷ [] → others ≡ seats ++ seat ∷ [] → AreSeats caps judge (map id_of locks) seats
      → IsSeat caps judge (id_of lock) seat → AreSeats caps judge (map id_of more) others
  seats_more id_of caps judge locks seats lock seat more others e f h g =
      subst (λ (l : List _). AreSeats caps judge (map id_of l) others) (sym e)
      (subst (λ (l : List (ShardSeat J)). AreSeats caps judge (map id_of (locks ++ lock ∷ [])) l) (sym f)
      (subst (λ (l : List TableId). AreSeats caps judge l (seats ++ seat ∷ [])) (sym (map_snoc id_of locks lock))
      (seats_snoc caps judge (map id_of locks) seats (id_of lock) seat h g)))

  all_snoc : (P : ShardView J → Type 0) (vs : List (ShardView J)) (v : ShardView J) → AllByRecursion P vs → P v
      → AllByRecursion P (vs ++ v ∷ [])
  all_snoc P [] v h g = (g, tt)
  all_snoc P (x ∷ vs) v h g = (h.0, all_snoc P vs v h.1 g)

  pub new_more : (all : ℕ) (seats : List (ShardSeat J)) (seat : ShardSeat J) (others : List (ShardSeat J))
      → others ≡ seats ++ seat ∷ [] → AreNew all (views_of seats) → IsNewView all (view_of seat)
      → AreNew all (views_of others)
  new_more all seats seat others f h g =
      subst (λ (l : List (ShardSeat J)). AreNew all (views_of l)) (sym f)
      (subst (λ (l : List (ShardView J)). AreNew all l) (sym (map_snoc view_of seats seat)) (all_snoc
      (IsNewView all) (views_of seats) (view_of seat) h g))
