-- Where the chains of a table are behind sweeps and publications.
use Rattle.std.proofs.Common.{◌≡◌, ◌⊎◌, inl, inr, ℕ, zero, suc, ◌+◌, ◌<◌, ◌≤◌, Bool, true, false, List, [], ◌∷◌, ◌++◌, map, length, reverse, Some, refl, sym, ap, ◌∙◌, subst, append_assoc, arith}
use Rattle.std.specs.Prelude.{slice_get, slice_index_or, if◌then◌else◌}
use Rattle.std.specs.List.{All, flat_map, sum_by}
use Rattle.std.proofs.lemmas.Grind.{flat_map-append}
use Rattle.std.proofs.lemmas.List.{append-nil, get_or_push, map-append, reverse-append}
use Rattle.std.proofs.lemmas.List.Elements.{All-head, All-nil, All-push, All-tail}
use Rattle.std.proofs.lemmas.List.Sums.{sum_by-append, sum_by-cons}
use Rattle.pin_core.specs.declared.slots.TheConstants.{SLOTS}
use Rattle.pin_core.specs.declared.slots.Phase.{Phase}
use Rattle.pin_core.specs.declared.slots.Phase.TheVariants.{Free, Filling, Current, Replaced}
use Rattle.pin_core.specs.Slots.{is_current, is_free}
use Rattle.pin_table.specs.declared.views.Drain.{Drain}
use Rattle.pin_table.specs.declared.views.Past.{Past}
use Rattle.pin_table.specs.declared.views.Plan.{Plan}
use Rattle.pin_table.specs.declared.free_slots.FreeSlot.{FreeSlot}
use Rattle.pin_table.specs.declared.sweeper.Swept.{Swept}
use Rattle.pin_table.specs.declared.sweeper.Swept.TheVariants as swept
use Rattle.pin_table.specs.Freeing.{IsFreed}
use Rattle.pin_table.specs.Known.{filled_at, serial_at}
use Rattle.pin_table.specs.Standing.{IsOfIdentity, standing, standing_at}
use Rattle.pin_table.specs.Steps.{count_of, plan_slot}
use Rattle.pin_table.specs.Sweeping.{IsSwept, gone_all}
use Rattle.pin_table.specs.Tags.{AreNamed, IsNamed}
use Rattle.reload_watch.specs.Homes.{Balances, filled_chains, home_chains}
use Rattle.reload_watch.specs.Placing.{IsPlaced}
use Rattle.reload_watch.specs.Publishing.{AddsGeneration}

-- a current slot isn't free
fronts : (phase : Phase) → is_current phase ≡ true → is_free phase ≡ false
fronts Free is = absurd cc
fronts (Filling marks) is = refl
fronts (Current pins) is = refl
fronts (Replaced total ready drained) is = refl

if_false : (b : Bool) (x y : ℕ) → b ≡ false → (if b then x else y) ≡ y
if_false true x y is = absurd cc
if_false false x y is = refl

if_most : (b : Bool) (x most : ℕ) → x ≤ most → (if b then 0 else x) ≤ most
if_most true x most le = omega arith
if_most false x most le = le

module _ {C : Type 0} where
  -- what came home stands behind what had come before
  pub record GrowsHome (p : Plan C) (home home' : List C) (p' : Plan C) : Type 0 where
    pub more : List C
    pub home_is : home' ≡ home ++ more
    pub chains_are : home_chains p' ≡ home_chains p ++ more
    pub past_is : p'.past ≡ p.past
    pub workers_are : p'.workers ≡ p.workers

  gone_home : (serial w : ℕ) (cs : List C) (ds : List (Drain C)) → map (λ (d : Drain C). d.chain) (reverse (gone_all serial w cs ds)) ≡ map (λ (d : Drain C). d.chain) (reverse ds) ++ cs
  gone_home serial w [] ds = sym (append-nil (map (λ (d : Drain C). d.chain) (reverse ds)))
  gone_home serial w (c ∷ cs) ds =
      let d : Drain C = record { serial = serial; worker = w; chain = c } in
      gone_home serial (suc w) cs (d ∷ ds)
      ∙ ap (λ (l : List (Drain C)). map (λ (e : Drain C). e.chain) l ++ cs) (reverse-append (d ∷ []) ds)
      ∙ ap (λ (l : List C). l ++ cs) (map-append (λ (e : Drain C). e.chain) (reverse ds) (d ∷ []))
      ∙ append_assoc (map (λ (e : Drain C). e.chain) (reverse ds)) (c ∷ []) cs

  grows_swept : (p : Plan C) (slot : ℕ) (home : List C) (x : Swept) (home' : List C) (p' : Plan C) → IsSwept p slot home x home' p' → GrowsHome p home home' p'
  grows_swept p slot home swept.Retired home' p' is = record {
    more = is.chains;
    home_is = is.grown;
    chains_are = ap (λ (q : Plan C). home_chains q) is.then ∙ gone_home (serial_at p.past.serials slot) 0 is.chains p.drains;
    past_is = ap (λ (q : Plan C). q.past) is.then;
    workers_are = ap (λ (q : Plan C). q.workers) is.then;
  }
  grows_swept p slot home (swept.NotYet ended total) home' p' is = record {
    more = [];
    home_is = is.3 ∙ sym (append-nil home);
    chains_are = ap (λ (q : Plan C). home_chains q) is.4 ∙ sym (append-nil (home_chains p));
    past_is = ap (λ (q : Plan C). q.past) is.4;
    workers_are = ap (λ (q : Plan C). q.workers) is.4;
  }
  grows_swept p slot home swept.Current home' p' is = record {
    more = [];
    home_is = is.1 ∙ sym (append-nil home);
    chains_are = ap (λ (q : Plan C). home_chains q) is.2 ∙ sym (append-nil (home_chains p));
    past_is = ap (λ (q : Plan C). q.past) is.2;
    workers_are = ap (λ (q : Plan C). q.workers) is.2;
  }
  grows_swept p slot home swept.Bare home' p' is = record {
    more = [];
    home_is = is.1 ∙ sym (append-nil home);
    chains_are = ap (λ (q : Plan C). home_chains q) is.2 ∙ sym (append-nil (home_chains p));
    past_is = ap (λ (q : Plan C). q.past) is.2;
    workers_are = ap (λ (q : Plan C). q.workers) is.2;
  }

  grows_then : (p q r : Plan C) (a b c : List C) → GrowsHome p a b q → GrowsHome q b c r → GrowsHome p a c r
  grows_then p q r a b c one other = record {
    more = one.more ++ other.more;
    home_is = other.home_is ∙ ap (λ (l : List C). l ++ other.more) one.home_is ∙ append_assoc a one.more other.more;
    chains_are = other.chains_are ∙ ap (λ (l : List C). l ++ other.more) one.chains_are ∙ append_assoc (home_chains p) one.more other.more;
    past_is = other.past_is ∙ one.past_is;
    workers_are = other.workers_are ∙ one.workers_are;
  }

  -- behind a search for a free slot
  pub grows_freed : (p : Plan C) (home : List C) (answer : FreeSlot) (home' : List C) (p' : Plan C) → IsFreed p home answer home' p' → GrowsHome p home home' p'
  grows_freed p home answer home' p' w =
      grows_then p w.plan_2 p' home w.home_2 home'
      (grows_then p w.plan_1 w.plan_2 home w.home_1 w.home_2 (grows_swept p w.a home w.first w.home_1 w.plan_1 w.sweep_1) (grows_swept w.plan_1 w.b w.home_1 w.second w.home_2 w.plan_2 w.sweep_2))
      (grows_swept w.plan_2 w.c w.home_2 w.third home' p' w.sweep_3)

  -- one chain is among these
  abbrev pub Among : C → List C → Type 0
  Among c [] = ⊥
  Among c (x ∷ xs) = (x ≡ c) ⊎ Among c xs

  pub among_left : (c : C) (xs ys : List C) → Among c xs → Among c (xs ++ ys)
  among_left c [] ys is = absurd is
  among_left c (x ∷ xs) ys (inl is) = inl is
  among_left c (x ∷ xs) ys (inr other) = inr (among_left c xs ys other)

  pub among_right : (c : C) (xs ys : List C) → Among c ys → Among c (xs ++ ys)
  among_right c [] ys is = is
  among_right c (x ∷ xs) ys is = inr (among_right c xs ys is)

  among_at : (xs : List C) (w : ℕ) (c : C) → slice_get xs w ≡ Some c → Among c xs
  among_at [] w c is = absurd cc
  among_at (x ∷ xs) zero c is = inl cc
  among_at (x ∷ xs) (suc w) c is = inr (among_at xs w c is)

  among_all : (css : List (List C)) (serial : ℕ) (c : C) → Among c (slice_index_or css serial []) → Among c (flat_map (λ cs. cs) css)
  among_all [] serial c is = absurd is
  among_all (cs ∷ css) zero c is = among_left c cs (flat_map (λ xs. xs) css) is
  among_all (cs ∷ css) (suc serial) c is = among_right c cs (flat_map (λ xs. xs) css) (among_all css serial c is)

  -- a chain that was filled for a serial and a worker is among all
  pub among_filled : (css : List (List C)) (serial w : ℕ) (c : C) → filled_at css serial w ≡ Some c → Among c (flat_map (λ cs. cs) css)
  among_filled css serial w c is = among_all css serial c (among_at (slice_index_or css serial []) w c is)

  -- the chains of the last generation are among all
  pub among_last : (earlier : List (List C)) (chains : List C) (c : C) → Among c chains → Among c (flat_map (λ cs. cs) (earlier ++ chains ∷ []))
  among_last [] chains c is = among_left c chains [] is
  among_last (cs ∷ earlier) chains c is = among_right c cs (flat_map (λ xs. xs) (earlier ++ chains ∷ [])) (among_last earlier chains c is)

  pub all_filled : (filled : List (List C)) (chains : List C) → flat_map (λ cs. cs) (filled ++ chains ∷ []) ≡ flat_map (λ cs. cs) filled ++ chains
  all_filled filled chains = flat_map-append (λ (cs : List C). cs) filled (chains ∷ []) ∙ ap (λ (l : List C). flat_map (λ cs. cs) filled ++ l) (append-nil chains)

  all_right : (P : C → Type 0) (xs ys : List C) → All P (xs ++ ys) → All P ys
  all_right P [] ys all = all
  all_right P (x ∷ xs) ys all = all_right P xs ys (All-tail P x (xs ++ ys) all)

  -- what one of several comes to
  pub among_sum : (f : C → ℕ) (c : C) (cs : List C) → Among c cs → f c ≤ sum_by f cs
  among_sum f c [] is = absurd is
  among_sum f c (x ∷ xs) (inl is) =
      let e : f x ≡ f c = ap f is in
      let s = sum_by-cons f x xs in
      omega (arith, e, s)
  among_sum f c (x ∷ xs) (inr other) =
      let rest = among_sum f c xs other in
      let s = sum_by-cons f x xs in
      omega (arith, rest, s)

  -- what stands in one slot
  standing_most : (f : C → ℕ) (p : Plan C) (slot : ℕ) → slot < SLOTS → standing_at f p slot ≤ standing f p
  unfolding standing
  standing_most f p zero low = omega arith
  standing_most f p (suc zero) low = omega arith
  standing_most f p (suc (suc zero)) low = omega arith
  standing_most f p (suc (suc (suc zero))) low = omega arith
  standing_most f p (suc (suc (suc (suc slot)))) low = absurd (omega (arith, low))

  -- the last generation stands in the table
  pub last_stands : (f : C → ℕ) (p : Plan C) (earlier : List (List C)) (chains : List C) → IsPlaced p → length p.past.filled ≡ count_of p → p.past.filled ≡ earlier ++ chains ∷ [] → sum_by f chains ≤ standing f p
  last_stands f p earlier chains placed count last =
      let front = placed.fronted in
      let busy = fronts (plan_slot p front.front).phase front.current in
      let long : length (earlier ++ chains ∷ []) ≡ count_of p = sym (ap (λ (l : List (List C)). length l) last) ∙ count in
      let push = Rattle.std.proofs.lemmas.List.length_push earlier chains in
      let is_last = front.last in
      let at : length earlier ≡ serial_at p.past.serials front.front = omega (arith, long, push, is_last) in
      let found : slice_index_or p.past.filled (serial_at p.past.serials front.front) [] ≡ chains =
      ap (λ (l : List (List C)). slice_index_or l (serial_at p.past.serials front.front) []) last ∙ get_or_push earlier chains [] (serial_at p.past.serials front.front) at in
      let is : standing_at f p front.front ≡ sum_by f chains =
      if_false (is_free (plan_slot p front.front).phase) 0 (sum_by f (slice_index_or p.past.filled (serial_at p.past.serials front.front) [])) busy ∙ ap (λ (l : List C). sum_by f l) found in
      let most = standing_most f p front.front front.low in
      omega (arith, is, most)

  sum_most : (f : C → ℕ) (cs : List C) → All (λ c. f c ≤ 1) cs → sum_by f cs ≤ length cs
  sum_most f [] all = omega arith
  sum_most f (c ∷ cs) all =
      let one = All-head (λ (x : C). f x ≤ 1) c cs all in
      let rest = sum_most f cs (All-tail (λ (x : C). f x ≤ 1) c cs all) in
      let s = sum_by-cons f c cs in
      omega (arith, one, rest, s)

  at_most : (f : C → ℕ) (workers : ℕ) (css : List (List C)) (serial : ℕ) → All (λ cs. length cs ≡ workers) css → All (λ cs. All (λ c. f c ≤ 1) cs) css → sum_by f (slice_index_or css serial []) ≤ workers
  at_most f workers [] serial full all = omega arith
  at_most f workers (cs ∷ css) zero full all =
      let long = All-head (λ (xs : List C). length xs ≡ workers) cs css full in
      let most = sum_most f cs (All-head (λ (xs : List C). All (λ c. f c ≤ 1) xs) cs css all) in
      omega (arith, long, most)
  at_most f workers (cs ∷ css) (suc serial) full all = at_most f workers css serial (All-tail (λ (xs : List C). length xs ≡ workers) cs css full) (All-tail (λ (xs : List C). All (λ c. f c ≤ 1) xs) cs css all)

  -- at most four generations stand, each with a chain for each worker
  pub stands_most : (f : C → ℕ) (p : Plan C) → All (λ cs. length cs ≡ p.workers) p.past.filled → All (λ cs. All (λ c. f c ≤ 1) cs) p.past.filled → standing f p ≤ p.workers + p.workers + p.workers + p.workers
  unfolding standing
  stands_most f p full all =
      let one = λ (slot : ℕ). if_most (is_free (plan_slot p slot).phase) (sum_by f (slice_index_or p.past.filled (serial_at p.past.serials slot) [])) p.workers (at_most f p.workers p.past.filled (serial_at p.past.serials slot) full all) in
      let a = one 0 in
      let b = one 1 in
      let c = one 2 in
      let d = one 3 in
      omega (arith, a, b, c, d)

module _ {C I : Type 0} (identity : C → I) where
  -- the chain is one of those that were published
  pub record IsOfFilled (p : Plan C) (c : C) : Type 0 where
    pub first : C
    pub among : Among first (filled_chains p)
    pub same : identity c ≡ identity first

  home_named : (p : Plan C) (ds : List (Drain C)) → All (IsNamed identity p.past.filled) ds → All (IsOfFilled p) (map (λ d. d.chain) (reverse ds))
  home_named p [] all = All-nil (IsOfFilled p)
  home_named p (d ∷ ds) all =
      let here = All-head (IsNamed identity p.past.filled) d ds all in
      let rest = home_named p ds (All-tail (IsNamed identity p.past.filled) d ds all) in
      let of : IsOfFilled p d.chain = record {
        first = here.0;
        among = among_all p.past.filled d.serial here.0 (among_at (slice_index_or p.past.filled d.serial []) d.worker here.0 here.1);
        same = here.2;
      } in
      let is : map (λ (e : Drain C). e.chain) (reverse ds) ++ d.chain ∷ [] ≡ map (λ (e : Drain C). e.chain) (reverse (d ∷ ds)) =
      sym (ap (λ (l : List (Drain C)). map (λ (e : Drain C). e.chain) l) (reverse-append (d ∷ []) ds) ∙ map-append (λ (e : Drain C). e.chain) (reverse ds) (d ∷ [])) in
      subst (All (IsOfFilled p)) is (All-push (IsOfFilled p) (map (λ (e : Drain C). e.chain) (reverse ds)) d.chain rest of)

  -- so is each that came home
  pub grown_named : (p : Plan C) (home home' : List C) (p' : Plan C) (grows : GrowsHome p home home' p') → AreNamed identity p' → All (IsOfFilled p') grows.more
  grown_named p home home' p' grows named =
      all_right (IsOfFilled p') (home_chains p) grows.more (subst (All (IsOfFilled p')) grows.chains_are (home_named p' p'.drains named))

  -- behind a search for a free slot
  pub balances_freed : (p : Plan C) (home' : List C) (p' : Plan C) → GrowsHome p [] home' p' → ((f : C → ℕ) → IsOfIdentity identity f → sum_by f home' + standing f p' ≡ standing f p) → Balances identity p → Balances identity p'
  balances_freed p home' p' grows moved balances = λ f of.
      let was = balances f of in
      let now = moved f of in
      let more : home' ≡ grows.more = grows.home_is in
      let homes : sum_by f (home_chains p') ≡ sum_by f (home_chains p) + sum_by f home' =
      ap (λ (l : List C). sum_by f l) grows.chains_are ∙ sum_by-append f (home_chains p) grows.more ∙ ap (λ (l : List C). sum_by f (home_chains p) + sum_by f l) (sym more) in
      let filled : sum_by f (filled_chains p') ≡ sum_by f (filled_chains p) = ap (λ (q : Past C). sum_by f (flat_map (λ (cs : List C). cs) q.filled)) grows.past_is in
      omega (arith, was, now, homes, filled)

  -- and behind a publication
  pub balances_published : (p : Plan C) (chains : List C) (p' : Plan C) → AddsGeneration p chains p' → Balances identity p → Balances identity p'
  balances_published p chains p' adds balances = λ f of.
      let was = balances f of in
      let now = adds.stands f in
      let homes : sum_by f (home_chains p') ≡ sum_by f (home_chains p) = ap (λ (ds : List (Drain C)). sum_by f (map (λ (d : Drain C). d.chain) (reverse ds))) adds.drains in
      let filled : sum_by f (filled_chains p') ≡ sum_by f (filled_chains p) + sum_by f chains =
      ap (λ (l : List (List C)). sum_by f (flat_map (λ (cs : List C). cs) l)) adds.filled ∙ ap (λ (l : List C). sum_by f l) (all_filled p.past.filled chains) ∙ sum_by-append f (filled_chains p) chains in
      omega (arith, was, now, homes, filled)
