-- The ledger stays right at each publication and at each coming home, and at the end every cache has gone.
use Rattle.std.proofs.Common.{◌≡◌, ◌⊎◌, inl, inr, ℕ, ◌+◌, ◌<◌, Bool, true, false, cond, List, [], ◌∷◌, ◌++◌, map, refl, sym, ap, ◌∙◌, subst, arith}
use Rattle.std.specs.Prelude.{nat_eq}
use Rattle.std.proofs.lemmas.List.{append-nil}
use Rattle.outside.specs.declared.mark.Mark.{Mark}
use Rattle.ruled_lock.specs.Shuffles.{filled}
use Rattle.lent_caches.specs.declared.name.CacheName.{CacheName}
use Rattle.lent_caches.specs.Names.{same_name}
use Rattle.lent_caches.specs.Held.{AllLogs, AreApart, AreWhole, CacheOf, HeldData, IsAbsent, IsHeldAs, IsWhole, LentData, given_all, stays, with_logs}
use Rattle.lent_caches.specs.Ledger.{AllHeld, AllOf, CameHome, Each, HasGone, IsFresh, IsKept, IsLedger, IsNamed, count_named, filled_named, lent_each, logs_named, use_names}
use Rattle.lent_caches.specs.ApartLaws.{apart_all, both, held_cache, same_is}
use Rattle.lent_caches.specs.CountLaws.{given_by, given_is, lent_by, lent_is}
use Rattle.lent_caches.specs.ListLaws.{filled-append}

one_if : (b : Bool) → b ≡ true → ◌≡◌ {A = ℕ} (cond b 1 0) 1
one_if b e = ap (λ (c : Bool). cond c 1 0) e

none_if : (b : Bool) → b ≡ false → ◌≡◌ {A = ℕ} (cond b 1 0) 0
none_if b e = ap (λ (c : Bool). cond c 1 0) e

count-append : (n : CacheName) (xs ys : List CacheName) → count_named n (xs ++ ys) ≡ count_named n xs + count_named n ys
count-append n [] ys = omega arith
count-append n (x ∷ xs) ys = let h = count-append n xs ys in omega (arith, h)

pub names-append : (n : CacheName) (xs ys : List LentData) → count_named n (use_names (xs ++ ys)) ≡ count_named n (use_names xs) + count_named n (use_names ys)
names-append n [] ys = omega arith
names-append n (x ∷ xs) ys = let h = names-append n xs ys in omega (arith, h)

pub named-append : (n : CacheName) (xs ys : List LentData) (s : ℕ) → logs_named n (xs ++ ys) s ≡ logs_named n xs s ++ logs_named n ys s
named-append n [] ys s = refl
named-append n (x ∷ xs) ys s = both (same_name n x.name)
    (λ e. rw e (ap (λ (l : List (List Mark)). x.log s ∷ l) (named-append n xs ys s)))
    (λ e. rw e (named-append n xs ys s))

named_none : (n : CacheName) (us : List LentData) (s : ℕ) → count_named n (use_names us) ≡ 0 → logs_named n us s ≡ []
named_none n [] s none = refl
named_none n (u ∷ us) s none = both (same_name n u.name)
    (λ e. let one = one_if (same_name n u.name) e in absurd (omega (arith, one, none)))
    (λ e. rw e (named_none n us s (omega (arith, none))))

filled_more : (n : CacheName) (xs ys : List LentData) → with_logs (filled_named n xs) (filled_named n ys) ≡ filled_named n (xs ++ ys)
filled_more n xs ys = λ i s. (sym (filled-append (logs_named n xs s) (logs_named n ys s)) ∙ ap (λ (l : List (List Mark)). filled l) (sym (named-append n xs ys s))) i

filled_same : (n : CacheName) (xs ys : List LentData) → count_named n (use_names ys) ≡ 0 → filled_named n xs ≡ filled_named n (xs ++ ys)
filled_same n xs ys none = λ i s. ap (λ (l : List (List Mark)). filled l)
    (sym (append-nil (logs_named n xs s)) ∙ (ap (λ (l : List (List Mark)). logs_named n xs s ++ l) (sym (named_none n ys s none)) ∙ sym (named-append n xs ys s))) i

of_none : (n : CacheName) (cache : CacheOf) (us : List LentData) → count_named n (use_names us) ≡ 0 → AllOf n cache us
of_none n cache [] none = tt
of_none n cache (u ∷ us) none =
    ((λ e. let one = one_if (same_name n u.name) e in absurd (omega (arith, one, none))), of_none n cache us (omega (arith, none)))

of_more : (n : CacheName) (cache : CacheOf) (xs ys : List LentData) → AllOf n cache xs → AllOf n cache ys → AllOf n cache (xs ++ ys)
of_more n cache [] ys all more = more
of_more n cache (x ∷ xs) ys all more = (all.0, of_more n cache xs ys all.1 more)

-- a use that is held is of the cache that has its name
abbrev Fits : LentData → HeldData → Type 0
Fits u h = same_name h.name u.name ≡ true → u.cache ≡ h.cache

none_fits : (u : LentData) (hs : List HeldData) → IsAbsent u.name hs → Each (Fits u) hs
none_fits u [] absent = tt
none_fits u (h ∷ hs) absent = ((λ e. absurd (cc (e, absent.0))), none_fits u hs absent.1)

fits : (u : LentData) (hs : List HeldData) → AreApart hs → IsHeldAs u hs → Each (Fits u) hs
fits u [] apart held = tt
fits u (h ∷ hs) apart (inl is) =
    (held_cache u h hs apart (inl is), none_fits u hs (subst (λ (n : CacheName). IsAbsent n hs) (same_is h.name u.name is.0) apart.0))
fits u (h ∷ hs) apart (inr other) = (held_cache u h hs apart (inr other), fits u hs apart.1 other)

abbrev OfIts : List LentData → HeldData → Type 0
OfIts us h = AllOf h.name h.cache us

none_of_its : (hs : List HeldData) → Each (OfIts []) hs
none_of_its [] = tt
none_of_its (h ∷ hs) = (tt, none_of_its hs)

more_of_its : (u : LentData) (us : List LentData) (hs : List HeldData) → Each (Fits u) hs → Each (OfIts us) hs → Each (OfIts (u ∷ us)) hs
more_of_its u us [] fit of = tt
more_of_its u us (h ∷ hs) fit of = ((fit.0, of.0), more_of_its u us hs fit.1 of.1)

of_its : (us : List LentData) (hs : List HeldData) → AreApart hs → AllHeld us hs → Each (OfIts us) hs
of_its [] hs apart held = none_of_its hs
of_its (u ∷ us) hs apart held = more_of_its u us hs (fits u hs apart held.0) (of_its us hs apart held.1)

absent_stays : (n : CacheName) (hs : List HeldData) → IsAbsent n hs → IsAbsent n (stays hs)
absent_stays n [] absent = tt
absent_stays n (h ∷ hs) absent = both (nat_eq h.out 0)
    (λ e. rw e (absent_stays n hs absent.1))
    (λ e. rw e (absent.0, absent_stays n hs absent.1))

apart_stays : (hs : List HeldData) → AreApart hs → AreApart (stays hs)
apart_stays [] apart = tt
apart_stays (h ∷ hs) apart = both (nat_eq h.out 0)
    (λ e. rw e (apart_stays hs apart.1))
    (λ e. rw e (absent_stays h.name hs apart.0, apart_stays hs apart.1))

module _ (published : List CacheName) (homes us : List LentData) (came : CameHome published (homes ++ us)) where
  -- what a cache that is held has once these uses came home
  counts : (h : HeldData) → IsKept published homes h → ((given_by us h).out + count_named h.name (use_names (homes ++ us)) ≡ count_named h.name published)
  counts h kept =
      let a = names-append h.name homes us in
      let b = came h.name in
      let c = kept.out in
      omega (arith, a, b, c)

  logs_are : (h : HeldData) → IsKept published homes h → (given_by us h).logs ≡ filled_named h.name (homes ++ us)
  logs_are h kept = (λ i. with_logs (kept.logs i) (filled_named h.name us)) ∙ filled_more h.name homes us

  retire_each : (hs : List HeldData) → Each (IsKept published homes) hs → Each (OfIts us) hs → Each (IsKept published (homes ++ us)) (stays (map (given_by us) hs))
  retire_each [] kept of = tt
  retire_each (h ∷ hs) kept of = both (nat_eq (given_by us h).out 0)
      (λ e. rw e (retire_each hs kept.1 of.1))
      (λ e. rw e (record { some = grind (arith, e); out = counts h kept.0; logs = logs_are h kept.0; all_of = of_more h.name h.cache homes us kept.0.all_of of.0 }, retire_each hs kept.1 of.1))

  retire_named : (name : CacheName) (hs : List HeldData) → Each (IsKept published homes) hs → Each (OfIts us) hs → AreWhole (map (given_by us) hs) → IsNamed name hs
      → IsNamed name (stays (map (given_by us) hs)) ⊎ HasGone published (homes ++ us) name
  retire_named name [] kept of whole is = absurd is
  retire_named name (h ∷ hs) kept of whole (inl same) = both (nat_eq (given_by us h).out 0)
      (λ e.
      let zeroth : (given_by us h).out ≡ 0 = grind (arith, e) in
      let c = counts h kept.0 in
      let all : count_named h.name (use_names (homes ++ us)) ≡ count_named h.name published = omega (arith, zeroth, c) in
      inr (subst (HasGone published (homes ++ us)) (same_is h.name name same)
      (record {
        cache = h.cache;
        all_of = of_more h.name h.cache homes us kept.0.all_of of.0;
        all = all;
        whole = subst (λ (l : AllLogs). IsWhole h.cache l) (logs_are h kept.0) (whole.0 e);
      })))
      (λ e. rw e (inl (inl same)))
  retire_named name (h ∷ hs) kept of whole (inr other) = both (nat_eq (given_by us h).out 0)
      (λ e. rw e (retire_named name hs kept.1 of.1 whole.1 other))
      (λ e. rw e (deeper (retire_named name hs kept.1 of.1 whole.1 other)))
    where
      deeper : IsNamed name (stays (map (given_by us) hs)) ⊎ HasGone published (homes ++ us) name
          → IsNamed name (given_by us h ∷ stays (map (given_by us) hs)) ⊎ HasGone published (homes ++ us) name
      deeper (inl is) = inl (inr is)
      deeper (inr gone) = inr gone

  gone_stays : (name : CacheName) → HasGone published homes name → HasGone published (homes ++ us) name
  gone_stays name gone =
      let a = names-append name homes us in
      let b = came name in
      let c = gone.all in
      let none : count_named name (use_names us) ≡ 0 = omega (arith, a, b, c) in
      record {
        cache = gone.cache;
        all_of = of_more name gone.cache homes us gone.all_of (of_none name gone.cache us none);
        all = omega (arith, a, b, c);
        whole = subst (λ (l : AllLogs). IsWhole gone.cache l) (filled_same name homes us none) gone.whole;
      }

  -- uses came home
  pub retires : (held : List HeldData) → IsLedger published homes held → AllHeld us held → AreWhole (given_all us held) → IsLedger published (homes ++ us) (stays (given_all us held))
  retires held ledger all whole =
      let is = given_is us held in
      let of = of_its us held ledger.apart all in
      record {
        apart = apart_stays (given_all us held) (apart_all us held ledger.apart);
        kept = subst (λ (l : List HeldData). Each (IsKept published (homes ++ us)) (stays l)) (sym is) (retire_each held ledger.kept of);
        gone = λ name used. by name of (ledger.gone name used) (subst AreWhole is whole);
      }
    where
      by : (name : CacheName) → Each (OfIts us) held → IsNamed name held ⊎ HasGone published homes name → AreWhole (map (given_by us) held) → IsNamed name (stays (given_all us held)) ⊎ HasGone published (homes ++ us) name
      by name of (inl is) w =
          subst (λ (l : List HeldData). IsNamed name (stays l) ⊎ HasGone published (homes ++ us) name) (sym (given_is us held)) (retire_named name held ledger.kept of w is)
      by name of (inr gone) w = inr (gone_stays name gone)

-- each of these names is held
abbrev pub AllNamed : List CacheName → List HeldData → Type 0
AllNamed [] held = Unit {0}
AllNamed (n ∷ ns) held = IsNamed n held × AllNamed ns held

named-append-held : (name : CacheName) (hs fresh : List HeldData) → IsNamed name (hs ++ fresh) → IsNamed name hs ⊎ IsNamed name fresh
named-append-held name [] fresh is = inr is
named-append-held name (h ∷ hs) fresh (inl is) = inl (inl is)
named-append-held name (h ∷ hs) fresh (inr other) = deeper (named-append-held name hs fresh other)
  where
    deeper : IsNamed name hs ⊎ IsNamed name fresh → IsNamed name (h ∷ hs) ⊎ IsNamed name fresh
    deeper (inl is) = inl (inr is)
    deeper (inr is) = inr is

named_left : (name : CacheName) (hs fresh : List HeldData) → IsNamed name hs → IsNamed name (hs ++ fresh)
named_left name [] fresh is = absurd is
named_left name (h ∷ hs) fresh (inl is) = inl is
named_left name (h ∷ hs) fresh (inr other) = inr (named_left name hs fresh other)

counted_named : (name : CacheName) (ns : List CacheName) (held : List HeldData) → AllNamed ns held → 0 < count_named name ns → IsNamed name held
counted_named name [] held all some = absurd (omega (arith, some))
counted_named name (n ∷ ns) held all some = both (same_name name n)
    (λ e. subst (λ (x : CacheName). IsNamed x held) (sym (same_is name n e)) all.0)
    (λ e. let none = none_if (same_name name n) e in counted_named name ns held all.1 (omega (arith, some, none)))

named_lent : (name : CacheName) (ns : List CacheName) (hs : List HeldData) → IsNamed name hs → IsNamed name (map (lent_by ns) hs)
named_lent name ns [] is = absurd is
named_lent name ns (h ∷ hs) (inl is) = inl is
named_lent name ns (h ∷ hs) (inr other) = inr (named_lent name ns hs other)

absent_lent : (name : CacheName) (ns : List CacheName) (hs : List HeldData) → IsAbsent name hs → IsAbsent name (map (lent_by ns) hs)
absent_lent name ns [] absent = tt
absent_lent name ns (h ∷ hs) absent = (absent.0, absent_lent name ns hs absent.1)

apart_lent : (ns : List CacheName) (hs : List HeldData) → AreApart hs → AreApart (map (lent_by ns) hs)
apart_lent ns [] apart = tt
apart_lent ns (h ∷ hs) apart = (absent_lent h.name ns hs apart.0, apart_lent ns hs apart.1)

module _ (published : List CacheName) (homes : List LentData) (ns : List CacheName) (came : CameHome published homes) where
  kept_lent : (h : HeldData) → IsKept published homes h → IsKept (published ++ ns) homes (lent_by ns h)
  kept_lent h kept =
      let a = count-append h.name published ns in
      let b = kept.out in
      let c = kept.some in
      record { some = omega (arith, c); out = omega (arith, a, b); logs = kept.logs; all_of = kept.all_of }

  fresh_lent : (h : HeldData) → IsFresh published h → 0 < count_named h.name ns → IsKept (published ++ ns) homes (lent_by ns h)
  fresh_lent h fresh used =
      let a = count-append h.name published ns in
      let b = came h.name in
      let c = fresh.unused in
      let d = fresh.none_out in
      let none : count_named h.name (use_names homes) ≡ 0 = omega (arith, b, c) in
      record {
        some = omega (arith, used, d);
        out = omega (arith, a, c, d, none);
        logs = λ i s. (fresh.none_home s ∙ ap (λ (l : List (List Mark)). filled l) (sym (named_none h.name homes s none))) i;
        all_of = of_none h.name h.cache homes none;
      }

  each_lent : (hs fresh : List HeldData) → Each (IsKept published homes) hs → Each (IsFresh published) fresh → Each (λ h. 0 < count_named h.name ns) fresh
      → Each (IsKept (published ++ ns) homes) (map (lent_by ns) (hs ++ fresh))
  each_lent [] [] kept new used = tt
  each_lent [] (f ∷ fresh) kept new used = (fresh_lent f new.0 used.0, each_lent [] fresh kept new.1 used.1)
  each_lent (h ∷ hs) fresh kept new used = (kept_lent h kept.0, each_lent hs fresh kept.1 new used)

  -- what has gone is not held, nor new
  not_kept : (name : CacheName) (hs : List HeldData) → Each (IsKept published homes) hs → HasGone published homes name → IsNamed name hs → ⊥
  not_kept name [] kept gone is = is
  not_kept name (h ∷ hs) kept gone (inl same) =
      let e : h.name ≡ name = same_is h.name name same in
      let all : count_named h.name (use_names homes) ≡ count_named h.name published = subst (λ (n : CacheName). count_named n (use_names homes) ≡ count_named n published) (sym e) gone.all in
      let a = kept.0.out in
      let b = kept.0.some in
      omega (arith, all, a, b)
  not_kept name (h ∷ hs) kept gone (inr other) = not_kept name hs kept.1 gone other

  not_fresh : (name : CacheName) (hs : List HeldData) → Each (IsFresh published) hs → 0 < count_named name published → IsNamed name hs → ⊥
  not_fresh name [] new used is = is
  not_fresh name (h ∷ hs) new used (inl same) =
      let e : h.name ≡ name = same_is h.name name same in
      let none : count_named name published ≡ 0 = subst (λ (n : CacheName). count_named n published ≡ 0) e new.0.unused in
      omega (arith, used, none)
  not_fresh name (h ∷ hs) new used (inr other) = not_fresh name hs new.1 used other

  -- uses were published, of caches that are held and of new ones
  pub publishes : (held fresh : List HeldData) → IsLedger published homes held → Each (IsFresh published) fresh → Each (λ h. 0 < count_named h.name ns) fresh → AreApart (held ++ fresh) → AllNamed ns (held ++ fresh)
      → IsLedger (published ++ ns) homes (lent_each ns (held ++ fresh))
  publishes held fresh ledger new used apart all =
      let is = lent_is ns (held ++ fresh) in
      record {
        apart = subst AreApart (sym is) (apart_lent ns (held ++ fresh) apart);
        kept = subst (Each (IsKept (published ++ ns) homes)) (sym is) (each_lent held fresh ledger.kept new used);
        gone = λ name some. subst (λ (l : List HeldData). IsNamed name l ⊎ HasGone (published ++ ns) homes name) (sym is) (both (nat_eq (count_named name published) 0)
            (λ e.
            let a = count-append name published ns in
            let zeroth : count_named name published ≡ 0 = grind (arith, e) in
            inl (named_lent name ns (held ++ fresh) (counted_named name ns (held ++ fresh) all (omega (arith, a, zeroth, some)))))
            (λ e. let old : 0 < count_named name published = grind (arith, e) in by name old (ledger.gone name old)));
      }
    where
      by : (name : CacheName) → 0 < count_named name published → IsNamed name held ⊎ HasGone published homes name → IsNamed name (map (lent_by ns) (held ++ fresh)) ⊎ HasGone (published ++ ns) homes name
      by name old (inl is) = inl (named_lent name ns (held ++ fresh) (named_left name held fresh is))
      by name old (inr gone) = both (nat_eq (count_named name ns) 0)
          (λ e.
          let a = count-append name published ns in
          let none : count_named name ns ≡ 0 = grind (arith, e) in
          let b = gone.all in
          inr (record { cache = gone.cache; all_of = gone.all_of; all = omega (arith, a, none, b); whole = gone.whole }))
          (λ e.
          let some : 0 < count_named name ns = grind (arith, e) in
          absurd (clash (named-append-held name held fresh (counted_named name ns (held ++ fresh) all some))))
        where
          clash : IsNamed name held ⊎ IsNamed name fresh → ⊥
          clash (inl is) = not_kept name held ledger.kept gone is
          clash (inr is) = not_fresh name fresh new old is

-- at the end, where all that was published came home, each cache has gone
pub all_gone_home : (published : List CacheName) (homes : List LentData) (held : List HeldData) → IsLedger published homes held
    → ((name : CacheName) → count_named name (use_names homes) ≡ count_named name published)
    → (held ≡ []) × ((name : CacheName) → 0 < count_named name published → HasGone published homes name)
all_gone_home published homes [] ledger home = (refl, λ name used. by name (ledger.gone name used))
  where
    by : (name : CacheName) → IsNamed name [] ⊎ HasGone published homes name → HasGone published homes name
    by name (inl is) = absurd is
    by name (inr gone) = gone
all_gone_home published homes (h ∷ hs) ledger home =
    let a = ledger.kept.0.out in
    let b = ledger.kept.0.some in
    let c = home h.name in
    absurd (omega (arith, a, b, c))

-- at the start
pub ledger_starts : IsLedger [] [] []
ledger_starts = record { apart = tt; kept = tt; gone = λ name some. absurd (omega (arith, some)) }
