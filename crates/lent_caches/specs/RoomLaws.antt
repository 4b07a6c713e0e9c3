-- What the watcher must know before chains are built and before they are taken back.
use Rattle.std.proofs.Common.{◌≡◌, ◌⊎◌, inl, inr, ℕ, zero, suc, ◌+◌, ◌<◌, ◌≤◌, Bool, true, false, cond, List, [], ◌∷◌, map, refl, sym, ap, ◌∙◌, subst, arith}
use Rattle.lent_caches.specs.declared.name.CacheName.{CacheName}
use Rattle.lent_caches.specs.Names.{same_name}
use Rattle.lent_caches.specs.Held.{CanLend, HeldData, IsHeldAs, LentData, lent_one}
use Rattle.lent_caches.specs.Ledger.{AllAs, AllHeld, AreAs, Each, HasGone, IsAs, IsLedger, IsNamed, count_named, lent_each, use_names}
use Rattle.lent_caches.specs.Building.{AreDistinct, CanLendEach, CanLendTimes, HasRoom, HaveRoom, IsNoneOf}
use Rattle.lent_caches.specs.ApartLaws.{both, same_is}
use Rattle.lent_caches.specs.CountLaws.{lent_by, lent_is}

one_if : (b : Bool) → b ≡ true → ◌≡◌ {A = ℕ} (cond b 1 0) 1
one_if b e = ap (λ (c : Bool). cond c 1 0) e

none_if : (b : Bool) → b ≡ false → ◌≡◌ {A = ℕ} (cond b 1 0) 0
none_if b e = ap (λ (c : Bool). cond c 1 0) e

-- lending for these names takes as much room as the name stands among them
room_lent : (many : ℕ) (n : CacheName) (ks : List CacheName) (hs : List HeldData) → HasRoom (many + count_named n ks) n hs → HasRoom many n (map (lent_by ks) hs)
room_lent many n ks [] room = absurd room
room_lent many n ks (h ∷ hs) (inl is) =
    let same : count_named h.name ks ≡ count_named n ks = ap (λ (m : CacheName). count_named m ks) (same_is h.name n is.0) in
    let less = is.1 in
    inl (is.0, omega (arith, same, less))
room_lent many n ks (h ∷ hs) (inr other) = inr (room_lent many n ks hs other)

none_counted : (n : CacheName) (ks : List CacheName) → IsNoneOf n ks → count_named n ks ≡ 0
none_counted n [] none = refl
none_counted n (k ∷ ks) none = let a = none_if (same_name n k) none.0 in let b = none_counted n ks none.1 in omega (arith, a, b)

less_room : (a b : ℕ) (n : CacheName) (hs : List HeldData) → b ≤ a → HasRoom a n hs → HasRoom b n hs
less_room a b n [] le room = room
less_room a b n (h ∷ hs) le (inl is) = let less = is.1 in inl (is.0, omega (arith, less, le))
less_room a b n (h ∷ hs) le (inr other) = inr (less_room a b n hs le other)

can_room : (n : CacheName) (hs : List HeldData) → HasRoom 1 n hs → CanLend n hs
can_room n [] room = room
can_room n (h ∷ hs) (inl is) = inl is
can_room n (h ∷ hs) (inr other) = inr (can_room n hs other)

room_one : (many : ℕ) (k n : CacheName) (hs : List HeldData) → HasRoom (many + count_named n (k ∷ [])) n hs → HasRoom many n (lent_one k hs)
room_one many k n hs room = subst (HasRoom many n) (sym (lent_is (k ∷ []) hs)) (room_lent many n (k ∷ []) hs room)

rooms_one : (many : ℕ) (k : CacheName) (ns : List CacheName) (hs : List HeldData) → IsNoneOf k ns → HaveRoom many ns hs → HaveRoom many ns (lent_one k hs)
rooms_one many k [] hs none room = tt
rooms_one many k (n ∷ ns) hs none room =
    let apart : same_name n k ≡ false = turned none.0 in
    let a = none_if (same_name n k) apart in
    let e : many ≡ many + count_named n (k ∷ []) = omega (arith, a) in
    (room_one many k n hs (subst (λ (m : ℕ). HasRoom m n hs) e room.0), rooms_one many k ns hs none.1 room.1)
  where
    turned : same_name k n ≡ false → same_name n k ≡ false
    turned e = both (same_name n k)
        (λ t. let is : n ≡ k = same_is n k t in absurd (cc (e, subst (λ (m : CacheName). same_name m n ≡ true) is (subst (λ (m : CacheName). same_name n m ≡ true) (sym is) t))))
        (λ f. f)

-- each of the names lends one seat
each_can : (many : ℕ) (ns : List CacheName) (hs : List HeldData) → AreDistinct ns → HaveRoom (many + 1) ns hs → CanLendEach ns hs
each_can many [] hs distinct room = tt
each_can many (n ∷ ns) hs distinct room =
    (can_room n hs (less_room (many + 1) 1 n hs (omega arith) room.0), each_can many ns (lent_one n hs) distinct.1 (rooms_one (many + 1) n ns hs distinct.0 room.1))

once_counted : (n : CacheName) (ns : List CacheName) → AreDistinct ns → count_named n ns ≤ 1
once_counted n [] distinct = omega arith
once_counted n (k ∷ ks) distinct = both (same_name n k)
    (λ e.
    let is : k ≡ n = sym (same_is n k e) in
    let none = none_counted n ks (subst (λ (m : CacheName). IsNoneOf m ks) is distinct.0) in
    let a = one_if (same_name n k) e in omega (arith, none, a))
    (λ e. let a = none_if (same_name n k) e in let b = once_counted n ks distinct.1 in omega (arith, a, b))

rooms_each : (many : ℕ) (ms ns : List CacheName) (hs : List HeldData) → AreDistinct ns → HaveRoom (many + 1) ms hs → HaveRoom many ms (lent_each ns hs)
rooms_each many [] ns hs distinct room = tt
rooms_each many (m ∷ ms) ns hs distinct room =
    let once = once_counted m ns distinct in
    (subst (HasRoom many m) (sym (lent_is ns hs)) (room_lent many m ns hs (less_room (many + 1) (many + count_named m ns) m hs (omega (arith, once)) room.0)), rooms_each many ms ns hs distinct room.1)

-- where each cache of the generation has more than so many parts, that many chains can be built
pub can_build : (workers : ℕ) (ns : List CacheName) (hs : List HeldData) → AreDistinct ns → HaveRoom workers ns hs → CanLendTimes workers ns hs
can_build zero ns hs distinct room = tt
can_build (suc k) ns hs distinct room =
    let e : suc k ≡ k + 1 = omega arith in
    let more = subst (λ (m : ℕ). HaveRoom m ns hs) e room in
    (each_can k ns hs distinct more, can_build k ns (lent_each ns hs) distinct (rooms_each k ns ns hs distinct more))

-- a use that was published, of a cache that is held
held_as : (u : LentData) (published : List LentData) (hs : List HeldData) → IsAs u published → Each (AllAs published) hs → IsNamed u.name hs → IsHeldAs u hs
held_as u published [] is locks named = named
held_as u published (h ∷ hs) is locks (inl same) = inl (same, of_lock published is locks.0)
  where
    of_lock : (vs : List LentData) → IsAs u vs → AllAs vs h → u.cache ≡ h.cache
    of_lock [] is locks = absurd is
    of_lock (v ∷ vs) (inl is) locks = sym is.1 ∙ locks.0 (subst (λ (n : CacheName). same_name h.name n ≡ true) (sym is.0) same)
    of_lock (v ∷ vs) (inr other) locks = of_lock vs other locks.1
held_as u published (h ∷ hs) is locks (inr other) = inr (held_as u published hs is locks.1 other)

-- the uses of chains that come home are at caches that are held
pub all_held : (published homes : List LentData) (hs : List HeldData) (us : List LentData) → IsLedger (use_names published) homes hs → Each (AllAs published) hs
    → ((name : CacheName) → count_named name (use_names homes) + count_named name (use_names us) ≤ count_named name (use_names published)) → AreAs us published → AllHeld us hs
all_held published homes hs [] ledger locks came are = tt
all_held published homes hs (u ∷ us) ledger locks came are = (
  held_as u published hs are.0 locks (by (ledger.gone u.name (used (came u.name) (refl_name u.name)))),
  all_held published homes hs us ledger locks (λ name. let c = came name in omega (arith, c)) are.1,
)
  where
    refl_name : (n : CacheName) → same_name n n ≡ true
    refl_name n = grind arith

    used : count_named u.name (use_names homes) + count_named u.name (use_names (u ∷ us)) ≤ count_named u.name (use_names published) → same_name u.name u.name ≡ true → 0 < count_named u.name (use_names published)
    used c e = let one = one_if (same_name u.name u.name) e in omega (arith, c, one)

    by : IsNamed u.name hs ⊎ HasGone (use_names published) homes u.name → IsNamed u.name hs
    by (inl is) = is
    by (inr gone) =
        let c = came u.name in
        let all = gone.all in
        let one = one_if (same_name u.name u.name) (refl_name u.name) in
        absurd (omega (arith, c, all, one))
