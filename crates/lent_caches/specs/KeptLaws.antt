-- What stays of the caches that are held where uses are lent and come home, and caches go.
use Rattle.std.proofs.Common.{◌≡◌, ◌⊎◌, inl, inr, ℕ, zero, suc, ◌+◌, ◌<◌, ◌≤◌, Bool, true, false, cond, List, [], ◌∷◌, ◌++◌, map, refl, sym, ap, ◌∙◌, subst, append_assoc, append-nil, arith}
use Rattle.std.specs.Prelude.{nat_eq}
use Rattle.lent_caches.specs.declared.name.CacheName.{CacheName}
use Rattle.lent_caches.specs.declared.uses.TheConstants.{PARTS}
use Rattle.lent_caches.specs.Names.{same_name}
use Rattle.lent_caches.specs.Held.{AreApart, HeldData, IsAbsent, IsHeldAs, LentData, given_all, stays}
use Rattle.lent_caches.specs.Ledger.{AllAs, AllHeld, AreAs, Each, IsAs, IsKept, IsNamed, count_named, lent_each, use_names}
use Rattle.lent_caches.specs.Building.{AreDistinct, HasRoom, IsNoneOf}
use Rattle.lent_caches.specs.Named.{IsHeldBy, NamedData, named_of}
use Rattle.lent_caches.specs.Serials.{AreBefore}
use Rattle.lent_caches.specs.TimesLaws.{copies}
use Rattle.lent_caches.specs.ApartLaws.{both, held_cache, same_is}
use Rattle.lent_caches.specs.CountLaws.{given_by, given_is, lent_by, lent_is}

one_if : (b : Bool) → b ≡ true → ◌≡◌ {A = ℕ} (cond b 1 0) 1
one_if b e = ap (λ (c : Bool). cond c 1 0) e

none_if : (b : Bool) → b ≡ false → ◌≡◌ {A = ℕ} (cond b 1 0) 0
none_if b e = ap (λ (c : Bool). cond c 1 0) e

pub same_self : (n : CacheName) → same_name n n ≡ true
same_self n = grind arith

-- each of several lists
pub each_append : (P : HeldData → Type 0) (hs more : List HeldData) → Each P hs → Each P more → Each P (hs ++ more)
each_append P [] more one other = other
each_append P (h ∷ hs) more one other = (one.0, each_append P hs more one.1 other)

pub each_to : (P Q : HeldData → Type 0) → ((h : HeldData) → P h → Q h) → (hs : List HeldData) → Each P hs → Each Q hs
each_to P Q to [] all = tt
each_to P Q to (h ∷ hs) all = (to h all.0, each_to P Q to hs all.1)

pub each_stays : (P : HeldData → Type 0) (hs : List HeldData) → Each P hs → Each P (stays hs)
each_stays P [] all = tt
each_stays P (h ∷ hs) all = both (nat_eq h.out 0)
    (λ e. rw e (each_stays P hs all.1))
    (λ e. rw e (all.0, each_stays P hs all.1))

-- where no use is out of what is new, that goes, and nothing else
pub new_goes : (hs fresh : List HeldData) → Each (λ h. 0 < h.out) hs → Each (λ h. h.out ≡ 0) fresh → stays (hs ++ fresh) ≡ hs
new_goes [] [] some none = refl
new_goes [] (h ∷ fresh) some none =
    let out : nat_eq h.out 0 ≡ true = grind (arith, none.0) in
    ap (λ (t : Bool). cond t (stays fresh) (h ∷ stays fresh)) out ∙ new_goes [] fresh some none.1
new_goes (h ∷ hs) fresh some none =
    let out : nat_eq h.out 0 ≡ false = grind (arith, some.0) in
    ap (λ (t : Bool). cond t (stays (hs ++ fresh)) (h ∷ stays (hs ++ fresh))) out ∙ ap (λ (l : List HeldData). h ∷ l) (new_goes hs fresh some.1 none)

-- which cache stands under the names of uses
as_alike : (us : List LentData) (h k : HeldData) → k.name ≡ h.name → k.cache ≡ h.cache → AllAs us h → AllAs us k
as_alike [] h k name cache alone = tt
as_alike (u ∷ us) h k name cache alone =
    ((λ e. alone.0 (subst (λ (n : CacheName). same_name n u.name ≡ true) name e) ∙ sym cache), as_alike us h k name cache alone.1)

as_map : (f : HeldData → HeldData) → ((h : HeldData) → (f h).name ≡ h.name) → ((h : HeldData) → (f h).cache ≡ h.cache) → (us : List LentData) (hs : List HeldData) → Each (AllAs us) hs → Each (AllAs us) (map f hs)
as_map f name cache us [] all = tt
as_map f name cache us (h ∷ hs) all = (as_alike us h (f h) (name h) (cache h) all.0, as_map f name cache us hs all.1)

pub as_lent : (us : List LentData) (ns : List CacheName) (hs : List HeldData) → Each (AllAs us) hs → Each (AllAs us) (lent_each ns hs)
as_lent us ns hs all = subst (Each (AllAs us)) (sym (lent_is ns hs)) (as_map (lent_by ns) (λ h. refl) (λ h. refl) us hs all)

pub as_given : (us vs : List LentData) (hs : List HeldData) → Each (AllAs us) hs → Each (AllAs us) (given_all vs hs)
as_given us vs hs all = subst (Each (AllAs us)) (sym (given_is vs hs)) (as_map (given_by vs) (λ h. refl) (λ h. refl) us hs all)

as_both : (us vs : List LentData) (h : HeldData) → AllAs us h → AllAs vs h → AllAs (us ++ vs) h
as_both [] vs h one other = other
as_both (u ∷ us) vs h one other = (one.0, as_both us vs h one.1 other)

pub each_both : (us vs : List LentData) (hs : List HeldData) → Each (AllAs us) hs → Each (AllAs vs) hs → Each (AllAs (us ++ vs)) hs
each_both us vs [] one other = tt
each_both us vs (h ∷ hs) one other = (as_both us vs h one.0 other.0, each_both us vs hs one.1 other.1)

pub as_none : (us : List LentData) (h : HeldData) → count_named h.name (use_names us) ≡ 0 → AllAs us h
as_none [] h none = tt
as_none (u ∷ us) h none =
    ((λ e. let one = one_if (same_name h.name u.name) e in absurd (omega (arith, one, none))), as_none us h (omega (arith, none)))

abbrev Fits : LentData → HeldData → Type 0
Fits u h = same_name h.name u.name ≡ true → u.cache ≡ h.cache

none_fits : (u : LentData) (hs : List HeldData) → IsAbsent u.name hs → Each (Fits u) hs
none_fits u [] absent = tt
none_fits u (h ∷ hs) absent = ((λ e. absurd (cc (e, absent.0))), none_fits u hs absent.1)

fits : (u : LentData) (hs : List HeldData) → AreApart hs → IsHeldAs u hs → Each (Fits u) hs
fits u [] apart held = tt
fits u (h ∷ hs) apart (inl is) =
    (held_cache u h hs apart (inl is), none_fits u hs (subst (λ (n : CacheName). IsAbsent n hs) (same_is h.name u.name is.0) apart.0))
fits u (h ∷ hs) apart (inr other) = (held_cache u h hs apart (inr other), fits u hs apart.1 other)

none_as : (hs : List HeldData) → Each (AllAs []) hs
none_as [] = tt
none_as (h ∷ hs) = (tt, none_as hs)

more_as : (u : LentData) (us : List LentData) (hs : List HeldData) → Each (Fits u) hs → Each (AllAs us) hs → Each (AllAs (u ∷ us)) hs
more_as u us [] fit alone = tt
more_as u us (h ∷ hs) fit alone = ((fit.0, alone.0), more_as u us hs fit.1 alone.1)

-- uses of caches that are held
pub as_held : (us : List LentData) (hs : List HeldData) → AreApart hs → AllHeld us hs → Each (AllAs us) hs
as_held [] hs apart held = none_as hs
as_held (u ∷ us) hs apart held = more_as u us hs (fits u hs apart held.0) (as_held us hs apart held.1)

-- a use that was published, of a cache whose name is held
pub by_published : (u : LentData) (published : List LentData) (hs : List HeldData) → IsAs u published → Each (AllAs published) hs → IsNamed u.name hs → IsHeldBy (named_of u) hs
by_published u published [] is alone named = named
by_published u published (h ∷ hs) is alone (inl same) = inl (same, of published is alone.0)
  where
    of : (vs : List LentData) → IsAs u vs → AllAs vs h → u.cache ≡ h.cache
    of [] is alone = absurd is
    of (v ∷ vs) (inl is) alone = sym is.1 ∙ alone.0 (subst (λ (n : CacheName). same_name h.name n ≡ true) (sym is.0) same)
    of (v ∷ vs) (inr other) alone = of vs other alone.1
by_published u published (h ∷ hs) is alone (inr other) = inr (by_published u published hs is alone.1 other)

-- uses by names and caches
pub as_left : (u : LentData) (vs ws : List LentData) → IsAs u vs → IsAs u (vs ++ ws)
as_left u [] ws is = absurd is
as_left u (v ∷ vs) ws (inl is) = inl is
as_left u (v ∷ vs) ws (inr other) = inr (as_left u vs ws other)

pub as_right : (u : LentData) (vs ws : List LentData) → IsAs u ws → IsAs u (vs ++ ws)
as_right u [] ws is = is
as_right u (v ∷ vs) ws is = inr (as_right u vs ws is)

pub are_left : (us vs ws : List LentData) → AreAs us vs → AreAs us (vs ++ ws)
are_left [] vs ws are = tt
are_left (u ∷ us) vs ws are = (as_left u vs ws are.0, are_left us vs ws are.1)

pub are_right : (us vs ws : List LentData) → AreAs us ws → AreAs us (vs ++ ws)
are_right [] vs ws are = tt
are_right (u ∷ us) vs ws are = (as_right u vs ws are.0, are_right us vs ws are.1)

pub are_same : (us vs : List LentData) → map named_of us ≡ map named_of vs → AreAs us vs
are_same [] vs same = tt
are_same (u ∷ us) [] same = absurd cc
are_same (u ∷ us) (v ∷ vs) same =
    let here : named_of u ≡ named_of v = cc in
    let rest : map named_of us ≡ map named_of vs = cc in
    (inl (sym (ap (λ (n : NamedData). n.name) here), sym (ap (λ (n : NamedData). n.cache) here)), are_right us (v ∷ []) vs (are_same us vs rest))

pub are_both : (us vs ws : List LentData) → AreAs us ws → AreAs vs ws → AreAs (us ++ vs) ws
are_both [] vs ws one other = other
are_both (u ∷ us) vs ws one other = (one.0, are_both us vs ws one.1 other)

-- names by uses
pub names_are : (us : List LentData) → use_names us ≡ map (λ (n : NamedData). n.name) (map named_of us)
names_are [] = refl
names_are (u ∷ us) = ap (λ (l : List CacheName). u.name ∷ l) (names_are us)

pub use_names-append : (us vs : List LentData) → use_names (us ++ vs) ≡ use_names us ++ use_names vs
use_names-append [] vs = refl
use_names-append (u ∷ us) vs = ap (λ (l : List CacheName). u.name ∷ l) (use_names-append us vs)

pub count_both : (n : CacheName) (xs ys : List CacheName) → count_named n (xs ++ ys) ≡ count_named n xs + count_named n ys
count_both n [] ys = omega arith
count_both n (x ∷ xs) ys = let h = count_both n xs ys in omega (arith, h)

-- names that began before a serial
pub before_more : (a b : ℕ) (ns : List CacheName) → a ≤ b → AreBefore a ns → AreBefore b ns
before_more a b [] le before = tt
before_more a b (n ∷ ns) le before = let low = before.0 in (omega (arith, low, le), before_more a b ns le before.1)

pub before_both : (serial : ℕ) (ns ms : List CacheName) → AreBefore serial ns → AreBefore serial ms → AreBefore serial (ns ++ ms)
before_both serial [] ms one other = other
before_both serial (n ∷ ns) ms one other = (one.0, before_both serial ns ms one.1 other)

pub before_counted : (serial : ℕ) (n : CacheName) (ns : List CacheName) → AreBefore serial ns → 0 < count_named n ns → n.serial < serial
before_counted serial n [] before some = absurd (omega (arith, some))
before_counted serial n (m ∷ ns) before some = both (same_name n m)
    (λ e. subst (λ (x : CacheName). x.serial < serial) (sym (same_is n m e)) before.0)
    (λ e. let none = none_if (same_name n m) e in before_counted serial n ns before.1 (omega (arith, none, some)))

pub before_none : (serial : ℕ) (n : CacheName) (ns : List CacheName) → AreBefore serial ns → serial ≤ n.serial → count_named n ns ≡ 0
before_none serial n ns before le = both (nat_eq (count_named n ns) 0)
    (λ e. grind (arith, e))
    (λ e. let some : 0 < count_named n ns = grind (arith, e) in let low = before_counted serial n ns before some in absurd (omega (arith, low, le)))

-- so no cache is held under a later name
pub absent_later : (serial : ℕ) (n : CacheName) (published : List CacheName) (homes : List LentData) (hs : List HeldData) → AreBefore serial published → serial ≤ n.serial → Each (IsKept published homes) hs → IsAbsent n hs
absent_later serial n published homes [] before le kept = tt
absent_later serial n published homes (h ∷ hs) before le kept = (
  both (same_name h.name n)
      (λ e.
      let same : h.name ≡ n = same_is h.name n e in
      let some = kept.0.some in
      let out = kept.0.out in
      let none : count_named h.name published ≡ 0 = subst (λ (m : CacheName). count_named m published ≡ 0) (sym same) (before_none serial n published before le) in
      absurd (omega (arith, some, out, none)))
      (λ e. e),
  absent_later serial n published homes hs before le kept.1,
)

-- how much room there is
pub room_kept : (many out : ℕ) (n : CacheName) (published : List CacheName) (homes : List LentData) (hs : List HeldData) → Each (IsKept published homes) hs → count_named n published ≤ count_named n (use_names homes) + out → out + many < PARTS
    → IsNamed n hs → HasRoom many n hs
room_kept many out n published homes [] kept most less is = absurd is
room_kept many out n published homes (h ∷ hs) kept most less (inl same) =
    let e : h.name ≡ n = same_is h.name n same in
    let is : h.out + count_named n (use_names homes) ≡ count_named n published = subst (λ (m : CacheName). h.out + count_named m (use_names homes) ≡ count_named m published) e kept.0.out in
    inl (same, omega (arith, is, most, less))
room_kept many out n published homes (h ∷ hs) kept most less (inr other) = inr (room_kept many out n published homes hs kept.1 most less other)

pub room_new : (many : ℕ) (n : CacheName) (fresh : List HeldData) → Each (λ h. h.out ≡ 0) fresh → many < PARTS → IsNamed n fresh → HasRoom many n fresh
room_new many n [] none less is = absurd is
room_new many n (h ∷ fresh) none less (inl same) = let out = none.0 in inl (same, omega (arith, out, less))
room_new many n (h ∷ fresh) none less (inr other) = inr (room_new many n fresh none.1 less other)

pub room_left : (many : ℕ) (n : CacheName) (hs fresh : List HeldData) → HasRoom many n hs → HasRoom many n (hs ++ fresh)
room_left many n [] fresh room = absurd room
room_left many n (h ∷ hs) fresh (inl is) = inl is
room_left many n (h ∷ hs) fresh (inr other) = inr (room_left many n hs fresh other)

pub room_right : (many : ℕ) (n : CacheName) (hs fresh : List HeldData) → HasRoom many n fresh → HasRoom many n (hs ++ fresh)
room_right many n [] fresh room = room
room_right many n (h ∷ hs) fresh room = inr (room_right many n hs fresh room)

pub named_either : (n : CacheName) (hs fresh : List HeldData) → IsNamed n (hs ++ fresh) → IsNamed n hs ⊎ IsNamed n fresh
named_either n [] fresh is = inr is
named_either n (h ∷ hs) fresh (inl is) = inl (inl is)
named_either n (h ∷ hs) fresh (inr other) = deeper (named_either n hs fresh other)
  where
    deeper : IsNamed n hs ⊎ IsNamed n fresh → IsNamed n (h ∷ hs) ⊎ IsNamed n fresh
    deeper (inl is) = inl (inr is)
    deeper (inr is) = inr is

-- names so many times over
pub copies_front : (k : ℕ) (ns : List CacheName) → copies (suc k) ns ≡ ns ++ copies k ns
copies_front zero ns = sym (append-nil ns)
copies_front (suc k) ns = ap (λ (l : List CacheName). l ++ ns) (copies_front k ns) ∙ append_assoc ns (copies k ns) ns

pub copies_before : (k serial : ℕ) (ns : List CacheName) → AreBefore serial ns → AreBefore serial (copies k ns)
copies_before zero serial ns before = tt
copies_before (suc k) serial ns before = before_both serial (copies k ns) ns (copies_before k serial ns before) before

pub copies_some : (k : ℕ) (n : CacheName) (ns : List CacheName) → 0 < k → 0 < count_named n ns → 0 < count_named n (copies k ns)
copies_some zero n ns some counted = absurd (omega (arith, some))
copies_some (suc k) n ns some counted = let both_are = count_both n (copies k ns) ns in omega (arith, both_are, counted)

-- a name stands once among different ones
none_counted : (n : CacheName) (ks : List CacheName) → IsNoneOf n ks → count_named n ks ≡ 0
none_counted n [] none = refl
none_counted n (k ∷ ks) none = let a = none_if (same_name n k) none.0 in let b = none_counted n ks none.1 in omega (arith, a, b)

pub counted_once : (n : CacheName) (ns : List CacheName) → AreDistinct ns → count_named n ns ≤ 1
counted_once n [] distinct = omega arith
counted_once n (k ∷ ks) distinct = both (same_name n k)
    (λ e.
    let none = none_counted n ks (subst (λ (m : CacheName). IsNoneOf m ks) (sym (same_is n k e)) distinct.0) in
    let a = one_if (same_name n k) e in omega (arith, none, a))
    (λ e. let a = none_if (same_name n k) e in let b = counted_once n ks distinct.1 in omega (arith, a, b))
