-- Caches that are held under names of which no two are the same.
use Rattle.std.proofs.Common.{◌≡◌, inl, inr, ℕ, ◌+◌, ◌-◌, ◌<◌, ◌≤◌, ◌==◌, ◌&&◌, Bool, true, false, cond, eqb-true, List, [], ◌∷◌, ◌++◌, map, length, get_or, refl, sym, ap, ◌∙◌, subst, append_assoc, length-append, arith}
use Rattle.std.specs.Prelude.{nat_eq}
use Rattle.std.specs.List.{remove}
use Rattle.std.proofs.lemmas.List.{append-nil, length_push, map-append}
use Rattle.std.proofs.lemmas.List.Edits.{remove-append_right}
use Rattle.lent_caches.specs.declared.name.CacheName.{CacheName}
use Rattle.lent_caches.specs.declared.uses.HeldCache.{HeldCache}
use Rattle.lent_caches.specs.Names.{same_name}
use Rattle.lent_caches.specs.Going.{GoneSo}
use Rattle.lent_caches.specs.Ledger.{AllHeld}
use Rattle.lent_caches.specs.Held.{AreApart, AreWhole, HeldData, IsAbsent, IsHeldAs, IsWhole, LentData, at_name, given_all, given_back, held_data, stays, with_log}

pub both : {R : Type 0} (b : Bool) → (b ≡ true → R) → (b ≡ false → R) → R
both true t f = t refl
both false t f = f refl

parts : (a b : Bool) → (a && b) ≡ true → (a ≡ true) × (b ≡ true)
parts true true h = (refl, refl)
parts true false h = absurd cc
parts false b h = absurd cc

pub same_is : (a b : CacheName) → same_name a b ≡ true → a ≡ b
same_is a b e =
    let t = parts (a.serial == b.serial) (a.block == b.block) e in
    let s : a.serial ≡ b.serial = eqb-true a.serial b.serial t.0 in
    let k : a.block ≡ b.block = eqb-true a.block b.block t.1 in
    λ i. record { serial = s i; block = k i }

pub absent_not : (u : LentData) (hs : List HeldData) → IsAbsent u.name hs → IsHeldAs u hs → ⊥
absent_not u [] absent held = held
absent_not u (h ∷ hs) absent (inl is) = absurd (cc (absent.0, is.0))
absent_not u (h ∷ hs) absent (inr other) = absent_not u hs absent.1 other

pub absent_same : (name : CacheName) (f : HeldData → HeldData) (hs : List HeldData) → IsAbsent name hs → map (at_name name f) hs ≡ hs
absent_same name f [] absent = refl
absent_same name f (h ∷ hs) absent =
    let head : at_name name f h ≡ h = ap (λ (b : Bool). cond b (f h) h) absent.0 in
    λ i. head i ∷ absent_same name f hs absent.1 i

-- which cache a use is of, where the first has its name
pub held_cache : (u : LentData) (h : HeldData) (hs : List HeldData) → AreApart (h ∷ hs) → IsHeldAs u (h ∷ hs) → same_name h.name u.name ≡ true → u.cache ≡ h.cache
held_cache u h hs apart (inl is) same = is.1
held_cache u h hs apart (inr other) same = absurd (absent_not u hs (subst (λ (n : CacheName). IsAbsent n hs) (same_is h.name u.name same) apart.0) other)

-- only the first changes, where it has the name
pub first_changes : (name : CacheName) (f : HeldData → HeldData) (h : HeldData) (hs : List HeldData) → AreApart (h ∷ hs) → same_name h.name name ≡ true → map (at_name name f) (h ∷ hs) ≡ f h ∷ hs
first_changes name f h hs apart same =
    let head : at_name name f h ≡ f h = ap (λ (b : Bool). cond b (f h) h) same in
    let tail : map (at_name name f) hs ≡ hs = absent_same name f hs (subst (λ (n : CacheName). IsAbsent n hs) (same_is h.name name same) apart.0) in
    λ i. head i ∷ tail i

-- one look further at what goes
at_end : {X : Type 0} (front : List X) (b : X) (bs : List X) (d : X) → get_or (front ++ b ∷ bs) (length front) d ≡ b
at_end [] b bs d = refl
at_end (x ∷ front) b bs d = at_end front b bs d

module _ (old : List HeldData) (at : ℕ) (items : List HeldCache) where
  there : (so : GoneSo old at items) → at < length items → (b : HeldCache) × (bs : List HeldCache) × (so.back ≡ b ∷ bs)
  there so low = by so.back refl
    where
      by : (l : List HeldCache) → so.back ≡ l → (b : HeldCache) × (bs : List HeldCache) × (so.back ≡ b ∷ bs)
      by [] e =
          let n : items ≡ so.front = so.items_are ∙ (ap (λ (l : List HeldCache). so.front ++ l) e ∙ append-nil so.front) in
          let k : length items ≡ at = ap (λ (l : List HeldCache). length l) n ∙ so.long in
          absurd (omega (arith, k, low))
      by (b ∷ bs) e = (b, bs, e)

  is_there : (so : GoneSo old at items) (b : HeldCache) (bs : List HeldCache) (d : HeldCache) → so.back ≡ b ∷ bs → get_or items at d ≡ b
  is_there so b bs d e =
      let is : items ≡ so.front ++ b ∷ bs = so.items_are ∙ ap (λ (l : List HeldCache). so.front ++ l) e in
      (λ i. get_or (is i) (sym so.long i) d) ∙ at_end so.front b bs d

  stays_here : (b : HeldCache) (hs : List HeldData) → nat_eq b.out 0 ≡ false → stays (held_data b ∷ hs) ≡ held_data b ∷ stays hs
  stays_here b hs e = ap (λ (t : Bool). cond t (stays hs) (held_data b ∷ stays hs)) e

  goes_here : (b : HeldCache) (hs : List HeldData) → nat_eq b.out 0 ≡ true → stays (held_data b ∷ hs) ≡ stays hs
  goes_here b hs e = ap (λ (t : Bool). cond t (stays hs) (held_data b ∷ stays hs)) e

  pub one_stays : (h : HeldCache) → GoneSo old at items → at < length items → h ≡ get_or items at h → (h.out ≡ 0 → ⊥) → GoneSo old (at + 1) items
  one_stays h so low is some =
      let t = there so low in
      let b = t.0 in
      let bs = t.1 in
      let same : h ≡ b = is ∙ is_there so b bs h t.2 in
      let out : nat_eq b.out 0 ≡ false = subst (λ (x : HeldCache). nat_eq x.out 0 ≡ false) same (grind (arith, some)) in
      record {
        front = so.front ++ b ∷ [];
        back = bs;
        items_are = so.items_are ∙ (ap (λ (l : List HeldCache). so.front ++ l) t.2 ∙ sym (append_assoc so.front (b ∷ []) bs));
        long = length_push so.front b ∙ ap (λ (n : ℕ). n + 1) so.long;
        kept = so.kept ∙ (ap (λ (l : List HeldCache). map held_data so.front ++ stays (map held_data l)) t.2
            ∙ (ap (λ (l : List HeldData). map held_data so.front ++ l) (stays_here b (map held_data bs) out)
            ∙ (sym (append_assoc (map held_data so.front) (held_data b ∷ []) (stays (map held_data bs)))
            ∙ ap (λ (l : List HeldData). l ++ stays (map held_data bs)) (sym (map-append held_data so.front (b ∷ []))))));
        whole = λ w. so.whole (subst (λ (l : List HeldCache). AreWhole (map held_data l)) (sym t.2) (λ e. absurd (cc (out, e)), w));
      }

  pub one_goes : (h : HeldCache) (left : List HeldCache) → GoneSo old at items → at < length items → h ≡ get_or items at h → h.out ≡ 0 → IsWhole (held_data h).cache (held_data h).logs → left ≡ remove items at → GoneSo old at left
  one_goes h left so low is none whole removed =
      let t = there so low in
      let b = t.0 in
      let bs = t.1 in
      let same : h ≡ b = is ∙ is_there so b bs h t.2 in
      let out : nat_eq b.out 0 ≡ true = subst (λ (x : HeldCache). nat_eq x.out 0 ≡ true) same (grind (arith, none)) in
      let items_are : items ≡ so.front ++ b ∷ bs = so.items_are ∙ ap (λ (l : List HeldCache). so.front ++ l) t.2 in
      let zeroth : at - at ≡ 0 = omega arith in
      let cut : remove (so.front ++ b ∷ bs) at ≡ so.front ++ bs = remove-append_right so.front (b ∷ bs) at at so.long (omega arith) ∙ ap (λ (n : ℕ). so.front ++ remove (b ∷ bs) n) zeroth in
      record {
        front = so.front;
        back = bs;
        items_are = removed ∙ (ap (λ (l : List HeldCache). remove l at) items_are ∙ cut);
        long = so.long;
        kept = so.kept ∙ (ap (λ (l : List HeldCache). map held_data so.front ++ stays (map held_data l)) t.2
            ∙ ap (λ (l : List HeldData). map held_data so.front ++ l) (goes_here b (map held_data bs) out));
        whole = λ w. so.whole (subst (λ (l : List HeldCache). AreWhole (map held_data l)) (sym t.2) (λ e. subst (λ (x : HeldCache). IsWhole (held_data x).cache (held_data x).logs) same whole, w));
      }

-- at the end
pub all_gone : (old : List HeldData) (at : ℕ) (items : List HeldCache) → GoneSo old at items → length items ≤ at → (map held_data items ≡ stays old) × AreWhole old
all_gone old at items so end = by so.back refl
  where
    by : (l : List HeldCache) → so.back ≡ l → (map held_data items ≡ stays old) × AreWhole old
    by [] e =
        let is : items ≡ so.front = so.items_are ∙ (ap (λ (l : List HeldCache). so.front ++ l) e ∙ append-nil so.front) in
        let kept : stays old ≡ map held_data so.front = so.kept ∙ (ap (λ (l : List HeldCache). map held_data so.front ++ stays (map held_data l)) e ∙ append-nil (map held_data so.front)) in
        (ap (λ (l : List HeldCache). map held_data l) is ∙ sym kept, so.whole (subst (λ (l : List HeldCache). AreWhole (map held_data l)) (sym e) tt))
    by (b ∷ bs) e =
        let n : length items ≡ length (so.front ++ b ∷ bs) = ap (λ (l : List HeldCache). length l) (so.items_are ∙ ap (λ (l : List HeldCache). so.front ++ l) e) in
        let k = length-append so.front (b ∷ bs) in
        let long = so.long in
        absurd (omega (arith, n, k, long, end))

-- a use that comes back changes no name
pub absent_given : (name : CacheName) (u : LentData) (hs : List HeldData) → IsAbsent name hs → IsAbsent name (given_back u hs)
absent_given name u [] absent = tt
absent_given name u (h ∷ hs) absent = both (same_name h.name u.name)
    (λ e. let head : at_name u.name (with_log u) h ≡ with_log u h = ap (λ (b : Bool). cond b (with_log u h) h) e in
    (subst (λ (x : HeldData). same_name x.name name ≡ false) (sym head) absent.0, absent_given name u hs absent.1))
    (λ e. let head : at_name u.name (with_log u) h ≡ h = ap (λ (b : Bool). cond b (with_log u h) h) e in
    (subst (λ (x : HeldData). same_name x.name name ≡ false) (sym head) absent.0, absent_given name u hs absent.1))

name_given : (u : LentData) (h : HeldData) → (at_name u.name (with_log u) h).name ≡ h.name
name_given u h = both (same_name h.name u.name)
    (λ e. ap (λ (b : Bool). (cond b (with_log u h) h).name) e)
    (λ e. ap (λ (b : Bool). (cond b (with_log u h) h).name) e)

cache_given : (u : LentData) (h : HeldData) → (at_name u.name (with_log u) h).cache ≡ h.cache
cache_given u h = both (same_name h.name u.name)
    (λ e. ap (λ (b : Bool). (cond b (with_log u h) h).cache) e)
    (λ e. ap (λ (b : Bool). (cond b (with_log u h) h).cache) e)

pub apart_given : (u : LentData) (hs : List HeldData) → AreApart hs → AreApart (given_back u hs)
apart_given u [] apart = tt
apart_given u (h ∷ hs) apart =
    (subst (λ (n : CacheName). IsAbsent n (given_back u hs)) (sym (name_given u h)) (absent_given h.name u hs apart.0), apart_given u hs apart.1)

pub held_given : (u v : LentData) (hs : List HeldData) → IsHeldAs u hs → IsHeldAs u (given_back v hs)
held_given u v [] is = absurd is
held_given u v (h ∷ hs) (inl is) =
    inl (subst (λ (n : CacheName). same_name n u.name ≡ true) (sym (name_given v h)) is.0, is.1 ∙ sym (cache_given v h))
held_given u v (h ∷ hs) (inr other) = inr (held_given u v hs other)

pub all_given : (us : List LentData) (v : LentData) (hs : List HeldData) → AllHeld us hs → AllHeld us (given_back v hs)
all_given [] v hs all = tt
all_given (u ∷ us) v hs all = (held_given u v hs all.0, all_given us v hs all.1)

pub apart_all : (us : List LentData) (hs : List HeldData) → AreApart hs → AreApart (given_all us hs)
apart_all [] hs apart = apart
apart_all (u ∷ us) hs apart = apart_all us (given_back u hs) (apart_given u hs apart)

pub all_given_all : (us vs : List LentData) (hs : List HeldData) → AllHeld us hs → AllHeld us (given_all vs hs)
all_given_all us [] hs all = all
all_given_all us (v ∷ vs) hs all = all_given_all us vs (given_back v hs) (all_given us v hs all)

pub given-append : (us vs : List LentData) (hs : List HeldData) → given_all (us ++ vs) hs ≡ given_all vs (given_all us hs)
given-append [] vs hs = refl
given-append (u ∷ us) vs hs = given-append us vs (given_back u hs)

pub held-append : (us vs : List LentData) (hs : List HeldData) → AllHeld (us ++ vs) hs → AllHeld us hs × AllHeld vs hs
held-append [] vs hs all = (tt, all)
held-append (u ∷ us) vs hs all = let t = held-append us vs hs all.1 in ((all.0, t.0), t.1)

-- the first of a list, and the others
pub first_of : {X : Type 0} (xs rest : List X) (x : X) → 0 < length xs → x ≡ get_or xs 0 x → rest ≡ remove xs 0 → xs ≡ x ∷ rest
first_of [] rest x low is cut = absurd (omega (arith, low))
first_of (y ∷ ys) rest x low is cut = λ i. sym is i ∷ sym cut i
