-- Caches that are held under their names, and uses that are given back the last one first.
use Rattle.std.proofs.Common.{◌≡◌, inl, inr, ℕ, zero, suc, ◌+◌, ◌<◌, true, List, [], ◌∷◌, ◌++◌, refl, sym, ap, ◌∙◌, subst, arith}
use Rattle.lent_caches.specs.declared.name.CacheName.{CacheName}
use Rattle.lent_caches.specs.Names.{same_name}
use Rattle.lent_caches.specs.Building.{CanLendEach, CanLendTimes, lent_times}
use Rattle.lent_caches.specs.Held.{AreApart, HeldData, IsAbsent, IsHeldAs, LentData, lent_one}
use Rattle.lent_caches.specs.Ledger.{AllHeld, IsNamed, lent_each}
use Rattle.lent_caches.specs.Named.{IsHeldBy, NamedData}
use Rattle.lent_caches.specs.ApartLaws.{absent_not, same_is}
use Rattle.lent_caches.specs.LendingLaws.{apart_each, cache_lent, held_each, name_lent}

absent_by : (n : NamedData) (hs : List HeldData) → IsAbsent n.name hs → IsHeldBy n hs → ⊥
absent_by n [] absent by = by
absent_by n (h ∷ hs) absent (inl is) = absurd (cc (absent.0, is.0))
absent_by n (h ∷ hs) absent (inr other) = absent_by n hs absent.1 other

-- what is held under one name is one cache
pub held_one : (n : NamedData) (u : LentData) (hs : List HeldData) → AreApart hs → IsHeldBy n hs → IsHeldAs u hs → u.name ≡ n.name → u.cache ≡ n.cache
held_one n u [] apart by of same = absurd by
held_one n u (h ∷ hs) apart (inl b) (inl a) same = a.1 ∙ sym b.1
held_one n u (h ∷ hs) apart (inl b) (inr a) same =
    absurd (absent_not u hs (subst (λ (m : CacheName). IsAbsent m hs) (same_is h.name n.name b.0 ∙ sym same) apart.0) a)
held_one n u (h ∷ hs) apart (inr b) (inl a) same =
    absurd (absent_by n hs (subst (λ (m : CacheName). IsAbsent m hs) (same_is h.name u.name a.0 ∙ same) apart.0) b)
held_one n u (h ∷ hs) apart (inr b) (inr a) same = held_one n u hs apart.1 b a same

-- lending changes no name and no cache
pub by_lent : (n : NamedData) (m : CacheName) (hs : List HeldData) → IsHeldBy n hs → IsHeldBy n (lent_one m hs)
by_lent n m [] is = absurd is
by_lent n m (h ∷ hs) (inl is) = inl (subst (λ (k : CacheName). same_name k n.name ≡ true) (sym (name_lent m h)) is.0, is.1 ∙ sym (cache_lent m h))
by_lent n m (h ∷ hs) (inr other) = inr (by_lent n m hs other)

pub by_each : (n : NamedData) (ms : List CacheName) (hs : List HeldData) → IsHeldBy n hs → IsHeldBy n (lent_each ms hs)
by_each n [] hs is = is
by_each n (m ∷ ms) hs is = by_each n ms (lent_one m hs) (by_lent n m hs is)

pub by_more : (n : NamedData) (hs fresh : List HeldData) → IsHeldBy n hs → IsHeldBy n (hs ++ fresh)
by_more n [] fresh is = absurd is
by_more n (h ∷ hs) fresh (inl is) = inl is
by_more n (h ∷ hs) fresh (inr other) = inr (by_more n hs fresh other)

pub by_named : (n : NamedData) (hs : List HeldData) → IsHeldBy n hs → IsNamed n.name hs
by_named n [] is = is
by_named n (h ∷ hs) (inl is) = inl is.0
by_named n (h ∷ hs) (inr other) = inr (by_named n hs other)

-- the one that stands last, where no other has its name
pub by_last : (n : NamedData) (hs : List HeldData) (one : HeldData) → IsAbsent n.name hs → IsHeldBy n (hs ++ one ∷ []) → n.cache ≡ one.cache
by_last n [] one absent (inl is) = is.1
by_last n [] one absent (inr other) = absurd other
by_last n (h ∷ hs) one absent (inl is) = absurd (cc (absent.0, is.0))
by_last n (h ∷ hs) one absent (inr other) = by_last n hs one absent.1 other

-- uses were lent to one worker more
pub times_more : (k : ℕ) (ns : List CacheName) (hs : List HeldData) → lent_times (k + 1) ns hs ≡ lent_each ns (lent_times k ns hs)
times_more k ns hs = ap (λ (m : ℕ). lent_times m ns hs) one ∙ by k hs
  where
    one : k + 1 ≡ suc k
    one = omega arith

    by : (k : ℕ) (hs : List HeldData) → lent_times (suc k) ns hs ≡ lent_each ns (lent_times k ns hs)
    by zero hs = refl
    by (suc k) hs = by k (lent_each ns hs)

-- and can be to one of so many that has none yet
pub can_next : (k many : ℕ) (ns : List CacheName) (hs : List HeldData) → k < many → CanLendTimes many ns hs → CanLendEach ns (lent_times k ns hs)
can_next k zero ns hs less can = absurd (omega (arith, less))
can_next zero (suc many) ns hs less can = can.0
can_next (suc k) (suc many) ns hs less can = can_next k many ns (lent_each ns hs) (omega (arith, less)) can.1

pub apart_times : (k : ℕ) (ns : List CacheName) (hs : List HeldData) → AreApart hs → AreApart (lent_times k ns hs)
apart_times zero ns hs apart = apart
apart_times (suc k) ns hs apart = apart_times k ns (lent_each ns hs) (apart_each ns hs apart)

pub by_times : (n : NamedData) (k : ℕ) (ns : List CacheName) (hs : List HeldData) → IsHeldBy n hs → IsHeldBy n (lent_times k ns hs)
by_times n zero ns hs is = is
by_times n (suc k) ns hs is = by_times n k ns (lent_each ns hs) (by_each n ns hs is)

pub all_each : (us : List LentData) (ns : List CacheName) (hs : List HeldData) → AllHeld us hs → AllHeld us (lent_each ns hs)
all_each [] ns hs all = tt
all_each (u ∷ us) ns hs all = (held_each u ns hs all.0, all_each us ns hs all.1)
