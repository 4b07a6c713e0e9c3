-- Uses that are lent to several workers, one worker after another.
use Rattle.std.proofs.Common.{◌≡◌, ℕ, zero, suc, ◌+◌, List, [], ◌∷◌, ◌++◌, refl, sym, ap, ◌∙◌, subst, arith}
use Rattle.lent_caches.specs.declared.name.CacheName.{CacheName}
use Rattle.lent_caches.specs.Building.{AreNewUses, lent_times}
use Rattle.lent_caches.specs.Held.{HeldData, LentData, given_all, lent_one}
use Rattle.lent_caches.specs.Ledger.{AllHeld, lent_each}
use Rattle.lent_caches.specs.LendingLaws.{held_each, undo_all, uses_back, uses_held}
use Rattle.lent_caches.specs.NamedLaws.{times_more}

-- these names, so many times over
abbrev pub copies : ℕ → List CacheName → List CacheName
copies zero names = []
copies (suc k) names = copies k names ++ names

pub copies_more : (k : ℕ) (names : List CacheName) → copies (k + 1) names ≡ copies k names ++ names
copies_more k names = let one : k + 1 ≡ suc k = omega arith in ap (λ (m : ℕ). copies m names) one

pub lent-append : (xs ys : List CacheName) (hs : List HeldData) → lent_each (xs ++ ys) hs ≡ lent_each ys (lent_each xs hs)
lent-append [] ys hs = refl
lent-append (x ∷ xs) ys hs = lent-append xs ys (lent_one x hs)

-- what building tells is what a publication asks
pub times_is : (k : ℕ) (names : List CacheName) (hs : List HeldData) → lent_times k names hs ≡ lent_each (copies k names) hs
times_is zero names hs = refl
times_is (suc k) names hs =
    let one : suc k ≡ k + 1 = omega arith in
    ap (λ (m : ℕ). lent_times m names hs) one
    ∙ (times_more k names hs ∙ (ap (λ (l : List HeldData). lent_each names l) (times_is k names hs) ∙ sym (lent-append (copies k names) names hs)))

-- lending changes no name and no cache of a use that is new
pub new_back : (ms ns : List CacheName) (us : List LentData) (hs : List HeldData) → AreNewUses ms (lent_each ns hs) us → AreNewUses ms hs us
new_back ms [] us hs are = are
new_back ms (n ∷ ns) us hs are = uses_back ms us n hs (new_back ms ns us (lent_one n hs) are)

pub new_both : (ns ms : List CacheName) (hs : List HeldData) (us vs : List LentData) → AreNewUses ns hs us → AreNewUses ms hs vs → AreNewUses (ns ++ ms) hs (us ++ vs)
new_both [] ms hs [] vs one other = other
new_both [] ms hs (u ∷ us) vs one other = absurd one
new_both (n ∷ ns) ms hs [] vs one other = absurd one
new_both (n ∷ ns) ms hs (u ∷ us) vs one other = (one.0, new_both ns ms hs us vs one.1 other)

-- those of one worker more
pub new_more : (k : ℕ) (ns : List CacheName) (hs : List HeldData) (us vs : List LentData) → AreNewUses (copies k ns) hs us → AreNewUses ns (lent_times k ns hs) vs → AreNewUses (copies (k + 1) ns) hs (us ++ vs)
new_more k ns hs us vs one other = subst (λ (ms : List CacheName). AreNewUses ms hs (us ++ vs)) (sym (copies_more k ns))
    (new_both (copies k ns) ns hs us vs one (new_back ns (copies k ns) vs hs (subst (λ (l : List HeldData). AreNewUses ns l vs) (times_is k ns hs) other)))

-- uses that come back with no call undo their lending
pub undo_each : (ns : List CacheName) (hs : List HeldData) (us : List LentData) → AreNewUses ns hs us → AllHeld us (lent_each ns hs) × (given_all us (lent_each ns hs) ≡ hs)
undo_each ns hs us are = (uses_held ns hs (lent_each ns hs) us (λ u is. held_each u ns hs is) are, undo_all ns hs us are)

pub undo_times : (k : ℕ) (ns : List CacheName) (hs : List HeldData) (us : List LentData) → AreNewUses (copies k ns) hs us → AllHeld us (lent_times k ns hs) × (given_all us (lent_times k ns hs) ≡ hs)
undo_times k ns hs us are = subst (λ (l : List HeldData). AllHeld us l × (given_all us l ≡ hs)) (sym (times_is k ns hs)) (undo_each (copies k ns) hs us are)
