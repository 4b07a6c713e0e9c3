-- What is asked and told where uses are lent. This server's own rule.
use Rattle.std.specs.Prelude.{◌≡◌, ◌<◌, ◌⊎◌, ℕ, zero, suc, ◌+◌, true, false, List, [], ◌∷◌}
use Rattle.lent_caches.specs.declared.name.CacheName.{CacheName}
use Rattle.lent_caches.specs.declared.uses.TheConstants.{PARTS}
use Rattle.lent_caches.specs.Names.{same_name}
use Rattle.lent_caches.specs.Held.{CanLend, HeldData, IsNewUse, LentData, lent_one}
use Rattle.lent_caches.specs.Ledger.{lent_each}

-- a use can be lent for each of these names, one after another
abbrev pub CanLendEach : List CacheName → List HeldData → Type 0
CanLendEach [] held = Unit {0}
CanLendEach (n ∷ ns) held = CanLend n held × CanLendEach ns (lent_one n held)

-- uses were lent to so many workers
abbrev pub lent_times : ℕ → List CacheName → List HeldData → List HeldData
lent_times zero names held = held
lent_times (suc k) names held = lent_times k names (lent_each names held)

abbrev pub CanLendTimes : ℕ → List CacheName → List HeldData → Type 0
CanLendTimes zero names held = Unit {0}
CanLendTimes (suc k) names held =
    CanLendEach names held × CanLendTimes k names (lent_each names held)

abbrev pub AreNewUses : List CacheName → List HeldData → List LentData → Type 0
AreNewUses [] held [] = Unit {0}
AreNewUses [] held (u ∷ us) = ⊥
AreNewUses (n ∷ ns) held [] = ⊥
AreNewUses (n ∷ ns) held (u ∷ us) = IsNewUse n held u × AreNewUses ns held us

-- a cache of this name is held, with more parts than so many
abbrev pub HasRoom : ℕ → CacheName → List HeldData → Type 0
HasRoom many name [] = ⊥
HasRoom many name (h ∷ hs) =
    ((same_name h.name name ≡ true) × (h.out + many < PARTS)) ⊎ HasRoom many name hs

abbrev pub HaveRoom : ℕ → List CacheName → List HeldData → Type 0
HaveRoom many [] held = Unit {0}
HaveRoom many (n ∷ ns) held = HasRoom many n held × HaveRoom many ns held

abbrev pub IsNoneOf : CacheName → List CacheName → Type 0
IsNoneOf name [] = Unit {0}
IsNoneOf name (n ∷ ns) = (same_name name n ≡ false) × IsNoneOf name ns

abbrev pub AreDistinct : List CacheName → Type 0
AreDistinct [] = Unit {0}
AreDistinct (n ∷ ns) = IsNoneOf n ns × AreDistinct ns
