-- Where the chains of a table are, and which caches are held for their uses. This server's own
-- rule.
use Rattle.std.specs.Prelude.{◌≡◌, ◌<◌, ℕ, ◌+◌, List, [], ◌∷◌, ◌++◌, map, reverse}
use Rattle.std.specs.List.{All, flat_map, sum_by}
use Rattle.lent_caches.specs.declared.name.CacheName.{CacheName}
use Rattle.lent_caches.specs.declared.uses.TheConstants.{PARTS}
use Rattle.lent_caches.specs.Building.{AreDistinct}
use Rattle.lent_caches.specs.Held.{HeldData, LentData}
use Rattle.lent_caches.specs.Ledger.{AllAs, Each, IsLedger, use_names}
use Rattle.lent_caches.specs.Serials.{AreBefore}
use Rattle.pin_table.specs.declared.views.Plan.{Plan}
use Rattle.pin_table.specs.{IsOfIdentity, count_of, standing}

-- some use of a cache is out, and so many more may be
abbrev pub IsOut : ℕ → HeldData → Type 0
IsOut workers h = (0 < h.out) × (h.out + workers < PARTS)

module _ {C : Type 0} where
  -- the chains that came home, in the order in which they did
  abbrev pub home_chains : Plan C → List C
  home_chains p = map (λ d. d.chain) (reverse p.drains)

  -- all that were published, as they were filled
  abbrev pub filled_chains : Plan C → List C
  filled_chains p = flat_map (λ chains. chains) p.past.filled

module _ {C : Type 0} (lents : C → List LentData) where
  -- the uses that chains have of caches
  abbrev pub uses_in : List C → List LentData
  uses_in [] = []
  uses_in (c ∷ cs) = lents c ++ uses_in cs

  -- those of chains that came home
  abbrev pub home_uses : Plan C → List LentData
  home_uses p = uses_in (home_chains p)

  -- those that were published, and their names
  abbrev pub published_uses : Plan C → List LentData
  published_uses p = uses_in (filled_chains p)

  abbrev pub published_names : Plan C → List CacheName
  published_names p = use_names (published_uses p)

  -- the caches of which these chains have uses are all different
  abbrev pub HaveDistinct : List C → Type 0
  HaveDistinct chains = All (λ chain. AreDistinct (use_names (lents chain))) chains

module _ {C I : Type 0} (identity : C → I) where
  -- each chain that was published came home once or stands in the table, whatever of its identity
  -- is added up
  abbrev pub Balances : Plan C → Type 0
  Balances p = (f : C → ℕ) → IsOfIdentity identity f
      → sum_by f (home_chains p) + standing f p ≡ sum_by f (filled_chains p)

  -- the caches that are held are those of which some use is out, by what was published and what
  -- came home; and each published use is of the cache that is held under its name
  pub record KeepsCaches (lents : C → List LentData) (p : Plan C) (held : List HeldData) : Type 0
    where
      pub ledger : IsLedger (published_names lents p) (home_uses lents p) held
      pub alone : Each (AllAs (published_uses lents p)) held
      pub before : AreBefore (count_of p) (published_names lents p)
      pub distinct : All (HaveDistinct lents) p.past.filled
      pub balances : Balances p
