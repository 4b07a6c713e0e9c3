-- Which caches a run holds once its first chains are built. This server's own rule.
use Rattle.std.specs.Prelude.{◌≡◌, ℕ, List, []}
use Rattle.chain_build.specs.{PlansData}
use Rattle.chain_build.specs.Lending.{chain_names}
use Rattle.chain_build.specs.Naming.{IsNone}
use Rattle.chain_build.specs.declared.naming.Naming.{Naming}
use Rattle.lent_caches.specs.Building.{lent_times}
use Rattle.lent_caches.specs.Held.{HeldData}
use Rattle.reload_watch.specs.Naming.{NamesNext}

-- the first plans serve with these caches: each block with a cache begins with one of its own
pub record BeginsCaches (plans first : PlansData) (held : List HeldData) : Type 0 where
  pub naming : Naming
  pub none : IsNone naming.before
  pub serial : naming.serial ≡ 0
  pub names : NamesNext naming plans first [] held

-- and uses of them were lent to so many workers
pub record LendsFirst (plans first : PlansData) (workers : ℕ) (held : List HeldData) : Type 0
  where
    pub fresh : List HeldData
    pub begins : BeginsCaches plans first fresh
    pub lent : held ≡ lent_times workers (chain_names first.chains) fresh
