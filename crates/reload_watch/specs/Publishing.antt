-- What a watcher's publisher knows behind its calls.
use Rattle.std.specs.Prelude.{◌≡◌, ◌+◌, ℕ, List, [], ◌∷◌, ◌++◌}
use Rattle.std.specs.List.{sum_by}
use Rattle.pin_table.specs.declared.views.Plan.{Plan}
use Rattle.pin_table.specs.{count_of, standing}

-- nothing was published, and no pass came back
pub record KeepsPast {C : Type 0} (before after : Plan C) : Type 0 where
  pub past : after.past ≡ before.past
  pub workers : after.workers ≡ before.workers
  pub joined : after.joined ≡ before.joined

-- these chains were published and stand in the table, no slot was swept, no chain came home, and no
-- pass came back
pub record AddsGeneration {C : Type 0} (before : Plan C) (chains : List C) (after : Plan C)
    : Type 0 where
  pub count : count_of after ≡ count_of before + 1
  pub filled : after.past.filled ≡ before.past.filled ++ chains ∷ []
  pub stands : (f : C → ℕ) → standing f after ≡ standing f before + sum_by f chains
  pub sweeps : after.sweeps ≡ before.sweeps
  pub drains : after.drains ≡ before.drains
  pub workers : after.workers ≡ before.workers
  pub joined : after.joined ≡ before.joined
