-- What the publisher has between its calls.
use Rattle.std.specs.Prelude.{◌≡◌, ℕ, []}
use Rattle.pin_table.specs.declared.table.PinTable.{PinTable}
use Rattle.pin_table.specs.{AreFilled, IsPublisherOf, plan_of}
use Rattle.pin_soak.specs.declared.chains.Chain.{Chain}
use Rattle.pin_soak.specs.declared.keeper.Keeper.{Keeper}
use Rattle.pin_soak.specs.Chains.{identity_of, log_of}

-- it is this table's, with so many workers, and no pass came back
pub record IsKeeping (table : PinTable Chain ℕ ℕ) (keeper : Keeper) : Type 0 where
  pub own : IsPublisherOf table keeper.publisher
  pub filled : AreFilled identity_of log_of 0 (plan_of keeper.publisher).past.filled
  pub workers : (plan_of keeper.publisher).workers ≡ keeper.workers
  pub joined : (plan_of keeper.publisher).joined ≡ []
