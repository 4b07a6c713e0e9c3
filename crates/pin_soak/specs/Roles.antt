-- What each role has before and after its run.
use Rattle.std.specs.Prelude.{ℕ, List, All}
use Rattle.atomic_table.specs.Seated.{TableId}
use Rattle.pin_table.specs.declared.table.PinTable.{PinTable}
use Rattle.pin_table.specs.declared.passes.Pass.{Pass}
use Rattle.pin_table.specs.{AreIdle, Keeps, views_of}
use Rattle.pin_soak.specs.declared.chains.Chain.{Chain}
use Rattle.pin_soak.specs.declared.soaking.Role.{Role}
use Rattle.pin_soak.specs.declared.soaking.Role.TheVariants.{Work, Keep}
use Rattle.pin_soak.specs.Chains.{identity_of, log_of}
use Rattle.pin_soak.specs.Workers.{IsIdle}
use Rattle.pin_soak.specs.Keepers.{IsKeeping}

-- a worker is idle, and the publisher keeps the table
abbrev pub IsRole : PinTable Chain ℕ ℕ → Role → Type 0
IsRole table (Work worker) = IsIdle table worker
IsRole table (Keep keeper) = IsKeeping table keeper

-- the passes came back in order of worker, none of them holds a pin, and each kept its chains
pub record AreHome (id : TableId) (passes : List (Pass Chain)) : Type 0 where
  pub idle : AreIdle id passes
  pub kept : All (λ q. Keeps identity_of log_of q.turns) (views_of passes)
