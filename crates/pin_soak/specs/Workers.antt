-- What a worker has between its turns, and within one.
use Rattle.std.specs.Prelude.{◌≡◌, ℕ, true, None}
use Rattle.std.specs.Option.{is_some}
use Rattle.pin_table.specs.declared.table.PinTable.{PinTable}
use Rattle.pin_table.specs.{Follows, IsPassOf, Keeps, pass_of}
use Rattle.pin_soak.specs.declared.chains.Chain.{Chain}
use Rattle.pin_soak.specs.declared.worker.Worker.{Worker}
use Rattle.pin_soak.specs.Chains.{identity_of, log_of}

-- its pass holds no pin
pub record IsIdle (table : PinTable Chain ℕ ℕ) (worker : Worker) : Type 0 where
  pub own : IsPassOf table worker.pass
  pub number : (pass_of worker.pass).worker ≡ worker.number
  pub idle : (pass_of worker.pass).held ≡ None
  pub kept : Keeps identity_of log_of (pass_of worker.pass).turns

-- its pass holds a pin, which gave this chain
pub record IsHolding (table : PinTable Chain ℕ ℕ) (worker : Worker) (chain : Chain) : Type 0 where
  pub own : IsPassOf table worker.pass
  pub number : (pass_of worker.pass).worker ≡ worker.number
  pub held : is_some (pass_of worker.pass).held ≡ true
  pub follows : Follows identity_of log_of (pass_of worker.pass).taken chain
  pub kept : Keeps identity_of log_of (pass_of worker.pass).turns
