-- What a chain has for itself while it serves.
use Rattle.std.specs.Prelude.{◌≡◌}
use Rattle.chain_build.specs.declared.held.Held.{Held}
use Rattle.chain_build.specs.Uses.{AreUsed}
use Rattle.chain_build.specs.Plans.{PlansData}

-- it has an extra for each directive of one, and the uses of what workers share, block by block
pub record IsHeld {B E : Type 0} (plans : PlansData) (held : Held B E) : Type 0 where
  pub seated : held.seats.items ≡ plans.extras
  pub used : AreUsed plans.chains held.uses.items

-- the same chain's, behind a query
pub record IsSame {B E : Type 0} (old new : Held B E) : Type 0 where
  pub serial : new.serial ≡ old.serial
  pub worker : new.worker ≡ old.worker
