-- How many parts of its pool a seat has, and whether it called it.
use Rattle.std.specs.Prelude.{◌≡◌, ◌<◌, ℕ, []}
use Rattle.forward_plugin.specs.declared.pool_use.PoolUse.{PoolUse}
use Rattle.forward_plugin.specs.PoolUses.{calls_of, view_in}

abbrev pub HasParts : ℕ → PoolUse → Type 0
HasParts parts p = (view_in p).parts ≡ parts

-- more than one, so that one can be given
abbrev pub HasMore : PoolUse → Type 0
HasMore p = 1 < (view_in p).parts

-- it made no call
abbrev pub IsUncalled : PoolUse → Type 0
IsUncalled p = calls_of p ≡ []
