use Rattle.pin_soak.specs.Keepers.{IsKeeping}
use Rattle.pin_soak.proofs.keeper.keep.Given as goal

abbrev pub invariant-loop : goal.invariant-loop
invariant-loop l = IsKeeping l.table l.keeper
