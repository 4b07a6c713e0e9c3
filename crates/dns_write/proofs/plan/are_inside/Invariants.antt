use Rattle.std.proofs.Common.{take}
use Rattle.std.specs.List.{AllByRecursion}
use Rattle.dns_write.specs.Tails.{IsInside}
use Rattle.dns_write.proofs.plan.are_inside.Given as goal

abbrev pub invariant-loop-spot : goal.invariant-loop-spot
invariant-loop-spot l = AllByRecursion (IsInside l.size) (take l.spot-index l.spots)
