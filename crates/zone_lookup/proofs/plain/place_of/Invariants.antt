use Rattle.std.proofs.Common.{◌≡◌, ◌++◌, take, drop}
use Rattle.zone_lookup.specs.Zone.{placed}
use Rattle.zone_lookup.proofs.plain.place_of.Given as goal

abbrev pub invariant-loop-i : goal.invariant-loop-i
invariant-loop-i l = placed l.entry l.sorted ≡ take l.i l.sorted ++ placed l.entry (drop l.i l.sorted)
