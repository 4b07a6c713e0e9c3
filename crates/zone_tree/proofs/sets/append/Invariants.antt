use Rattle.std.proofs.Common.{◌≡◌, ◌++◌, take}
use Rattle.zone_tree.proofs.sets.append.Given as goal

abbrev pub invariant-loop-record : goal.invariant-loop-record
invariant-loop-record l = l.out ≡ l.fn.out ++ take l.record-index l.records
