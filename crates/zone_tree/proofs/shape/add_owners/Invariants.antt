use Rattle.std.proofs.Common.{take}
use Rattle.zone_tree.specs.Tree.{AreNames, IsShape}
use Rattle.zone_tree.proofs.shape.add_owners.Given as goal

abbrev pub invariant-loop-record : goal.invariant-loop-record
invariant-loop-record l = IsShape l.table l.nodes.items × AreNames l.table (take l.record-index l.records)
