use Rattle.std.proofs.Common.{List, ◌++◌, take}
use Rattle.dns_data.specs.Record.{RecordData}
use Rattle.dns_data.specs.declared.zone.Zone.{Zone}
use Rattle.zone_tree.specs.Marks.{AreMarked}
use Rattle.zone_tree.proofs.marks.mark_all.Given as goal

abbrev pub invariant-loop-record : goal.invariant-loop-record
invariant-loop-record l = (zone : Zone) (there : List RecordData) → AreMarked l.table zone there l.fn.marks → AreMarked l.table zone (there ++ take l.record-index l.records) l.marks
