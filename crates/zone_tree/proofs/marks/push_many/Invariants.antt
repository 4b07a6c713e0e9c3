use Rattle.std.proofs.Common.{◌≡◌, ◌++◌, drop}
use Rattle.zone_lookup.specs.ZoneAnswer.{with_hosts}
use Rattle.zone_tree.specs.Marks.{AreMarked}
use Rattle.zone_tree.proofs.marks.push_many.Given as goal

abbrev pub invariant-loop-record : goal.invariant-loop-record
invariant-loop-record l = AreMarked l.tree.table l.tree.zone (l.answer ++ l.out) l.marks
    × (with_hosts l.tree.zone l.answer l.out (drop l.record-index l.records) ≡ with_hosts l.tree.zone l.answer l.fn.out l.records)
