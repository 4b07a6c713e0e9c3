use Rattle.std.proofs.Common.{take}
use Rattle.std.specs.List.{AllByRecursion}
use Rattle.dns_data.specs.Record.{IsProper}
use Rattle.dns_write.proofs.plan.are_proper.Given as goal

abbrev pub invariant-loop-entry : goal.invariant-loop-entry
invariant-loop-entry l = AllByRecursion IsProper (take l.entry-index l.records)
