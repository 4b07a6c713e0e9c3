use Rattle.std.specs.List.{All}
use Rattle.outside_mem.specs.Unused.{IsUnusedSide}
use Rattle.run_conformance.proofs.reports.unused_sides.Given as goal

abbrev pub invariant-loop-script : goal.invariant-loop-script
invariant-loop-script l = All IsUnusedSide l.sides.items
