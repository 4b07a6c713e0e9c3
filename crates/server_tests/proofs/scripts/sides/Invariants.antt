use Rattle.std.specs.List.{All}
use Rattle.outside_mem.specs.Unused.{IsUnusedSide}
use Rattle.server_tests.proofs.scripts.sides.Given as goal

abbrev pub invariant-loop-count : goal.invariant-loop-count
invariant-loop-count l = All IsUnusedSide l.sides.items
