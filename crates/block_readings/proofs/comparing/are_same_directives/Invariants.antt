use Rattle.std.proofs.Common.{◌≡◌, drop}
use Rattle.std.specs.Cmp.Lexicographic.{pointwise}
use Rattle.block_readings.specs.Same.{same_directive}
use Rattle.block_readings.proofs.comparing.are_same_directives.Given as goal

-- what is left decides
abbrev pub invariant-loop-directive : goal.invariant-loop-directive
invariant-loop-directive l = pointwise same_directive (drop l.directive-index l.directives) l.rest ≡ pointwise same_directive l.fn.directives l.fn.others
