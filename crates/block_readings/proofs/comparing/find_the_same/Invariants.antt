use Rattle.std.proofs.Common.{◌≡◌, drop}
use Rattle.block_readings.specs.Readings.{names_in}
use Rattle.block_readings.specs.Same.{find_same}
use Rattle.block_readings.proofs.comparing.find_the_same.Given as goal

-- what is left decides
abbrev pub invariant-loop-directive : goal.invariant-loop-directive
invariant-loop-directive l = find_same l.files l.others (names_in (drop l.directive-index l.directives)) ≡ find_same l.fn.files l.fn.others (names_in l.fn.directives)
