use Rattle.std.proofs.Common.{◌≡◌, drop}
use Rattle.std.specs.Cmp.Lexicographic.{pointwise}
use Rattle.block_readings.specs.Same.{same_line}
use Rattle.block_readings.proofs.comparing.are_same_lines.Given as goal

-- what is left decides
abbrev pub invariant-loop-line : goal.invariant-loop-line
invariant-loop-line l = pointwise same_line (drop l.line-index l.lines) l.rest ≡ pointwise same_line l.fn.lines l.fn.others
