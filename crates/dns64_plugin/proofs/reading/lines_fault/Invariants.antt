use Rattle.std.proofs.Common.{◌≡◌, length}
use Rattle.dns64_plugin.specs.Reading.{lines_fault}
use Rattle.dns64_plugin.proofs.reading.lines_fault.Given as goal

abbrev pub invariant-loop-line : goal.invariant-loop-line
invariant-loop-line l = lines_fault l.seen l.rest ≡ lines_fault l.fn.before l.fn.lines

abbrev pub decreases-loop-line : goal.decreases-loop-line
decreases-loop-line l = length l.rest
