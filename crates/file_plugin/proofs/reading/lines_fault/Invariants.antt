use Rattle.std.proofs.Common.{◌≡◌, false, length}
use Rattle.file_plugin.specs.Reading.{lines_fault}
use Rattle.file_plugin.proofs.reading.lines_fault.Given as goal

abbrev pub invariant-loop-line : goal.invariant-loop-line
invariant-loop-line l = lines_fault l.seen l.rest ≡ lines_fault false l.fn.lines

abbrev pub decreases-loop-line : goal.decreases-loop-line
decreases-loop-line l = length l.rest
