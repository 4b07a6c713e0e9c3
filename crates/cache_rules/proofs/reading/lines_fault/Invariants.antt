use Rattle.std.proofs.Common.{◌≡◌, length}
use Rattle.cache_rules.specs.Reading.{lines_fault, none_seen}
use Rattle.cache_rules.proofs.reading.lines_fault.Given as goal

abbrev pub invariant-loop-line : goal.invariant-loop-line
invariant-loop-line l = lines_fault l.seen l.rest ≡ lines_fault none_seen l.fn.lines

abbrev pub decreases-loop-line : goal.decreases-loop-line
decreases-loop-line l = length l.rest
