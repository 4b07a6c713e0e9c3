use Rattle.std.proofs.Common.{◌≡◌, length}
use Rattle.corefile_blocks.specs.PlacedLines.{stream_of}
use Rattle.corefile_blocks.proofs.stack.next_line.Given as goal

abbrev pub invariant-loop-frame : goal.invariant-loop-frame
invariant-loop-frame l = stream_of l.frames ≡ stream_of l.fn.frames

abbrev pub decreases-loop-frame : goal.decreases-loop-frame
decreases-loop-frame l = length l.frames
