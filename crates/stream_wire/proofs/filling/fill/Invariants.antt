use Rattle.std.proofs.Common.{◌-◌, length}
use Rattle.stream_wire.proofs.Steps.{Filling}
use Rattle.stream_wire.proofs.filling.fill.Given as goal

abbrev pub invariant-loop-at : goal.invariant-loop-at
invariant-loop-at g l = Filling (g.B.ByteSource.state l.initial.source) (g.B.ByteSource.state l.source) l.buffer l.at

abbrev pub decreases-loop-at : goal.decreases-loop-at
decreases-loop-at g l = length l.buffer - l.at
