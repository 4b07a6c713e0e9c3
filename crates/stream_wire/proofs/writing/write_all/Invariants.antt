use Rattle.std.proofs.Common.{◌-◌, length}
use Rattle.stream_wire.proofs.Steps.{Writing}
use Rattle.stream_wire.proofs.writing.write_all.Given as goal

abbrev pub invariant-loop-at : goal.invariant-loop-at
invariant-loop-at g l = Writing (g.K.ByteSink.state l.initial.sink) (g.K.ByteSink.state l.sink) l.bytes l.at

abbrev pub decreases-loop-at : goal.decreases-loop-at
decreases-loop-at g l = length l.bytes - l.at
