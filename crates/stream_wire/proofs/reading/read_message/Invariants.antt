use Rattle.std.proofs.Common.{◌-◌, length}
use Rattle.stream_wire.proofs.Steps.{Reading}
use Rattle.stream_wire.proofs.reading.read_message.Given as goal

abbrev pub invariant-loop-bytes : goal.invariant-loop-bytes
invariant-loop-bytes g l = Reading (g.B.ByteSource.state l.initial.source) (g.B.ByteSource.state l.source) l.bytes.items l.size

abbrev pub decreases-loop-bytes : goal.decreases-loop-bytes
decreases-loop-bytes g l = l.size - length l.bytes.items
