use Rattle.std.proofs.Common.{rules}
use Rattle.stream_wire.proofs.Steps.{writes_on}
use Rattle.stream_wire.proofs.writing.write_all.Goals as goal

pub loop-at-preserved : goal.loop-at-preserved
loop-at-preserved g c = writes_on c.loop-at.invariant (search rules) c.in-Gave.ensures
