use Rattle.stream_wire.proofs.Steps.{fills_on}
use Rattle.stream_wire.proofs.filling.fill.Goals as goal

pub loop-at-preserved : goal.loop-at-preserved
loop-at-preserved g c = fills_on _ c.loop-at.invariant c.in-Took.ensures
