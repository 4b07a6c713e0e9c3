use Rattle.std.proofs.Common.{arith}
use Rattle.zone_lookup.proofs.PlainList.{passed, placed_here, placed_last}
use Rattle.zone_lookup.proofs.plain.place_of.Goals as goal

pub returns-then-kind-type_of-clause-value : goal.returns-then-kind-type_of-clause-value
returns-then-kind-type_of-clause-value c = placed_here c.args.entry.now c.index-sorted-i.result c.args.sorted.now c.loop-i.i c.loop-i.invariant (omega arith) c.index-sorted-i.is (omega arith)

pub loop-i-preserved : goal.loop-i-preserved
loop-i-preserved c = passed c.args.entry.now c.index-sorted-i.result c.args.sorted.now c.loop-i.i c.loop-i.invariant (omega arith) c.index-sorted-i.is (omega arith)

pub returns-clause-value : goal.returns-clause-value
returns-clause-value c = placed_last c.args.entry.now c.args.sorted.now c.loop-i.i c.loop-i.invariant (omega arith)
