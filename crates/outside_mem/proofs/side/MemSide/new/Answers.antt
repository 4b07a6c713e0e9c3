use Rattle.outside_mem.proofs.SideCalls.{starts}
use Rattle.outside_mem.proofs.side.MemSide.new.Goals as goal

pub invariant_of-result-clause-tells : goal.invariant_of-result-clause-tells
invariant_of-result-clause-tells c = starts c.new.ensures.unused c.new-2.ensures
