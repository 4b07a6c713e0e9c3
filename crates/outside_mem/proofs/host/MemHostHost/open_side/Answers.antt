use Rattle.outside_mem.specs.Unused.{IsNewSide}
use Rattle.outside_mem.proofs.Lists.{all_rest}
use Rattle.outside_mem.proofs.host.MemHostHost.open_side.Goals as goal

pub invariant_of-self-clause-sides_new : goal.invariant_of-self-clause-sides_new
invariant_of-self-clause-sides_new c = all_rest IsNewSide c.in-Some.ensures.cases.0 c.args.self.now.sides_new
