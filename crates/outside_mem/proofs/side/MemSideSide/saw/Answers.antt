use Rattle.outside_mem.proofs.SideCalls.{shown_tells}
use Rattle.outside_mem.proofs.side.MemSideSide.saw.Goals as goal

pub invariant_of-self-clause-tells : goal.invariant_of-self-clause-tells
invariant_of-self-clause-tells c =
    shown_tells c.seen-mark.result c.args.what c.args.self.now.tells c.tell.ensures.told c.seen-mark.ensures.mark c.seen-mark.ensures.shown c.tell.ensures.short
