use Rattle.outside_mem.proofs.SideSteps.{tells_more}
use Rattle.outside_mem.proofs.SideCalls.{now_step}
use Rattle.outside_mem.proofs.side.MemSideSide.now.Goals as goal

pub invariant_of-self-clause-tells : goal.invariant_of-self-clause-tells
invariant_of-self-clause-tells c =
    tells_more c.args.self.now.tells c.tell.ensures.told c.tell.ensures.short (now_step c.args.self.now.feed c.next-moment.ensures.value c.next-moment.ensures.used)
