use Rattle.outside_mem.proofs.SideSteps.{tells_more}
use Rattle.outside_mem.proofs.SideCalls.{told_mark, asked_step, quiet_ask}
use Rattle.outside_mem.proofs.side.MemSideSide.ask.Goals as goal

pub invariant_of-self-clause-tells : goal.invariant_of-self-clause-tells
invariant_of-self-clause-tells c =
    tells_more c.args.self.now.tells (told_mark c.asked-mark.result c.tell.ensures.told c.asked-mark.ensures) c.tell.ensures.short (asked_step c.args.to.now c.args.by c.args.message.now c.ask-outcome.ensures)

pub invariant_of-self-clause-quiet_ask : goal.invariant_of-self-clause-quiet_ask
invariant_of-self-clause-quiet_ask c =
    rw c.count_outcome.ensures.faults (quiet_ask c.args.self.now.feed _ c.ask-outcome.result c.ask-outcome.ensures c.args.self.now.quiet_ask)
