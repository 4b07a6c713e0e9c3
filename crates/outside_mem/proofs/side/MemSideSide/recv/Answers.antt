use Rattle.outside_mem.proofs.SideSteps.{tells_more}
use Rattle.outside_mem.proofs.SideCalls.{told_mark, got_step, end_step, failed_step}
use Rattle.outside_mem.proofs.side.MemSideSide.recv.Goals as goal

pub invariant_of-self-clause-tells : goal.invariant_of-self-clause-tells
invariant_of-self-clause-tells c =
    tells_more c.args.self.now.tells (told_mark c.got-mark.result c.tell.ensures.told c.got-mark.ensures) c.tell.ensures.short (got_step c.in-Got.ensures)

pub invariant_of-self-in-End-clause-tells : goal.invariant_of-self-in-End-clause-tells
invariant_of-self-in-End-clause-tells c =
    tells_more c.args.self.now.tells c.tell-in-End.ensures.told c.tell-in-End.ensures.short (end_step c.in-End.ensures)

pub invariant_of-self-in-Failed-clause-tells : goal.invariant_of-self-in-Failed-clause-tells
invariant_of-self-in-Failed-clause-tells c =
    tells_more c.args.self.now.tells c.tell-in-Failed.ensures.told c.tell-in-Failed.ensures.short (failed_step c.in-Failed.ensures)

pub invariant_of-self-in-NoMemory-clause-tells : goal.invariant_of-self-in-NoMemory-clause-tells
invariant_of-self-in-NoMemory-clause-tells c = rw c.in-NoMemory.ensures c.args.self.now.tells

pub invariant_of-self-clause-quiet_ask : goal.invariant_of-self-clause-quiet_ask
invariant_of-self-clause-quiet_ask c = rw c.in-Got.ensures.1 c.args.self.now.quiet_ask

pub invariant_of-self-in-End-clause-quiet_ask : goal.invariant_of-self-in-End-clause-quiet_ask
invariant_of-self-in-End-clause-quiet_ask c = rw c.in-End.ensures.1 c.args.self.now.quiet_ask

pub invariant_of-self-in-Failed-clause-quiet_ask : goal.invariant_of-self-in-Failed-clause-quiet_ask
invariant_of-self-in-Failed-clause-quiet_ask c = rw c.in-Failed.ensures.1 c.args.self.now.quiet_ask

pub invariant_of-self-in-NoMemory-clause-quiet_ask : goal.invariant_of-self-in-NoMemory-clause-quiet_ask
invariant_of-self-in-NoMemory-clause-quiet_ask c = rw c.in-NoMemory.ensures c.args.self.now.quiet_ask
