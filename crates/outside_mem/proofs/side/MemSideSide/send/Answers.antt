use Rattle.outside_mem.proofs.SideSteps.{tells_more}
use Rattle.outside_mem.proofs.SideCalls.{told_mark, sent_step, quiet_handed}
use Rattle.outside_mem.proofs.side.MemSideSide.send.Goals as goal

pub invariant_of-self-clause-tells : goal.invariant_of-self-clause-tells
invariant_of-self-clause-tells c =
    tells_more c.args.self.now.tells (told_mark c.sent-mark.result c.tell.ensures.told c.sent-mark.ensures) c.tell.ensures.short (sent_step c.args.self.now.feed c.args.reply.now c.hand_out-wrote.result c.hand_out-wrote.ensures.went c.hand_out-wrote.ensures.calls)

pub invariant_of-self-clause-quiet_send : goal.invariant_of-self-clause-quiet_send
invariant_of-self-clause-quiet_send c =
    rw (c.hand_out-wrote.ensures.calls, c.hand_out-wrote.ensures.faults) (quiet_handed c.args.self.now.feed.send _ c.hand_out-wrote.result c.hand_out-wrote.ensures.went c.args.self.now.quiet_send)
