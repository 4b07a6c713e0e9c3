use Rattle.outside_mem.proofs.SideCalls.{told_mark, quiet_handed}
use Rattle.outside_mem.proofs.WatchSteps.{watch_tells_more, noted_step}
use Rattle.outside_mem.proofs.watch.MemWatchWatch.note.Goals as goal

pub invariant_of-self-clause-tells : goal.invariant_of-self-clause-tells
invariant_of-self-clause-tells c =
    watch_tells_more c.args.self.now.tells (told_mark c.watch_noted-mark.result c.tell.ensures.told c.watch_noted-mark.ensures) c.tell.ensures.short (noted_step c.args.self.now.feed c.args.line.now c.hand_out-wrote.result c.hand_out-wrote.ensures.went c.hand_out-wrote.ensures.calls)

pub invariant_of-self-clause-quiet_notes : goal.invariant_of-self-clause-quiet_notes
invariant_of-self-clause-quiet_notes c =
    rw (c.hand_out-wrote.ensures.calls, c.hand_out-wrote.ensures.faults) (quiet_handed c.args.self.now.feed.note _ c.hand_out-wrote.result c.hand_out-wrote.ensures.went c.args.self.now.quiet_notes)
