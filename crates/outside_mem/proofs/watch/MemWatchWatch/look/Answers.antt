use Rattle.outside_mem.proofs.WatchSteps.{watch_tells_more, look_step, end_step}
use Rattle.outside_mem.proofs.watch.MemWatchWatch.look.Goals as goal

pub invariant_of-self-clause-tells : goal.invariant_of-self-clause-tells
invariant_of-self-clause-tells c =
    watch_tells_more c.args.self.now.tells c.tell.ensures.told c.tell.ensures.short (look_step c.args.interval c.args.jitter c.in-Look.ensures)

pub invariant_of-self-in-End-clause-tells : goal.invariant_of-self-in-End-clause-tells
invariant_of-self-in-End-clause-tells c =
    watch_tells_more c.args.self.now.tells c.tell-in-End.ensures.told c.tell-in-End.ensures.short (end_step c.in-End.ensures)
