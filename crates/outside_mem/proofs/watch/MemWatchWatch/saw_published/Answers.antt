use Rattle.outside_mem.proofs.WatchSteps.{watch_tells_more, published_step}
use Rattle.outside_mem.proofs.watch.MemWatchWatch.saw_published.Goals as goal

pub invariant_of-self-clause-tells : goal.invariant_of-self-clause-tells
invariant_of-self-clause-tells c =
    watch_tells_more c.args.self.now.tells c.tell.ensures.told c.tell.ensures.short (published_step c.args.self.now.feed c.args.serial)
