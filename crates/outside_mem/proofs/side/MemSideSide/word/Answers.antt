use Rattle.outside_mem.proofs.SideSteps.{tells_more}
use Rattle.outside_mem.proofs.SideCalls.{word_step}
use Rattle.outside_mem.proofs.side.MemSideSide.word.Goals as goal

pub invariant_of-self-clause-tells : goal.invariant_of-self-clause-tells
invariant_of-self-clause-tells c =
    tells_more c.args.self.now.tells c.tell.ensures.told c.tell.ensures.short (word_step c.args.self.now.feed c.next-word.ensures.value c.next-word.ensures.used)
