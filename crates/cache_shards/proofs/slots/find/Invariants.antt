use Rattle.std.proofs.Common.{length}
use Rattle.slot_lists.specs.Links.{walked}
use Rattle.cache_shards.specs.Slots.{IsWalk}
use Rattle.cache_shards.proofs.slots.find.Given as goal

abbrev pub invariant-loop-slot : goal.invariant-loop-slot
invariant-loop-slot l = IsWalk l.pairs l.chains.heads.items l.chains.nexts.items l.key l.at l.slot

abbrev pub decreases-loop-slot : goal.decreases-loop-slot
decreases-loop-slot l = length (walked (length l.chains.nexts.items) l.chains.nexts.items l.slot)
