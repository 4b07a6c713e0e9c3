use Rattle.std.proofs.Common.{length}
use Rattle.std.specs.Prelude.{slice_index}
use Rattle.slot_lists.specs.Links.{walked}
use Rattle.slot_lists.specs.Chained.{IsInFront}
use Rattle.slot_lists.proofs.chains.Chains.in_front.Given as goal

abbrev pub invariant-loop-at : goal.invariant-loop-at
invariant-loop-at l = IsInFront l.self.heads.items l.self.nexts.items l.at l.slot l.front

abbrev pub decreases-loop-at : goal.decreases-loop-at
decreases-loop-at l = length (walked (length l.self.nexts.items) l.self.nexts.items (slice_index l.self.nexts.items l.front))
