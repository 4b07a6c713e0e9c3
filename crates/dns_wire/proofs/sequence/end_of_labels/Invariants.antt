use Rattle.std.proofs.Common.{◌-◌}
use Rattle.dns_wire.proofs.Names.{Walked}
use Rattle.dns_wire.proofs.sequence.end_of_labels.Given as goal

abbrev pub invariant-loop-at : goal.invariant-loop-at
invariant-loop-at l = Walked l.bytes l.start l.limit l.at

abbrev pub decreases-loop-at : goal.decreases-loop-at
decreases-loop-at l = l.limit - l.at
