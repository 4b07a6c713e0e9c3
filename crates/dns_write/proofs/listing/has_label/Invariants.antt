use Rattle.std.proofs.Common.{take}
use Rattle.dns_write.specs.Tails.{Lacks}
use Rattle.dns_write.proofs.listing.has_label.Given as goal

abbrev pub invariant-loop-other : goal.invariant-loop-other
invariant-loop-other l = Lacks l.label (take l.other-index l.labels)
