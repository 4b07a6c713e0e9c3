use Rattle.std.proofs.Common.{ℕ, List, length}
use Rattle.dns_write.specs.Tails.{Lacks}
use Rattle.dns_write.proofs.listing.list_labels.Given as goal

abbrev pub invariant-loop-label : goal.invariant-loop-label
invariant-loop-label l = record {
  rest : (label : List ℕ) → Lacks label l.labels → Lacks label l.rest → Lacks label l.name;
  kept : (label : List ℕ) → Lacks label l.labels → Lacks label l.fn.labels;
}

abbrev pub decreases-loop-label : goal.decreases-loop-label
decreases-loop-label l = length l.rest
