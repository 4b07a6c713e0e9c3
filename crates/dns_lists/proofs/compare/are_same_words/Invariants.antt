use Rattle.std.proofs.Common.{◌≡◌, ◌≤◌, ◌+◌, ◌-◌, take}
use Rattle.dns_lists.proofs.compare.are_same_words.Given as goal

abbrev pub invariant-loop-at : goal.invariant-loop-at
invariant-loop-at l = record { same : take l.at l.a ≡ take l.at l.b; inside : l.at ≤ l.last + 7 }

abbrev pub decreases-loop-at : goal.decreases-loop-at
decreases-loop-at l = l.last + 8 - l.at
