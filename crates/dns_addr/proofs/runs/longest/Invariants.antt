use Rattle.std.proofs.Common.{◌≡◌, max, drop}
use Rattle.dns_addr.specs.AddrText.{longest}
use Rattle.dns_addr.proofs.runs.longest.Given as goal

abbrev pub invariant-loop-at : goal.invariant-loop-at
invariant-loop-at l = longest l.groups ≡ max l.most (longest (drop l.at l.groups))
