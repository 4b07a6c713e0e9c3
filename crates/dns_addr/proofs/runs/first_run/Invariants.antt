use Rattle.std.proofs.Common.{◌≡◌, ◌+◌, drop}
use Rattle.dns_addr.specs.AddrText.{first_run, longest}
use Rattle.dns_addr.proofs.runs.first_run.Given as goal

abbrev pub invariant-loop-at : goal.invariant-loop-at
invariant-loop-at l = record {
  value : first_run l.size l.groups ≡ l.at + first_run l.size (drop l.at l.groups);
  longest : l.size ≡ longest (drop l.at l.groups);
}
