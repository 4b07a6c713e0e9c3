use Rattle.std.proofs.Common.{◌≡◌, ◌+◌, drop}
use Rattle.dns_addr.specs.AddrText.{zeros}
use Rattle.dns_addr.proofs.runs.zeros.Given as goal

abbrev pub invariant-loop-group : goal.invariant-loop-group
invariant-loop-group l = record {
  value : zeros l.groups ≡ l.count + zeros (drop l.group-index l.groups);
  counted : l.count ≡ l.group-index;
}
