use Rattle.std.proofs.Common.{◌≡◌, ◌≤◌, ◌-◌, ◌++◌, length, option_map}
use Rattle.dns_addr.specs.AddrText.{groups_of}
use Rattle.dns_addr.proofs.v6.read_groups.Given as goal

abbrev pub invariant-loop-piece : goal.invariant-loop-piece
invariant-loop-piece l = record {
  few : length l.groups ≤ 8;
  says : groups_of l.tail 8 l.text ≡ option_map (λ others. l.groups ++ others) (groups_of l.tail (8 - length l.groups) l.rest);
}

abbrev pub decreases-loop-piece : goal.decreases-loop-piece
decreases-loop-piece l = length l.rest
