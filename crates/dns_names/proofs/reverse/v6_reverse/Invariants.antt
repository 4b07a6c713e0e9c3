use Rattle.std.proofs.Common.{◌≡◌, ◌+◌, ◌-◌, ◌*◌, ◌++◌}
use Rattle.dns_names.specs.Name.{wire_length}
use Rattle.dns_names.specs.ReverseNames.{nibbles, ip6_arpa, v6_reverse}
use Rattle.dns_names.proofs.reverse.v6_reverse.Given as goal

abbrev pub invariant-loop-count : goal.invariant-loop-count
invariant-loop-count l = record {
  value : l.name ++ nibbles (32 - l.count) l.rest ip6_arpa ≡ v6_reverse l.addr;
  size : wire_length l.name ≡ 2 * l.count + 1;
}
