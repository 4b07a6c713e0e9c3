use Rattle.std.proofs.Common.{◌≡◌, ◌+◌, ◌<◌, None, length, option_map, IfSome}
use Rattle.dns_data.specs.declared.limit.TheConstants as limits
use Rattle.record_text.specs.Ttls.{sum_of}
use Rattle.record_text.proofs.ttl.read_units.Given as goal

abbrev pub invariant-loop-byte : goal.invariant-loop-byte
invariant-loop-byte l = record {
  total : l.total < limits.TTL_END;
  number : IfSome l.number (λ n. n < limits.TTL_END);
  says : option_map (λ others. l.total + others) (sum_of l.number l.rest) ≡ sum_of None l.text;
}

abbrev pub decreases-loop-byte : goal.decreases-loop-byte
decreases-loop-byte l = length l.rest
