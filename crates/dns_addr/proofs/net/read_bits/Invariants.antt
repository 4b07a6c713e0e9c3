use Rattle.std.proofs.Common.{◌≡◌, ◌≤◌, drop}
use Rattle.dns_addr.specs.AddrText.{digits_from}
use Rattle.dns_addr.proofs.net.read_bits.Given as goal

abbrev pub invariant-loop-byte : goal.invariant-loop-byte
invariant-loop-byte l = record {
  small : l.number ≤ 2559;
  says : digits_from 0 l.text ≡ digits_from l.number (drop l.byte-index l.text);
}
