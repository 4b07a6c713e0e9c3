use Rattle.std.proofs.Common.{◌≡◌, ◌+◌, drop, option_map}
use Rattle.dns_addr.specs.AddrText.{colons_at}
use Rattle.dns_addr.proofs.cut.colons_at.Given as goal

abbrev pub invariant-loop-at : goal.invariant-loop-at
invariant-loop-at l = colons_at l.text ≡ option_map (λ at. l.at + at) (colons_at (drop l.at l.text))
