use Rattle.std.proofs.Common.{◌≡◌, ◌++◌, take, drop, option_map}
use Rattle.dns_addr.specs.AddrText.{cut_once}
use Rattle.dns_addr.proofs.cut.cut_once.Given as goal

abbrev pub invariant-loop-at : goal.invariant-loop-at
invariant-loop-at l = cut_once l.byte l.text ≡ option_map (λ cut. (take l.at l.text ++ cut.0, cut.1)) (cut_once l.byte (drop l.at l.text))
