use Rattle.std.proofs.Common.{◌≡◌, ◌++◌, length, option_map}
use Rattle.record_text.specs.Strings.{hex_of}
use Rattle.record_text.proofs.hex.decoded.Given as goal

abbrev pub invariant-loop-high : goal.invariant-loop-high
invariant-loop-high l = option_map (λ others. l.bytes ++ others) (hex_of l.rest) ≡ hex_of l.digits

abbrev pub decreases-loop-high : goal.decreases-loop-high
decreases-loop-high l = length l.rest
