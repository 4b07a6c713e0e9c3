use Rattle.std.proofs.Common.{◌≡◌, ◌+◌, drop, option_map}
use Rattle.corefile_blocks.specs.Keys.{scheme_at}
use Rattle.corefile_blocks.proofs.keys.scheme_at.Given as goal

abbrev pub invariant-loop-at : goal.invariant-loop-at
invariant-loop-at l = scheme_at l.text ≡ option_map (λ at. l.at + at) (scheme_at (drop l.at l.text))
