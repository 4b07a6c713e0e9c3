use Rattle.std.proofs.Common.{◌≡◌, ◌+◌, drop, option_map}
use Rattle.template_plugin.specs.Pieces.{twice_at}
use Rattle.template_plugin.proofs.piece_read.twice_at.Given as goal

abbrev pub invariant-loop-at : goal.invariant-loop-at
invariant-loop-at l = twice_at l.byte l.text ≡ option_map (λ at. l.at + at) (twice_at l.byte (drop l.at l.text))
