use Rattle.std.proofs.Common.{◌≡◌, take, drop}
use Rattle.corefile_blocks.specs.Keys.{cut_at_commas}
use Rattle.corefile_blocks.proofs.KeyLemmas.{front_first}
use Rattle.corefile_blocks.proofs.keys.first_piece.Given as goal

abbrev pub invariant-loop-at : goal.invariant-loop-at
invariant-loop-at l = cut_at_commas l.text ≡ front_first (take l.at l.text) (cut_at_commas (drop l.at l.text))
