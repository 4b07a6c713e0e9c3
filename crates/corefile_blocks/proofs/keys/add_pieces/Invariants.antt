use Rattle.std.proofs.Common.{◌≡◌, length}
use Rattle.corefile_blocks.specs.Keys.{add_keys, pieces_of}
use Rattle.corefile_blocks.proofs.keys.add_pieces.Given as goal

abbrev pub invariant-loop-rest : goal.invariant-loop-rest
invariant-loop-rest l =
    add_keys l.port l.line l.header (pieces_of l.rest) ≡ add_keys l.port l.line l.fn.header (pieces_of l.text)

abbrev pub decreases-loop-rest : goal.decreases-loop-rest
decreases-loop-rest l = length l.rest
