use Rattle.std.proofs.Common.{◌≡◌, length}
use Rattle.template_plugin.specs.Pieces.{pieces_of}
use Rattle.template_plugin.proofs.Cutting.{joined}
use Rattle.template_plugin.proofs.piece_read.read_pieces.Given as goal

abbrev pub invariant-loop-front : goal.invariant-loop-front
invariant-loop-front l = joined l.pieces (pieces_of l.rest) ≡ pieces_of l.fn.text

abbrev pub decreases-loop-front : goal.decreases-loop-front
decreases-loop-front l = length l.rest
