use Rattle.std.proofs.Common.{length}
use Rattle.chain_trail.proofs.picking.+key_line.Given as goal

abbrev pub decreases-key_line : goal.decreases-key_line
decreases-key_line l = length l.blocks.now
