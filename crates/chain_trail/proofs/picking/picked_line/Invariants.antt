use Rattle.std.proofs.Common.{◌≡◌, length}
use Rattle.plugin_api.specs.Picking.{longest_of}
use Rattle.chain_trail.specs.Names.{key_line}
use Rattle.chain_trail.proofs.picking.picked_line.Given as goal

abbrev pub invariant-loop-line : goal.invariant-loop-line
invariant-loop-line l = longest_of (key_line l.blocks l.port) l.rest ≡ longest_of (key_line l.blocks l.port) l.name

abbrev pub decreases-loop-line : goal.decreases-loop-line
decreases-loop-line l = length l.rest
