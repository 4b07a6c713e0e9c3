use Rattle.std.proofs.Common.{◌≡◌, length}
use Rattle.plugin_api.specs.Picking.{block_of, longest_of}
use Rattle.plugin_api.proofs.picking.pick.Given as goal

abbrev pub invariant-loop-block : goal.invariant-loop-block
invariant-loop-block l = longest_of (block_of l.blocks l.port) l.rest ≡ longest_of (block_of l.blocks l.port) l.name

abbrev pub decreases-loop-block : goal.decreases-loop-block
decreases-loop-block l = length l.rest
