use Rattle.std.proofs.Common.{◌≡◌, drop}
use Rattle.std.specs.List.{position_from}
use Rattle.plugin_api.specs.Picking.{has_key}
use Rattle.plugin_api.proofs.picking.block_of.Given as goal

abbrev pub invariant-loop-number : goal.invariant-loop-number
invariant-loop-number l = position_from (has_key l.port l.zone) l.number (drop l.number l.blocks) ≡ position_from (has_key l.port l.zone) 0 l.blocks
