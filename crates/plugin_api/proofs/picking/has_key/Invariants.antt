use Rattle.std.proofs.Common.{◌≡◌, drop}
use Rattle.std.specs.List.{list_any}
use Rattle.plugin_api.specs.Picking.{is_key}
use Rattle.plugin_api.proofs.picking.has_key.Given as goal

abbrev pub invariant-loop-key : goal.invariant-loop-key
invariant-loop-key l = list_any (is_key l.port l.zone) (drop l.key-index l.block.keys) ≡ list_any (is_key l.port l.zone) l.block.keys
