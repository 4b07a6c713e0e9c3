use Rattle.std.proofs.Common.{take}
use Rattle.plugin_api.specs.Index.{AddsKeys}
use Rattle.plugin_api.proofs.index.BlockIndex.with_keys.Given as goal

abbrev pub invariant-loop-key : goal.invariant-loop-key
invariant-loop-key l = AddsKeys l.fn.self l.index (take l.key-index l.keys) l.block
