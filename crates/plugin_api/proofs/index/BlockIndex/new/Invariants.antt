use Rattle.std.proofs.Common.{take}
use Rattle.plugin_api.specs.Index.{IsIndexOf}
use Rattle.plugin_api.proofs.index.BlockIndex.new.Given as goal

abbrev pub invariant-loop-number : goal.invariant-loop-number
invariant-loop-number l = IsIndexOf l.index (take l.number l.blocks)
