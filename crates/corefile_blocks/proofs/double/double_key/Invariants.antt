use Rattle.std.proofs.Common.{◌+◌, ◌++◌, drop}
use Rattle.corefile_blocks.specs.Keys.{double_key, keys_of}
use Rattle.corefile_blocks.proofs.IndexLemmas.{HasRead}
use Rattle.corefile_blocks.proofs.double.double_key.Given as goal

abbrev pub invariant-loop-block : goal.invariant-loop-block
invariant-loop-block l = HasRead l.before (keys_of (drop l.block-index l.blocks)) (double_key l.blocks)

abbrev pub invariant-loop-key : goal.invariant-loop-key
invariant-loop-key l = HasRead l.before (drop l.key-index l.key-items ++ keys_of (drop (l.block-index + 1) l.blocks)) (double_key l.blocks)
