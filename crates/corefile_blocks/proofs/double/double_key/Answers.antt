use Rattle.std.proofs.Common.{◌+◌, ◌++◌, List, arith, drop, subst, sym}
use Rattle.dns_data.specs.declared.block.BlockKey.{BlockKey}
use Rattle.corefile_blocks.specs.Keys.{double_key, keys_of}
use Rattle.corefile_blocks.proofs.IndexLemmas.{HasRead, found_double, read_all, read_block, read_key, read_keys, read_none}
use Rattle.corefile_blocks.proofs.double.double_key.Goals as goal

pub loop-block-init : goal.loop-block-init
loop-block-init c = read_none c.in_ok-before.before c.args.blocks.now c.in_ok-before.ensures

pub loop-key-init : goal.loop-key-init
loop-key-init c =
    let blocks = c.args.blocks.now in
    let i = c.loop-block.block-index in
    subst (λ (ks : List BlockKey). HasRead c.loop-block.before (drop 0 ks ++ keys_of (drop (i + 1) blocks)) (double_key blocks)) (sym c.as_slice-key-items.ensures)
    (read_block c.loop-block.before blocks i c.block-item.result (double_key blocks) c.loop-block-test.true c.block-item.is c.loop-block.invariant)

pub returns-then-has : goal.returns-then-has
returns-then-has c =
    found_double c.loop-key.before c.as_slice-key-items.result.now (keys_of (drop (c.loop-block.block-index + 1) c.args.blocks.now)) c.loop-key.key-index c.key-item.result
    (double_key c.args.blocks.now) c.has.result c.loop-key-test.true c.key-item.is c.has.ensures c.if-has.true c.loop-key.invariant

pub loop-key-preserved : goal.loop-key-preserved
loop-key-preserved c =
    read_key c.loop-key.before c.in_ok-before-2.before c.as_slice-key-items.result.now (keys_of (drop (c.loop-block.block-index + 1) c.args.blocks.now)) c.loop-key.key-index c.key-item.result
    (double_key c.args.blocks.now) c.has.result c.loop-key-test.true c.key-item.is c.has.ensures c.if-has.false c.in_ok-before-2.ensures c.loop-key.invariant

pub loop-block-preserved : goal.loop-block-preserved
loop-block-preserved c =
    read_keys c.loop-key.before c.as_slice-key-items.result.now (keys_of (drop (c.loop-block.block-index + 1) c.args.blocks.now)) c.loop-key.key-index (double_key c.args.blocks.now)
    (omega arith) c.loop-key.invariant

pub returns : goal.returns
returns c = read_all c.loop-block.before c.args.blocks.now c.loop-block.block-index (double_key c.args.blocks.now) (omega arith) c.loop-block.invariant
