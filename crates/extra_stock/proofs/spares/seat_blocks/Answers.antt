use Rattle.extra_stock.specs.Stocks.{is_named}
use Rattle.extra_stock.specs.StocksLaws.{block_left}
use Rattle.extra_stock.proofs.spares.seat_blocks.Goals as goal

pub seat_block-requires-clause-enough : goal.seat_block-requires-clause-enough
seat_block-requires-clause-enough g c n =
    rw c.as_slice.ensures (block_left g.E.Extra.title c.loop-block.spare.items c.args.spare.now.items (is_named n) c.args.blocks.now c.loop-block.block-index c.block-item.result c.loop-block-test.true c.block-item.is
    (c.loop-block.invariant.weighs (is_named n)) (c.requires.enough n))
