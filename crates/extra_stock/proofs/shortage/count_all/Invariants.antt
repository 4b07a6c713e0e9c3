use Rattle.std.proofs.Common.{◌≡◌, ◌≤◌, take}
use Rattle.extra_stock.specs.Stocks.{asked_by, is_named, seats_in}
use Rattle.extra_stock.proofs.shortage.count_all.Given as goal

abbrev pub invariant-loop-block : goal.invariant-loop-block
invariant-loop-block l = (l.count ≡ asked_by (is_named l.name) (take l.block-index l.blocks)) × (l.count ≤ seats_in (take l.block-index l.blocks))
