use Rattle.std.proofs.Common.{◌≡◌, drop, find}
use Rattle.extra_stock.specs.Stocks.{is_named, names_weigh}
use Rattle.extra_stock.specs.Shortage.{in_text, is_short}
use Rattle.extra_stock.proofs.shortage.first_short.Given as goal

abbrev pub invariant-loop-block : goal.invariant-loop-block
invariant-loop-block g l =
    find (is_short l.workers l.blocks (λ n. names_weigh g.E.Extra.title (is_named n) l.spare)) (in_text (drop l.block-index l.blocks)) ≡ find (is_short l.workers l.blocks (λ n. names_weigh g.E.Extra.title (is_named n) l.spare)) (in_text l.blocks)
