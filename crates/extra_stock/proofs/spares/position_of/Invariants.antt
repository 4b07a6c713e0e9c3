use Rattle.std.proofs.Common.{◌≡◌, take}
use Rattle.extra_stock.specs.Stocks.{is_named, names_weigh}
use Rattle.extra_stock.proofs.spares.position_of.Given as goal

abbrev pub invariant-loop-index : goal.invariant-loop-index
invariant-loop-index g l = names_weigh g.E.Extra.title (is_named l.name) (take l.index l.spare) ≡ 0
