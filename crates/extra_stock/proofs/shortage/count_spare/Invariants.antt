use Rattle.std.proofs.Common.{◌≡◌, ◌≤◌, take}
use Rattle.extra_stock.specs.Stocks.{is_named, names_weigh}
use Rattle.extra_stock.proofs.shortage.count_spare.Given as goal

abbrev pub invariant-loop-extra : goal.invariant-loop-extra
invariant-loop-extra g l = (l.count ≡ names_weigh g.E.Extra.title (is_named l.name) (take l.extra-index l.spare)) × (l.count ≤ l.extra-index)
