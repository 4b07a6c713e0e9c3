use Rattle.std.proofs.Common.{◌≡◌, drop, find}
use Rattle.extra_stock.specs.Stocks.{is_named, names_weigh}
use Rattle.extra_stock.specs.Shortage.{is_short}
use Rattle.extra_stock.proofs.shortage.short_in.Given as goal

abbrev pub invariant-loop-directive : goal.invariant-loop-directive
invariant-loop-directive g l =
    find (is_short l.workers l.blocks (λ n. names_weigh g.E.Extra.title (is_named n) l.spare)) (drop l.directive-index l.directives) ≡ find (is_short l.workers l.blocks (λ n. names_weigh g.E.Extra.title (is_named n) l.spare)) l.directives
