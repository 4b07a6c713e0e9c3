use Rattle.std.proofs.Common.{◌≡◌, ◌≤◌, take}
use Rattle.extra_stock.specs.Stocks.{is_named, names_weigh}
use Rattle.extra_stock.proofs.shortage.count_in.Given as goal

abbrev pub invariant-loop-directive : goal.invariant-loop-directive
invariant-loop-directive l = (l.count ≡ names_weigh (λ d. d.name) (is_named l.name) (take l.directive-index l.directives)) × (l.count ≤ l.directive-index)
