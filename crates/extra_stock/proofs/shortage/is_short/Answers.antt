use Rattle.std.proofs.Common.{◌≡◌, ◌∙◌, ap, nat_lt, rules, List, ℕ}
use Rattle.extra_stock.specs.Shortage.{asked}
use Rattle.extra_stock.specs.Stocks.{is_named, names_weigh}
use Rattle.extra_stock.specs.ShortageLaws.{short-is}
use Rattle.extra_stock.proofs.shortage.is_short.Goals as goal

pub returns : goal.returns
returns g c =
    let name : c.as_bytes.result.now ≡ c.args.directive.now.name = search rules in
    c.is_few-few.ensures ∙ ap (λ (n : List ℕ). nat_lt (names_weigh g.E.Extra.title (is_named n) c.args.spare.now) (asked c.args.workers c.args.blocks.now n)) name
    ∙ short-is c.args.workers c.args.blocks.now (λ n. names_weigh g.E.Extra.title (is_named n) c.args.spare.now) c.args.directive.now
