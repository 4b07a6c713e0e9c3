use Rattle.std.proofs.Common.{◌≡◌, ◌∙◌, sym, true, false}
use Rattle.extra_stock.specs.Shortage.{is_short}
use Rattle.extra_stock.specs.Stocks.{is_named, names_weigh}
use Rattle.extra_stock.specs.ShortageLaws.{first_here, first_next}
use Rattle.extra_stock.proofs.shortage.short_in.Goals as goal

pub returns-then-is_short : goal.returns-then-is_short
returns-then-is_short g c =
    let p = is_short c.args.workers c.args.blocks.now (λ n. names_weigh g.E.Extra.title (is_named n) c.args.spare.now) in
    let met : p c.directive-item.result ≡ true = sym c.is_short.ensures ∙ c.if-is_short.true in
    sym (sym c.loop-directive.invariant ∙ first_here p c.args.directives.now c.loop-directive.directive-index c.directive-item.result c.loop-directive-test.true c.directive-item.is met)

pub loop-directive-preserved : goal.loop-directive-preserved
loop-directive-preserved g c =
    let p = is_short c.args.workers c.args.blocks.now (λ n. names_weigh g.E.Extra.title (is_named n) c.args.spare.now) in
    let passed : p c.directive-item.result ≡ false = sym c.is_short.ensures ∙ c.if-is_short.false in
    first_next p c.args.directives.now c.loop-directive.directive-index c.directive-item.result c.loop-directive-test.true c.directive-item.is passed ∙ c.loop-directive.invariant
