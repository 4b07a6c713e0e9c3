use Rattle.std.proofs.Common.{◌≡◌, Option, rules, subst}
use Rattle.std.specs.Arc.{arc_value}
use Rattle.extra_stock.specs.{is_named, names_weigh}
use Rattle.extra_stock.specs.Shortage.{SaysShort}
use Rattle.extra_stock.specs.declared.shortage.Short.{Short}
use Rattle.extra_stock.specs.ShortageLaws.{enough}
use Rattle.chain_build.proofs.building.build.Goals as goal

pub build_chains-requires-clause-enough : goal.build_chains-requires-clause-enough
build_chains-requires-clause-enough g c n =
    let blocks : c.as_slice.result.now ≡ (arc_value c.args.plans.now).extras = search rules in
    enough c.args.workers (arc_value c.args.plans.now).extras (λ m. names_weigh g.E.Extra.title (is_named m) c.args.stock.now.spare.items) (search rules) n

-- the first name of which the stock is short
pub returns-in-Some-clause-short : goal.returns-in-Some-clause-short
returns-in-Some-clause-short g c =
    let workers = c.args.workers in
    let title = g.E.Extra.title in
    let blocks : c.as_slice.result.now ≡ (arc_value c.args.plans.now).extras = search rules in
    let spare : c.as_slice-2.result.now ≡ c.args.stock.now.spare.items = search rules in
    let said = subst (λ (o : Option Short). SaysShort workers c.as_slice.result.now (λ n. names_weigh title (is_named n) c.as_slice-2.result.now) o) c.in-Some.is c.in_ok-short.ensures in
    rw blocks at (rw spare at said)
