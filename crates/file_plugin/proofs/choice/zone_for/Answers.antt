use Rattle.std.proofs.Common.{option_map, sym, ap, subst, flat_map, ◌∙◌, arith}
use Rattle.std.proofs.lemmas.List.{drop_all}
use Rattle.file_plugin.specs.Choosing.{Picks}
use Rattle.file_plugin.specs.ChoosingLaws.{longest-picks}
use Rattle.file_plugin.specs.Zones.{served_of, longest_of}
use Rattle.file_plugin.proofs.choice.zone_for.Goals as goal

pub returns-clause-picks : goal.returns-clause-picks
returns-clause-picks c =
    let all = drop_all c.loop-plan.plan-index c.args.plans.now (omega arith) in
    let is = ap (longest_of c.args.name.now (option_map (λ zone. zone.now) c.loop-plan.best)) (sym all) ∙ c.loop-plan.invariant in
    subst (Picks c.args.name.now (flat_map served_of c.args.plans.now)) (sym is) (longest-picks c.args.name.now c.args.plans.now)
