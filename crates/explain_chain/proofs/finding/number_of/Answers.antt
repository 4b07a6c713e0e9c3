use Rattle.std.proofs.Common.{subst}
use Rattle.plugin_api.specs.{IsIndexOf}
use Rattle.chain_build.specs.Plans.{PlansData}
use Rattle.explain_chain.proofs.finding.number_of.Goals as goal

pub returns : goal.returns
returns g c =
    let index = subst (λ (p : PlansData). IsIndexOf c.plans.inside.index p.blocks) c.plans.view_is c.plans.invariant.index in
    c.find.ensures c.args.plans.now.blocks index
