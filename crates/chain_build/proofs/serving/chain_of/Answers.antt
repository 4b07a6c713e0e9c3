use Rattle.std.proofs.Common.{◌≡◌, Some, map, option_map, slice_get, sym, ap, subst, ◌∙◌}
use Rattle.std.specs.Prelude.{option_and_then}
use Rattle.plugin_api.specs.{IsIndexOf, picked}
use Rattle.chain_meaning.specs.Steps.{steps_of}
use Rattle.chain_build.specs.Plans.{PlansData, extras_in, steps_in}
use Rattle.chain_build.proofs.Served.{by_number, extras_at, calls_by_number}
use Rattle.chain_build.proofs.serving.chain_of.Goals as goal

pub returns-clause-steps : goal.returns-clause-steps
returns-clause-steps g c =
    let said = g.B.Rulebook.said in
    let index = subst (λ (p : PlansData). IsIndexOf c.plans.inside.index p.blocks) c.plans.view_is c.plans.invariant.index in
    let chains = subst (λ (p : PlansData). map (steps_in said) c.plans.inside.chains ≡ map (steps_of said p.bundle.files) p.blocks) c.plans.view_is c.plans.invariant.chains in
    let found : Some c.in_ok-number.field-0 ≡ picked c.args.plans.now.blocks c.args.query.now.local c.args.query.now.name = sym c.in_ok-number.was ∙ c.find.ensures c.args.plans.now.blocks index in
    sym (ap (option_map (steps_in said)) c.at.ensures) ∙ by_number said c.args.plans.now.bundle.files c.plans.inside.chains c.args.plans.now.blocks c.in_ok-number.field-0 chains
    ∙ ap (λ o. option_map (steps_of said c.args.plans.now.bundle.files) (option_and_then (slice_get c.args.plans.now.blocks) o)) found

pub returns-clause-extras : goal.returns-clause-extras
returns-clause-extras g c =
    let extras = subst (λ (p : PlansData). p.extras ≡ map extras_in c.plans.inside.chains) c.plans.view_is c.plans.invariant.extras in
    extras_at c.plans.inside.chains c.args.plans.now.extras c.in_ok-number.field-0 c.at.result.now extras c.at.ensures

pub returns-clause-chain : goal.returns-clause-chain
returns-clause-chain g c =
    let n = c.in_ok-number.field-0 in
    let chain = c.at.result.now in
    subst (λ (p : PlansData). slice_get p.chains n ≡ Some chain) c.plans.view_is c.at.ensures

pub returns-clause-calls : goal.returns-clause-calls
returns-clause-calls g c =
    let said = g.B.Rulebook.said in
    let index = subst (λ (p : PlansData). IsIndexOf c.plans.inside.index p.blocks) c.plans.view_is c.plans.invariant.index in
    let chains = subst (λ (p : PlansData). map (steps_in said) c.plans.inside.chains ≡ map (steps_of said p.bundle.files) p.blocks) c.plans.view_is c.plans.invariant.chains in
    let found : Some c.in_ok-number.field-0 ≡ picked c.args.plans.now.blocks c.args.query.now.local c.args.query.now.name = sym c.in_ok-number.was ∙ c.find.ensures c.args.plans.now.blocks index in
    calls_by_number said c.args.plans.now.bundle.files c.plans.inside.chains c.args.plans.now.blocks c.in_ok-number.field-0 c.at.result.now c.args.query.now chains c.at.ensures (sym found)
