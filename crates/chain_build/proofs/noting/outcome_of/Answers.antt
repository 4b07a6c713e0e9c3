use Rattle.std.proofs.Common.{◌≡◌, ap, ◌∙◌, subst, sym}
use Rattle.plain_plugins.specs.declared.lines.LogOutcome.TheVariants as outcome
use Rattle.chain_meaning.specs.Mean.{outcome_of}
use Rattle.chain_build.specs.Giving.{decision_in, hit_entry}
use Rattle.chain_build.specs.declared.given.Given.{Given}
use Rattle.chain_build.proofs.Givings.{aged_rcode}
use Rattle.chain_build.proofs.noting.outcome_of.Goals as goal

pub returns-in-Hit : goal.returns-in-Hit
returns-in-Hit c =
    let hit = c.in-Hit.hit in
    subst (λ (x : Given). outcome.Rcode c.rcode_of.result ≡ outcome_of (decision_in x c.args.slot.now)) (sym c.in-Hit.is)
    (ap outcome.Rcode (c.rcode_of.ensures ∙ ap (λ e. e.answer.rcode) c.deref.ensures ∙ aged_rcode hit.plan.now (hit_entry hit) hit.moment))
