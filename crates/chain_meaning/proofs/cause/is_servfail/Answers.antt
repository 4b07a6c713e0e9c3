use Rattle.chain_meaning.specs.CauseLaws.{asked_cause, servfail_cause}
use Rattle.chain_meaning.proofs.cause.is_servfail.Goals as goal

pub returns-clause-chain : goal.returns-clause-chain
returns-clause-chain c steps q marks left is =
    let law = servfail_cause steps q marks left c.args.decision.now is in
    (λ t. law.0 (c.has_servfail.ensures.0 t), λ h. c.has_servfail.ensures.1 (law.1 h))

pub returns-clause-asked : goal.returns-clause-asked
returns-clause-asked c files blocks d asked marks left is =
    let law = asked_cause files blocks d asked marks left c.args.decision.now is in
    (λ t. law.0 (c.has_servfail.ensures.0 t), λ h. c.has_servfail.ensures.1 (law.1 h))
