use Rattle.std.proofs.Common.{None, Ok, Some, ap, sym}
use Rattle.forward_plugin.specs.Taking.{said_of}
use Rattle.plugin_api.specs.declared.verdict.Cause.TheVariants as cause
use Rattle.plugin_api.specs.declared.verdict.Code.TheVariants as code
use Rattle.chain_meaning.specs.Mean.{forward_answer}
use Rattle.chain_build.specs.declared.ended.Ended.TheVariants as end
use Rattle.chain_build.proofs.LoggedWalks.{forward_starves_by, forwarded_by}
use Rattle.chain_build.proofs.back.run_forward.Goals as goal

pub returns-in_err-decide-clause-asks : goal.returns-in_err-decide-clause-asks
returns-in_err-decide-clause-asks g c =
    forward_starves_by c.args.plans.now c.args.walk.now.query.now c.in_err-decide.field-0.0 c.from_residual.result c.decide.new.slot c.args.pools.now c.decide.new.self c.from_residual.ensures.0 c.decide.ensures.others c.in_err-decide.ensures.asks

pub returns-in-Reply-clause-asks : goal.returns-in-Reply-clause-asks
returns-in-Reply-clause-asks g c =
    let slot = c.decide.new.slot in
    forwarded_by c.args.plans.now c.args.walk.now.query.now c.in_ok-decide.field-0 slot (Some end.Reply) c.args.pools.now c.decide.new.self c.decide.ensures.others c.in_ok-decide.ensures.asks (ap (λ s. Ok (forward_answer (said_of s slot))) (sym c.in-Reply.is))

pub returns-in-Next-clause-asks : goal.returns-in-Next-clause-asks
returns-in-Next-clause-asks g c =
    let slot = c.decide.new.slot in
    forwarded_by c.args.plans.now c.args.walk.now.query.now c.in_ok-decide.field-0 slot None c.args.pools.now c.decide.new.self c.decide.ensures.others c.in_ok-decide.ensures.asks (ap (λ s. Ok (forward_answer (said_of s slot))) (sym c.in-Next.is))

pub returns-in-AllFailed-clause-asks : goal.returns-in-AllFailed-clause-asks
returns-in-AllFailed-clause-asks g c =
    let slot = c.decide.new.slot in
    forwarded_by c.args.plans.now c.args.walk.now.query.now c.in_ok-decide.field-0 slot (Some (end.Code code.ServFail cause.AllUpstreams)) c.args.pools.now c.decide.new.self c.decide.ensures.others c.in_ok-decide.ensures.asks (ap (λ s. Ok (forward_answer (said_of s slot))) (sym c.in-AllFailed.is))
