use Rattle.std.proofs.Common.{Ok, subst, sym, refl}
use Rattle.dns_data.specs.Message.{AnswerData}
use Rattle.cache_plugin.specs.{CallsBy, state_at, use_logs}
use Rattle.cache_rules.specs.{key_of}
use Rattle.chain_meaning.specs.Caching.{kept_with}
use Rattle.chain_meaning.specs.declared.decision.Decision.TheVariants as decision
use Rattle.chain_build.specs.Walking.{decided, decision_of}
use Rattle.chain_build.specs.declared.ended.Ended.{Ended}
use Rattle.chain_build.proofs.CachedWalks.{calls_nothing, calls_starved, kept_ends}
use Rattle.chain_build.proofs.Walks.{decided-err}
use Rattle.chain_build.proofs.caching.keep_reply.Goals as goal

pub returns-in_err-copy_into-in-Lent-clause-calls :
    goal.returns-in_err-copy_into-in-Lent-clause-calls
returns-in_err-copy_into-in-Lent-clause-calls g c inner past =
    let q = c.args.asked.now.query.now in
    let v = decision_of c.args.ended c.args.room.now.slot in
    calls_starved (key_of q) (kept_with c.args.asked.now.plan.now q c.args.missed.moment inner v) (decided-err c.from_residual.result c.copy_into.new.slot c.from_residual.ensures.0) (kept_ends c.args.asked.now.plan.now q c.args.missed.moment inner v)

pub returns-in-Reply-clause-calls : goal.returns-in-Reply-clause-calls
returns-in-Reply-clause-calls g c inner past =
    let q = c.args.asked.now.query.now in
    subst (λ (e : Ended). CallsBy (key_of q) (kept_with c.args.asked.now.plan.now q c.args.missed.moment inner (decision_of e c.args.room.now.slot)) (decided c.keep_answer.result c.keep_answer.new.room.slot) (state_at (g.S.Side.state c.args.side.now) (use_logs c.args.cache.now.of)) (state_at (g.S.Side.state c.keep_answer.new.side) (use_logs c.keep_answer.new.cache.of))) (sym c.in-Reply.is)
    (c.keep_answer.ensures.calls inner past)

pub returns-in_ok-copy_into-in-Lent-clause-calls :
    goal.returns-in_ok-copy_into-in-Lent-clause-calls
returns-in_ok-copy_into-in-Lent-clause-calls g c inner past =
    let q = c.args.asked.now.query.now in
    subst (λ (e : Ended). CallsBy (key_of q) (kept_with c.args.asked.now.plan.now q c.args.missed.moment inner (decision_of e c.args.room.now.slot)) (decided c.keep_answer-in-Lent.result c.keep_answer-in-Lent.new.room.slot) (state_at (g.S.Side.state c.args.side.now) (use_logs c.args.cache.now.of)) (state_at (g.S.Side.state c.keep_answer-in-Lent.new.side) (use_logs c.keep_answer-in-Lent.new.cache.of))) (sym c.in-Lent.is)
    (subst (λ (a : AnswerData). CallsBy (key_of q) (kept_with c.args.asked.now.plan.now q c.args.missed.moment inner (decision.Reply a)) (decided c.keep_answer-in-Lent.result c.keep_answer-in-Lent.new.room.slot) (state_at (g.S.Side.state c.args.side.now) (use_logs c.args.cache.now.of)) (state_at (g.S.Side.state c.keep_answer-in-Lent.new.side) (use_logs c.keep_answer-in-Lent.new.cache.of))) c.in_ok-copy_into-in-Lent.ensures
    (c.keep_answer-in-Lent.ensures.calls inner past))

pub returns-in-Code-clause-calls : goal.returns-in-Code-clause-calls
returns-in-Code-clause-calls g c inner past =
    let q = c.args.asked.now.query.now in
    subst (λ (e : Ended). CallsBy (key_of q) (kept_with c.args.asked.now.plan.now q c.args.missed.moment inner (decision_of e c.args.room.now.slot)) (Ok (decision.Code c.in-Code.code c.in-Code.cause)) (state_at (g.S.Side.state c.args.side.now) (use_logs c.args.cache.now.of)) (state_at (g.S.Side.state c.args.side.now) (use_logs c.args.cache.now.of))) (sym c.in-Code.is)
    (calls_nothing (key_of q) (kept_with c.args.asked.now.plan.now q c.args.missed.moment inner (decision.Code c.in-Code.code c.in-Code.cause)) (λ left. refl))

pub returns-in-Drop-clause-calls : goal.returns-in-Drop-clause-calls
returns-in-Drop-clause-calls g c inner past =
    let q = c.args.asked.now.query.now in
    subst (λ (e : Ended). CallsBy (key_of q) (kept_with c.args.asked.now.plan.now q c.args.missed.moment inner (decision_of e c.args.room.now.slot)) (Ok decision.Drop) (state_at (g.S.Side.state c.args.side.now) (use_logs c.args.cache.now.of)) (state_at (g.S.Side.state c.args.side.now) (use_logs c.args.cache.now.of))) (sym c.in-Drop.is)
    (calls_nothing (key_of q) (kept_with c.args.asked.now.plan.now q c.args.missed.moment inner decision.Drop) (λ left. refl))
