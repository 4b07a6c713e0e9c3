use Rattle.std.proofs.Common.{◌∙◌, sym, arith}
use Rattle.forward_plugin.specs.Forward.{forward_means, plan_means}
use Rattle.forward_plugin.proofs.CallLaws.{calls-as, nothing, renamed}
use Rattle.forward_plugin.proofs.Uses.{calls-new, calls-none, calls-old, means-none, means-some, place-alone, place-none, place-some, same-but, used-below}
use Rattle.forward_plugin.proofs.deciding.decide.Goals as goal

pub returns-in_default-clause-asks : goal.returns-in_default-clause-asks
returns-in_default-clause-asks g c =
    let place = place-none c.args.asked.now.plans.now c.args.asked.now.query.now.name c.in_default.ensures in
    calls-as (forward_means c.args.asked.now.plans.now c.args.asked.now.query.now) (calls-none _ c.args.pools.now place) (calls-none _ c.args.pools.now place)
    (nothing (forward_means c.args.asked.now.plans.now c.args.asked.now.query.now) (means-none c.args.asked.now.plans.now c.args.asked.now.query.now c.in_default.ensures))

pub offset_bounds-pools-used : goal.offset_bounds-pools-used
offset_bounds-pools-used g c =
    let below = used-below c.args.asked.now.query.now.name c.args.asked.now.plans.now 0 c.in-Some.used.plan.now c.in-Some.used.before c.in-Some.ensures (sym c.is_pooled.ensures ∙ c.if-is_pooled.true) in
    let each = c.requires.each in
    omega (arith, below, each)

pub bounds-pools-used : goal.bounds-pools-used
bounds-pools-used g c =
    let below = used-below c.args.asked.now.query.now.name c.args.asked.now.plans.now 0 c.in-Some.used.plan.now c.in-Some.used.before c.in-Some.ensures (sym c.is_pooled.ensures ∙ c.if-is_pooled.true) in
    let each = c.requires.each in
    omega (arith, below, each)

pub decide_in_pool-requires-clause-own : goal.decide_in_pool-requires-clause-own
decide_in_pool-requires-clause-own g c =
    let below = used-below c.args.asked.now.query.now.name c.args.asked.now.plans.now 0 c.in-Some.used.plan.now c.in-Some.used.before c.in-Some.ensures (sym c.is_pooled.ensures ∙ c.if-is_pooled.true) in
    let each = c.requires.each in
    c.requires.own c.in-Some.used.before c.index-pools-used.result (omega (arith, below, each))

pub returns-then-is_pooled-clause-asks : goal.returns-then-is_pooled-clause-asks
returns-then-is_pooled-clause-asks g c =
    let pooled = sym c.is_pooled.ensures ∙ c.if-is_pooled.true in
    let below = used-below c.args.asked.now.query.now.name c.args.asked.now.plans.now 0 c.in-Some.used.plan.now c.in-Some.used.before c.in-Some.ensures pooled in
    let each = c.requires.each in
    let place = place-some c.args.asked.now.plans.now c.args.asked.now.query.now.name c.in-Some.used.plan.now c.in-Some.used.before c.in-Some.ensures pooled in
    calls-as (forward_means c.args.asked.now.plans.now c.args.asked.now.query.now)
    (calls-old _ c.args.pools.now c.in-Some.used.before c.index-pools-used.result place (omega (arith, below, each)))
    (calls-new _ c.args.pools.now c.in-Some.used.before c.decide_in_pool.new.pool place (omega (arith, below, each)))
    (renamed (plan_means c.in-Some.used.plan.now c.args.asked.now.query.now) (forward_means c.args.asked.now.plans.now c.args.asked.now.query.now)
    (means-some c.args.asked.now.plans.now c.args.asked.now.query.now c.in-Some.used.plan.now c.in-Some.used.before c.in-Some.ensures) c.decide_in_pool.ensures.asks)

pub returns-then-is_pooled-clause-others : goal.returns-then-is_pooled-clause-others
returns-then-is_pooled-clause-others g c =
    let pooled = sym c.is_pooled.ensures ∙ c.if-is_pooled.true in
    let place = place-some c.args.asked.now.plans.now c.args.asked.now.query.now.name c.in-Some.used.plan.now c.in-Some.used.before c.in-Some.ensures pooled in
    let below = used-below c.args.asked.now.query.now.name c.args.asked.now.plans.now 0 c.in-Some.used.plan.now c.in-Some.used.before c.in-Some.ensures pooled in
    let each = c.requires.each in
    same-but _ c.args.pools.now c.in-Some.used.before c.index-pools-used.result c.decide_in_pool.new.pool place (omega (arith, below, each)) c.decide_in_pool.ensures.uses

pub returns-clause-asks : goal.returns-clause-asks
returns-clause-asks g c =
    let alone = sym c.is_pooled.ensures ∙ c.if-is_pooled.false in
    let place = place-alone c.args.asked.now.plans.now c.args.asked.now.query.now.name c.in-Some.used.plan.now c.in-Some.used.before c.in-Some.ensures alone in
    calls-as (forward_means c.args.asked.now.plans.now c.args.asked.now.query.now) (calls-none _ c.args.pools.now place) (calls-none _ c.args.pools.now place)
    (renamed (plan_means c.in-Some.used.plan.now c.args.asked.now.query.now) (forward_means c.args.asked.now.plans.now c.args.asked.now.query.now)
    (means-some c.args.asked.now.plans.now c.args.asked.now.query.now c.in-Some.used.plan.now c.in-Some.used.before c.in-Some.ensures) c.decide_alone.ensures.asks)
