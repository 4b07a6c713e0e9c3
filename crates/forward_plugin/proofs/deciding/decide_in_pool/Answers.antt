use Rattle.std.proofs.Common.{List, true, refl, sym, ap}
use Rattle.std.specs.List.{filter}
use Rattle.outside.specs.Meanings.{onward}
use Rattle.forward_plugin.specs.declared.numbered.Numbered.{Numbered}
use Rattle.forward_plugin.specs.Forward.{start_means, is_up, order, plan_means, plan_turn, take_drawn, tries, turn_means}
use Rattle.forward_plugin.specs.Options.{by_of}
use Rattle.forward_plugin.specs.PoolUses.{calls_of}
use Rattle.forward_plugin.proofs.CallLaws.{behind, beside, fails, renamed}
use Rattle.forward_plugin.specs.Laws.{tries_nothing, turn_nothing}
use Rattle.forward_plugin.proofs.Orders.{said-err}
use Rattle.forward_plugin.proofs.Uses.{plan-as, turn-as, turn_rest}
use Rattle.forward_plugin.proofs.UseLaws.{uses_then}
use Rattle.forward_plugin.proofs.deciding.decide_in_pool.Goals as goal

pub returns-in_err-drawn-clause-asks : goal.returns-in_err-drawn-clause-asks
returns-in_err-drawn-clause-asks g c =
    let plan = c.args.plan.now in
    let q = c.args.asked.now.query.now in
    renamed (λ marks. onward (take_drawn marks) (λ drawn left. turn_means (by_of plan q.by) q true plan.upstreams (plan_turn plan drawn) left)) (plan_means plan q)
    (plan-as plan q true c.requires.pooled)
    (fails take_drawn (λ drawn left. turn_means (by_of plan q.by) q true plan.upstreams (plan_turn plan drawn) left) (said-err _ _ c.from_residual.ensures.0) c.in_err-drawn.ensures.asks
    (λ drawn. turn_nothing (by_of plan q.by) q true plan.upstreams (plan_turn plan drawn)))

pub returns-in_err-start-clause-asks : goal.returns-in_err-start-clause-asks
returns-in_err-start-clause-asks g c =
    let plan = c.args.plan.now in
    let q = c.args.asked.now.query.now in
    let turn = c.turn-turn.result in
    let drawn = c.in_ok-drawn.drawn in
    renamed (λ marks. onward (take_drawn marks) (λ drawn left. turn_means (by_of plan q.by) q true plan.upstreams (plan_turn plan drawn) left)) (plan_means plan q)
    (plan-as plan q true c.requires.pooled)
    (behind take_drawn (λ drawn left. turn_means (by_of plan q.by) q true plan.upstreams (plan_turn plan drawn) left) c.in_ok-drawn.ensures.asks
    (renamed (λ marks. onward (start_means turn.start c.count.result marks) (turn_rest (by_of plan q.by) q true turn.mask plan.upstreams))
    (λ left. turn_means (by_of plan q.by) q true plan.upstreams (plan_turn plan drawn) left)
    (turn-as plan q true drawn turn c.turn-turn.ensures.value c.count.result c.count.ensures.value (by_of plan q.by) refl)
    (fails (start_means turn.start c.count.result) (turn_rest (by_of plan q.by) q true turn.mask plan.upstreams) (said-err _ _ c.from_residual-in_err-start.ensures.0)
    (beside (calls_of c.draw.new.pool) c.in_err-start.ensures.asks)
    (λ start. tries_nothing (by_of plan q.by) q true (order turn.mask start plan.upstreams)))))

pub returns-clause-asks : goal.returns-clause-asks
returns-clause-asks g c =
    let plan = c.args.plan.now in
    let q = c.args.asked.now.query.now in
    let turn = c.turn-turn.result in
    let by = c.by.result in
    let drawn = c.in_ok-drawn.drawn in
    renamed (λ marks. onward (take_drawn marks) (λ drawn left. turn_means (by_of plan q.by) q true plan.upstreams (plan_turn plan drawn) left)) (plan_means plan q)
    (plan-as plan q true c.requires.pooled)
    (behind take_drawn (λ drawn left. turn_means (by_of plan q.by) q true plan.upstreams (plan_turn plan drawn) left) c.in_ok-drawn.ensures.asks
    (renamed (λ marks. onward (start_means turn.start c.count.result marks) (turn_rest by q true turn.mask plan.upstreams))
    (λ left. turn_means (by_of plan q.by) q true plan.upstreams (plan_turn plan drawn) left)
    (turn-as plan q true drawn turn c.turn-turn.ensures.value c.count.result c.count.ensures.value by c.by.ensures)
    (behind (start_means turn.start c.count.result) (turn_rest by q true turn.mask plan.upstreams) (beside (calls_of c.draw.new.pool) c.in_ok-start.ensures.asks)
    (renamed (tries by q true (filter (is_up turn.mask) c.from_on.result.now)) (turn_rest by q true turn.mask plan.upstreams c.in_ok-start.start)
    (λ left. ap (λ (o : List Numbered). tries by q true (filter (is_up turn.mask) o) left) (sym c.from_on.ensures)) c.tries_in_pool.ensures.asks))))

pub returns-clause-uses : goal.returns-clause-uses
returns-clause-uses g c = uses_then c.in_ok-drawn.ensures.uses c.tries_in_pool.ensures.uses
