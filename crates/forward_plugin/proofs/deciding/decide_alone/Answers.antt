use Rattle.std.proofs.Common.{List, false, refl, sym, ap}
use Rattle.std.specs.List.{filter}
use Rattle.outside.specs.Meanings.{onward}
use Rattle.forward_plugin.specs.declared.numbered.Numbered.{Numbered}
use Rattle.forward_plugin.specs.Forward.{start_means, is_up, order, plan_means, tries}
use Rattle.forward_plugin.specs.Options.{by_of}
use Rattle.forward_plugin.proofs.CallLaws.{behind, fails, renamed}
use Rattle.forward_plugin.specs.Laws.{tries_nothing}
use Rattle.forward_plugin.proofs.Orders.{said-err}
use Rattle.forward_plugin.proofs.Uses.{alone-as, turn_rest}
use Rattle.forward_plugin.proofs.deciding.decide_alone.Goals as goal

pub returns-in_err-start-clause-asks : goal.returns-in_err-start-clause-asks
returns-in_err-start-clause-asks g c =
    let plan = c.args.plan.now in
    let q = c.args.query.now in
    let turn = c.turn-turn.result in
    renamed (λ marks. onward (start_means turn.start c.count.result marks) (turn_rest (by_of plan q.by) q false turn.mask plan.upstreams)) (plan_means plan q)
    (alone-as plan q c.requires turn c.turn-turn.ensures.value c.count.result c.count.ensures.value (by_of plan q.by) refl)
    (fails (start_means turn.start c.count.result) (turn_rest (by_of plan q.by) q false turn.mask plan.upstreams) (said-err _ _ c.from_residual.ensures.0) c.in_err-start.ensures.asks
    (λ start. tries_nothing (by_of plan q.by) q false (order turn.mask start plan.upstreams)))

pub returns-clause-asks : goal.returns-clause-asks
returns-clause-asks g c =
    let plan = c.args.plan.now in
    let q = c.args.query.now in
    let turn = c.turn-turn.result in
    let by = c.by.result in
    renamed (λ marks. onward (start_means turn.start c.count.result marks) (turn_rest by q false turn.mask plan.upstreams)) (plan_means plan q)
    (alone-as plan q c.requires turn c.turn-turn.ensures.value c.count.result c.count.ensures.value by c.by.ensures)
    (behind (start_means turn.start c.count.result) (turn_rest by q false turn.mask plan.upstreams) c.in_ok-start.ensures.asks
    (renamed (tries by q false (filter (is_up turn.mask) c.from_on.result.now)) (turn_rest by q false turn.mask plan.upstreams c.in_ok-start.start)
    (λ left. ap (λ (o : List Numbered). tries by q false (filter (is_up turn.mask) o) left) (sym c.from_on.ensures)) c.tries.ensures.asks))
