use Rattle.std.proofs.Common.{◌∙◌, false, Some, None, refl, sym, ap}
use Rattle.std.specs.List.{filter}
use Rattle.outside.specs.Meanings.{onward}
use Rattle.forward_plugin.specs.Forward.{is_up, tries, try_of}
use Rattle.forward_plugin.proofs.CallLaws.{behind, fails, nothing, renamed, told-as}
use Rattle.forward_plugin.proofs.Orders.{try_answer-false, try_answer-true, onward-done, rest-nothing, rest_of, said-err, tries-end, tries-tried}
use Rattle.forward_plugin.proofs.rounds.+tries.Goals as goal

pub returns-in_default-clause-asks : goal.returns-in_default-clause-asks
returns-in_default-clause-asks g t c =
    nothing (tries c.args.round.now.by c.args.round.now.query.now false (filter (is_up c.args.round.now.mask) c.args.round.now.order.now))
    (tries-end c.args.round.now.by c.args.round.now.query.now false c.args.round.now.mask c.args.round.now.order.now c.in_default.ensures.cases)

pub returns-in_err-try_of-clause-asks : goal.returns-in_err-try_of-clause-asks
returns-in_err-try_of-clause-asks g t c =
    let others = filter (is_up c.args.round.now.mask) c.in-Some.others.now in
    let up = sym c.is_up.ensures ∙ c.if-not-is_up.false in
    renamed (λ marks. onward (try_of c.in-Some.first.now.upstream c.args.round.now.by c.args.round.now.query.now marks) (rest_of c.args.round.now.by c.args.round.now.query.now false others))
    (tries c.args.round.now.by c.args.round.now.query.now false (filter (is_up c.args.round.now.mask) c.args.round.now.order.now))
    (λ marks. tries-tried c.args.round.now.by c.args.round.now.query.now false c.args.round.now.mask c.in-Some.first.now c.in-Some.others.now c.in-Some.ensures.cases.0 up marks
    ∙ ap (λ x. onward x (rest_of c.args.round.now.by c.args.round.now.query.now false others)) (onward-done c.in-Some.first.now.number (try_of c.in-Some.first.now.upstream c.args.round.now.by c.args.round.now.query.now marks)))
    (fails (try_of c.in-Some.first.now.upstream c.args.round.now.by c.args.round.now.query.now) (rest_of c.args.round.now.by c.args.round.now.query.now false others) (said-err _ _ c.from_residual.ensures.0) c.in_err-try_of.ensures
    (λ answer. rest-nothing c.args.round.now.by c.args.round.now.query.now false others answer))

pub returns-then-branch-clause-asks : goal.returns-then-branch-clause-asks
returns-then-branch-clause-asks g t c =
    let others = filter (is_up c.args.round.now.mask) c.in-Some.others.now in
    let up = sym c.is_up.ensures ∙ c.if-not-is_up.false in
    renamed (λ marks. onward (try_of c.in-Some.first.now.upstream c.args.round.now.by c.args.round.now.query.now marks) (rest_of c.args.round.now.by c.args.round.now.query.now false others))
    (tries c.args.round.now.by c.args.round.now.query.now false (filter (is_up c.args.round.now.mask) c.args.round.now.order.now))
    (λ marks. tries-tried c.args.round.now.by c.args.round.now.query.now false c.args.round.now.mask c.in-Some.first.now c.in-Some.others.now c.in-Some.ensures.cases.0 up marks
    ∙ ap (λ x. onward x (rest_of c.args.round.now.by c.args.round.now.query.now false others)) (onward-done c.in-Some.first.now.number (try_of c.in-Some.first.now.upstream c.args.round.now.by c.args.round.now.query.now marks)))
    (behind (try_of c.in-Some.first.now.upstream c.args.round.now.by c.args.round.now.query.now) (rest_of c.args.round.now.by c.args.round.now.query.now false others) {v = Some c.try_of.new.slot}
    (told-as (try_of c.in-Some.first.now.upstream c.args.round.now.by c.args.round.now.query.now) (try_answer-true c.try_of.new.slot c.in_ok-try_of.field-0 c.if-branch.true) c.in_ok-try_of.ensures)
    (nothing (rest_of c.args.round.now.by c.args.round.now.query.now false others (Some c.try_of.new.slot)) (λ left. refl)))

pub returns-clause-asks : goal.returns-clause-asks
returns-clause-asks g t c =
    let others = filter (is_up c.args.round.now.mask) c.in-Some.others.now in
    let up = sym c.is_up.ensures ∙ c.if-not-is_up.false in
    renamed (λ marks. onward (try_of c.in-Some.first.now.upstream c.args.round.now.by c.args.round.now.query.now marks) (rest_of c.args.round.now.by c.args.round.now.query.now false others))
    (tries c.args.round.now.by c.args.round.now.query.now false (filter (is_up c.args.round.now.mask) c.args.round.now.order.now))
    (λ marks. tries-tried c.args.round.now.by c.args.round.now.query.now false c.args.round.now.mask c.in-Some.first.now c.in-Some.others.now c.in-Some.ensures.cases.0 up marks
    ∙ ap (λ x. onward x (rest_of c.args.round.now.by c.args.round.now.query.now false others)) (onward-done c.in-Some.first.now.number (try_of c.in-Some.first.now.upstream c.args.round.now.by c.args.round.now.query.now marks)))
    (behind (try_of c.in-Some.first.now.upstream c.args.round.now.by c.args.round.now.query.now) (rest_of c.args.round.now.by c.args.round.now.query.now false others) {v = None}
    (told-as (try_of c.in-Some.first.now.upstream c.args.round.now.by c.args.round.now.query.now) (try_answer-false c.try_of.new.slot c.in_ok-try_of.field-0 c.if-branch.false) c.in_ok-try_of.ensures)
    c.tries-2.ensures.asks)
