use Rattle.std.proofs.Common.{◌∙◌, Bool, true, Ok, Err, refl, sym, ap}
use Rattle.std.specs.List.{filter}
use Rattle.outside.specs.Meanings.{onward}
use Rattle.forward_plugin.specs.Forward.{report_means, is_up, tries, try_of}
use Rattle.forward_plugin.specs.PoolUses.{calls_of}
use Rattle.forward_plugin.proofs.CallLaws.{behind, beside, fails, nothing, renamed, told-as}
use Rattle.forward_plugin.proofs.Orders.{answer_by, try_answer-is, is-some, reported, rest-nothing, rest_of, said-err, unreported, tries-end, tries-tried}
use Rattle.forward_plugin.proofs.UseLaws.{uses_none, uses_then}
use Rattle.forward_plugin.proofs.rounds.+tries_in_pool.Goals as goal

pub returns-in_default-clause-asks : goal.returns-in_default-clause-asks
returns-in_default-clause-asks g t c =
    nothing (tries c.args.round.now.by c.args.round.now.query.now true (filter (is_up c.args.round.now.mask) c.args.round.now.order.now))
    (tries-end c.args.round.now.by c.args.round.now.query.now true c.args.round.now.mask c.args.round.now.order.now c.in_default.ensures.cases)

pub returns-in_err-agreed-clause-asks : goal.returns-in_err-agreed-clause-asks
returns-in_err-agreed-clause-asks g t c =
    let others = filter (is_up c.args.round.now.mask) c.in-Some.others.now in
    let up = sym c.is_up.ensures ∙ c.if-not-is_up.false in
    let n = c.in-Some.first.now.number in
    renamed (λ marks. onward (onward (try_of c.in-Some.first.now.upstream c.args.round.now.by c.args.round.now.query.now marks) (report_means true n)) (rest_of c.args.round.now.by c.args.round.now.query.now true others))
    (tries c.args.round.now.by c.args.round.now.query.now true (filter (is_up c.args.round.now.mask) c.args.round.now.order.now))
    (λ marks. tries-tried c.args.round.now.by c.args.round.now.query.now true c.args.round.now.mask c.in-Some.first.now c.in-Some.others.now c.in-Some.ensures.cases.0 up marks)
    (fails (λ marks. onward (try_of c.in-Some.first.now.upstream c.args.round.now.by c.args.round.now.query.now marks) (report_means true n)) (rest_of c.args.round.now.by c.args.round.now.query.now true others) (said-err _ _ c.from_residual.ensures.0)
    (fails (try_of c.in-Some.first.now.upstream c.args.round.now.by c.args.round.now.query.now) (report_means true n) {result = Err c.in_err-agreed.field-0.0} refl (beside (calls_of c.args.pool.now) c.in_err-agreed.ensures) (λ answer. tt))
    (λ answer. rest-nothing c.args.round.now.by c.args.round.now.query.now true others answer))

pub returns-in_err-report-clause-asks : goal.returns-in_err-report-clause-asks
returns-in_err-report-clause-asks g t c =
    let others = filter (is_up c.args.round.now.mask) c.in-Some.others.now in
    let up = sym c.is_up.ensures ∙ c.if-not-is_up.false in
    let n = c.in-Some.first.now.number in
    renamed (λ marks. onward (onward (try_of c.in-Some.first.now.upstream c.args.round.now.by c.args.round.now.query.now marks) (report_means true n)) (rest_of c.args.round.now.by c.args.round.now.query.now true others))
    (tries c.args.round.now.by c.args.round.now.query.now true (filter (is_up c.args.round.now.mask) c.args.round.now.order.now))
    (λ marks. tries-tried c.args.round.now.by c.args.round.now.query.now true c.args.round.now.mask c.in-Some.first.now c.in-Some.others.now c.in-Some.ensures.cases.0 up marks)
    (fails (λ marks. onward (try_of c.in-Some.first.now.upstream c.args.round.now.by c.args.round.now.query.now marks) (report_means true n)) (rest_of c.args.round.now.by c.args.round.now.query.now true others) (said-err _ _ c.from_residual-in_err-report.ensures.0)
    (behind (try_of c.in-Some.first.now.upstream c.args.round.now.by c.args.round.now.query.now) (report_means true n) {v = (answer_by c.in_ok-agreed.agreed c.try_of.new.slot)} {result = Err c.in_err-report.field-0.0} (beside (calls_of c.args.pool.now) (told-as (try_of c.in-Some.first.now.upstream c.args.round.now.by c.args.round.now.query.now) (try_answer-is c.in_ok-agreed.agreed c.try_of.new.slot) c.in_ok-agreed.ensures))
    (unreported n c.in_ok-agreed.agreed (answer_by c.in_ok-agreed.agreed c.try_of.new.slot) (is-some c.in_ok-agreed.agreed c.try_of.new.slot) _ c.in_err-report.field-0.0 c.in_err-report.ensures.reports))
    (λ answer. rest-nothing c.args.round.now.by c.args.round.now.query.now true others answer))

pub returns-then-agreed-clause-asks : goal.returns-then-agreed-clause-asks
returns-then-agreed-clause-asks g t c =
    let others = filter (is_up c.args.round.now.mask) c.in-Some.others.now in
    let up = sym c.is_up.ensures ∙ c.if-not-is_up.false in
    let n = c.in-Some.first.now.number in
    renamed (λ marks. onward (onward (try_of c.in-Some.first.now.upstream c.args.round.now.by c.args.round.now.query.now marks) (report_means true n)) (rest_of c.args.round.now.by c.args.round.now.query.now true others))
    (tries c.args.round.now.by c.args.round.now.query.now true (filter (is_up c.args.round.now.mask) c.args.round.now.order.now))
    (λ marks. tries-tried c.args.round.now.by c.args.round.now.query.now true c.args.round.now.mask c.in-Some.first.now c.in-Some.others.now c.in-Some.ensures.cases.0 up marks)
    (behind (λ marks. onward (try_of c.in-Some.first.now.upstream c.args.round.now.by c.args.round.now.query.now marks) (report_means true n)) (rest_of c.args.round.now.by c.args.round.now.query.now true others) {v = (answer_by c.in_ok-agreed.agreed c.try_of.new.slot)}
    (behind (try_of c.in-Some.first.now.upstream c.args.round.now.by c.args.round.now.query.now) (report_means true n) {v = (answer_by c.in_ok-agreed.agreed c.try_of.new.slot)} {result = Ok (answer_by c.in_ok-agreed.agreed c.try_of.new.slot)} (beside (calls_of c.args.pool.now) (told-as (try_of c.in-Some.first.now.upstream c.args.round.now.by c.args.round.now.query.now) (try_answer-is c.in_ok-agreed.agreed c.try_of.new.slot) c.in_ok-agreed.ensures))
    (reported n c.in_ok-agreed.agreed (answer_by c.in_ok-agreed.agreed c.try_of.new.slot) (is-some c.in_ok-agreed.agreed c.try_of.new.slot) _ c.in_ok-report.ensures.reports refl))
    (nothing (rest_of c.args.round.now.by c.args.round.now.query.now true others (answer_by c.in_ok-agreed.agreed c.try_of.new.slot))
    (λ left. ap (λ (b : Bool). rest_of c.args.round.now.by c.args.round.now.query.now true others (answer_by b c.try_of.new.slot) left) c.if-agreed.true)))

pub returns-clause-asks : goal.returns-clause-asks
returns-clause-asks g t c =
    let others = filter (is_up c.args.round.now.mask) c.in-Some.others.now in
    let up = sym c.is_up.ensures ∙ c.if-not-is_up.false in
    let n = c.in-Some.first.now.number in
    renamed (λ marks. onward (onward (try_of c.in-Some.first.now.upstream c.args.round.now.by c.args.round.now.query.now marks) (report_means true n)) (rest_of c.args.round.now.by c.args.round.now.query.now true others))
    (tries c.args.round.now.by c.args.round.now.query.now true (filter (is_up c.args.round.now.mask) c.args.round.now.order.now))
    (λ marks. tries-tried c.args.round.now.by c.args.round.now.query.now true c.args.round.now.mask c.in-Some.first.now c.in-Some.others.now c.in-Some.ensures.cases.0 up marks)
    (behind (λ marks. onward (try_of c.in-Some.first.now.upstream c.args.round.now.by c.args.round.now.query.now marks) (report_means true n)) (rest_of c.args.round.now.by c.args.round.now.query.now true others) {v = (answer_by c.in_ok-agreed.agreed c.try_of.new.slot)}
    (behind (try_of c.in-Some.first.now.upstream c.args.round.now.by c.args.round.now.query.now) (report_means true n) {v = (answer_by c.in_ok-agreed.agreed c.try_of.new.slot)} {result = Ok (answer_by c.in_ok-agreed.agreed c.try_of.new.slot)} (beside (calls_of c.args.pool.now) (told-as (try_of c.in-Some.first.now.upstream c.args.round.now.by c.args.round.now.query.now) (try_answer-is c.in_ok-agreed.agreed c.try_of.new.slot) c.in_ok-agreed.ensures))
    (reported n c.in_ok-agreed.agreed (answer_by c.in_ok-agreed.agreed c.try_of.new.slot) (is-some c.in_ok-agreed.agreed c.try_of.new.slot) _ c.in_ok-report.ensures.reports refl))
    (renamed (tries c.args.round.now.by c.args.round.now.query.now true others) (rest_of c.args.round.now.by c.args.round.now.query.now true others (answer_by c.in_ok-agreed.agreed c.try_of.new.slot))
    (λ left. ap (λ (b : Bool). rest_of c.args.round.now.by c.args.round.now.query.now true others (answer_by b c.try_of.new.slot) left) c.if-agreed.false)
    c.tries_in_pool-2.ensures.asks))

pub returns-in_default-clause-uses : goal.returns-in_default-clause-uses
returns-in_default-clause-uses g t c = uses_none _

pub returns-in_err-agreed-clause-uses : goal.returns-in_err-agreed-clause-uses
returns-in_err-agreed-clause-uses g t c = uses_none _

pub returns-clause-uses : goal.returns-clause-uses
returns-clause-uses g t c = uses_then c.in_ok-report.ensures.uses c.tries_in_pool-2.ensures.uses
