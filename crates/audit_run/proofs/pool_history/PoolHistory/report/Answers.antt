use Rattle.std.proofs.Common.{◌<◌, length, arith, refl, ap, ◌∙◌, set}
use Rattle.upstream_health.specs.Counts.{next_fails}
use Rattle.upstream_health.proofs.Counting.{no_report, set_report}
use Rattle.audit_run.proofs.Pools.{report_shows}
use Rattle.audit_run.proofs.pool_history.PoolHistory.report.Goals as goal

pub returns-then-at-len : goal.returns-then-at-len
returns-then-at-len c = λ rule events shows.
    let long = c.args.self.now.fails.ok.0 in
    let most = c.args.self.now.rule.most in
    let low : c.args.upstream < length c.args.self.now.fails.items =
    omega (arith, long, c.if-at-len.true, c.len.ensures) in
    report_shows rule events c.args.self.now shows _ c.args.upstream c.args.agreed refl refl
    (ap (λ n. set c.args.self.now.fails.items c.args.upstream n)
    (c.next_fails.ensures ∙ ap (λ n. next_fails most c.args.agreed n) c.index.ensures)
    ∙ set_report most c.args.upstream c.args.agreed c.args.self.now.fails.items
    c.index.result.now low)

pub returns-else-at-len : goal.returns-else-at-len
returns-else-at-len c = λ rule events shows.
    let long = c.args.self.now.fails.ok.0 in
    report_shows rule events c.args.self.now shows _ c.args.upstream c.args.agreed refl refl
    (no_report c.args.self.now.rule.most c.args.upstream c.args.agreed c.args.self.now.fails.items
    (omega (arith, long, c.if-at-len.false, c.len.ensures)))
