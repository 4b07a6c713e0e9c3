use Rattle.std.proofs.Common.{◌≡◌, ◌==◌}
use Rattle.std.specs.Prelude.{drop}
use Rattle.upstream_health.specs.Counts.{bits}
use Rattle.audit_run.proofs.pool_history.PoolHistory.tells.Given as goal

abbrev pub invariant-loop-fails : goal.invariant-loop-fails
invariant-loop-fails l =
    (l.rest == bits l.self.rule.most (drop l.fails-index l.self.fails.items))
    ≡ (l.down == bits l.self.rule.most l.self.fails.items)
