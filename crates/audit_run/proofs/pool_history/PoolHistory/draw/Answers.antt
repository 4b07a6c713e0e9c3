use Rattle.std.proofs.Common.{refl, sym, ◌∙◌}
use Rattle.audit_run.proofs.Pools.{draw_refused, draw_taken}
use Rattle.audit_run.proofs.pool_history.PoolHistory.draw.Goals as goal

pub returns-then-not-is_next : goal.returns-then-not-is_next
returns-then-not-is_next c = λ rule events shows.
    draw_refused rule events c.args.self.now shows _ c.args.number c.args.down
    (sym c.is_next.ensures ∙ c.if-not-is_next.true)

pub returns : goal.returns
returns c = λ rule events shows.
    draw_taken rule events c.args.self.now shows _ c.args.number c.args.down refl refl refl
    (sym c.is_next.ensures ∙ c.if-not-is_next.false)
