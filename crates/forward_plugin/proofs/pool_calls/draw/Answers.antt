use Rattle.std.proofs.Common.{[], ◌∷◌, refl}
use Rattle.outside.specs.declared.entry.InnerMark.TheVariants as inner
use Rattle.forward_plugin.specs.Forward.{take_drawn}
use Rattle.upstream_health.specs.Pools.{drew_event}
use Rattle.forward_plugin.proofs.CallLaws.{lost}
use Rattle.forward_plugin.proofs.UseLaws.{uses_once}
use Rattle.forward_plugin.proofs.pool_calls.draw.Goals as goal

pub returns-in_err-keep-clause-asks : goal.returns-in_err-keep-clause-asks
returns-in_err-keep-clause-asks g c =
    lost take_drawn (inner.Drawn c.draw-drawn.result.number c.draw-drawn.result.down ∷ []) c.from_residual.ensures.0 c.saw.ensures.told c.saw.ensures.counts refl c.draw-drawn.ensures.calls.own

pub returns-in_err-keep-clause-uses : goal.returns-in_err-keep-clause-uses
returns-in_err-keep-clause-uses g c = uses_once _ _ (drew_event c.draw-drawn.result.number c.draw-drawn.result.down) refl c.draw-drawn.ensures.own c.draw-drawn.ensures.calls

pub returns-clause-uses : goal.returns-clause-uses
returns-clause-uses g c = uses_once _ _ (drew_event c.draw-drawn.result.number c.draw-drawn.result.down) refl c.draw-drawn.ensures.own c.draw-drawn.ensures.calls
