use Rattle.std.proofs.Common.{refl}
use Rattle.upstream_health.specs.Pools.{noted_event}
use Rattle.forward_plugin.proofs.UseLaws.{uses_once}
use Rattle.forward_plugin.proofs.pool_calls.report.Goals as goal

pub returns-clause-uses : goal.returns-clause-uses
returns-clause-uses g c = uses_once _ _ (noted_event c.args.upstream c.args.agreed) refl c.report.ensures.own c.report.ensures.calls
