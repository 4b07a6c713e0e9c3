use Rattle.std.proofs.Common.{◌≡◌, drop}
use Rattle.acl_plugin.specs.Acl.{acl_say}
use Rattle.acl_plugin.proofs.plan.decide.Given as goal

abbrev pub invariant-loop-plan : goal.invariant-loop-plan
invariant-loop-plan l = acl_say (drop l.plan-index l.plans) l.query ≡ acl_say l.plans l.query
