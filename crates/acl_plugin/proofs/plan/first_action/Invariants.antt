use Rattle.std.proofs.Common.{◌≡◌, drop}
use Rattle.acl_plugin.specs.Acl.{first_action}
use Rattle.acl_plugin.proofs.plan.first_action.Given as goal

abbrev pub invariant-loop-policy : goal.invariant-loop-policy
invariant-loop-policy l = first_action l.query (drop l.policy-index l.policies) ≡ first_action l.query l.policies
