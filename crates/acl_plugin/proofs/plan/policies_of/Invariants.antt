use Rattle.std.proofs.Common.{◌≡◌, ◌++◌, length}
use Rattle.acl_plugin.specs.Acl.{policies_of}
use Rattle.acl_plugin.proofs.plan.policies_of.Given as goal

abbrev pub invariant-loop-line : goal.invariant-loop-line
invariant-loop-line l = l.policies ++ policies_of l.rest ≡ policies_of l.fn.lines

abbrev pub decreases-loop-line : goal.decreases-loop-line
decreases-loop-line l = length l.rest
