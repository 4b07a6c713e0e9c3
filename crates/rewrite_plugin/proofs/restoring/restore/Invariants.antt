use Rattle.std.proofs.Common.{◌≡◌, length}
use Rattle.rewrite_plugin.specs.Rewrite.{restored}
use Rattle.rewrite_plugin.proofs.restoring.restore.Given as goal

abbrev pub invariant-loop-step : goal.invariant-loop-step
invariant-loop-step l = restored l.plans l.rest l.slot ≡ restored l.plans l.changed.steps l.fn.slot

abbrev pub decreases-loop-step : goal.decreases-loop-step
decreases-loop-step l = length l.rest
