use Rattle.std.proofs.Common.{◌≡◌, length}
use Rattle.run_meaning.specs.Reloads.{times_in}
use Rattle.reload_watch.proofs.reloads.times_in.Given as goal

abbrev pub invariant-loop-directive : goal.invariant-loop-directive
invariant-loop-directive l = times_in l.rest ≡ times_in l.fn.directives

abbrev pub decreases-loop-directive : goal.decreases-loop-directive
decreases-loop-directive l = length l.rest
