use Rattle.std.proofs.Common.{◌≡◌, length}
use Rattle.run_meaning.specs.Reloads.{first_times}
use Rattle.reload_watch.proofs.reloads.times_of.Given as goal

abbrev pub invariant-loop-block : goal.invariant-loop-block
invariant-loop-block l = first_times l.rest ≡ first_times l.fn.blocks

abbrev pub decreases-loop-block : goal.decreases-loop-block
decreases-loop-block l = length l.rest
