use Rattle.std.proofs.Common.{◌≡◌, length}
use Rattle.rewrite_plugin.specs.Answers.{all_restored}
use Rattle.rewrite_plugin.proofs.restoring.restore_all.Given as goal

abbrev pub invariant-loop-answering : goal.invariant-loop-answering
invariant-loop-answering l =
    all_restored l.rest l.step l.slot ≡ all_restored l.answers l.step l.fn.slot

abbrev pub decreases-loop-answering : goal.decreases-loop-answering
decreases-loop-answering l = length l.rest
