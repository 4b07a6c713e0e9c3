use Rattle.std.proofs.Common.{◌≡◌, ◌++◌, length, map}
use Rattle.rewrite_plugin.specs.Answers.{data_or, replaced_data}
use Rattle.rewrite_plugin.proofs.restoring.rename_data.Given as goal

abbrev pub invariant-loop-entry : goal.invariant-loop-entry
invariant-loop-entry l =
    l.room.spare ++ map (λ r. data_or r (replaced_data l.replacing r.rdata)) l.rest
    ≡ map (λ r. data_or r (replaced_data l.replacing r.rdata)) l.fn.section

abbrev pub decreases-loop-entry : goal.decreases-loop-entry
decreases-loop-entry l = length l.rest
