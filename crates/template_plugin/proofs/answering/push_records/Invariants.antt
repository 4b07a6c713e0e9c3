use Rattle.std.proofs.Common.{◌≡◌, length}
use Rattle.template_plugin.specs.Made.{filling_data}
use Rattle.template_plugin.specs.Parts.{joined, records_by}
use Rattle.template_plugin.proofs.answering.push_records.Given as goal

abbrev pub invariant-loop-parts : goal.invariant-loop-parts
invariant-loop-parts l = joined l.out (records_by (filling_data l.filling) l.rest) ≡ joined l.fn.out (records_by (filling_data l.filling) l.texts)

abbrev pub decreases-loop-parts : goal.decreases-loop-parts
decreases-loop-parts l = length l.rest
