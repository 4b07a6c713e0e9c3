use Rattle.std.proofs.Common.{◌≡◌, ◌++◌, length}
use Rattle.template_plugin.specs.Made.{filling_data}
use Rattle.template_plugin.specs.Parts.{filled_in}
use Rattle.template_plugin.proofs.filling.fill_in.Given as goal

abbrev pub invariant-loop-part : goal.invariant-loop-part
invariant-loop-part l = l.out ++ filled_in (filling_data l.filling) l.rest ≡ l.fn.out ++ filled_in (filling_data l.filling) l.parts

abbrev pub decreases-loop-part : goal.decreases-loop-part
decreases-loop-part l = length l.rest
