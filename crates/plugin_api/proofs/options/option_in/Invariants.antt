use Rattle.std.proofs.Common.{◌≡◌, length}
use Rattle.plugin_api.specs.Options.{option_in}
use Rattle.plugin_api.proofs.options.option_in.Given as goal

abbrev pub invariant-loop-line : goal.invariant-loop-line
invariant-loop-line l = option_in l.option l.rest ≡ option_in l.option l.lines

abbrev pub decreases-loop-line : goal.decreases-loop-line
decreases-loop-line l = length l.rest
