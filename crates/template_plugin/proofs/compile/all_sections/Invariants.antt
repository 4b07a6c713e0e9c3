use Rattle.std.proofs.Common.{◌≡◌, ◌++◌, length, map}
use Rattle.template_plugin.specs.Made.{pattern_sections}
use Rattle.template_plugin.proofs.compile.all_sections.Given as goal

abbrev pub invariant-loop-pattern : goal.invariant-loop-pattern
invariant-loop-pattern l = l.sections ++ map (pattern_sections l.lines) l.rest ≡ map (pattern_sections l.lines) l.patterns

abbrev pub decreases-loop-pattern : goal.decreases-loop-pattern
decreases-loop-pattern l = length l.rest
