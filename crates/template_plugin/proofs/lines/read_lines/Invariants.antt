use Rattle.std.proofs.Common.{length}
use Rattle.template_plugin.specs.Judging.{lines_task}
use Rattle.template_plugin.proofs.Judged.{ReadsOn}
use Rattle.template_plugin.proofs.lines.read_lines.Given as goal

abbrev pub invariant-loop-line : goal.invariant-loop-line
invariant-loop-line g l = ReadsOn (lines_task l.fn.first l.lines) (lines_task l.before l.rest) l.fn.out l.out (g.M.PatternMaker.state l.fn.maker) (g.M.PatternMaker.state l.maker)

abbrev pub decreases-loop-line : goal.decreases-loop-line
decreases-loop-line g l = length l.rest
