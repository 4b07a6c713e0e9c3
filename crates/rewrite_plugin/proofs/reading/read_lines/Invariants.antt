use Rattle.std.proofs.Common.{◌≡◌, ◌++◌, length}
use Rattle.rewrite_plugin.specs.Words.{end_map, lines_in, more_behind}
use Rattle.rewrite_plugin.proofs.reading.read_lines.Given as goal

abbrev pub invariant-loop-line : goal.invariant-loop-line
invariant-loop-line l = record {
  found : l.found ++ (lines_in l.rest).patterns ≡ l.fn.found ++ (lines_in l.lines).patterns;
  end : end_map (more_behind l.answers) (lines_in l.rest).end ≡ end_map (more_behind l.fn.before) (lines_in l.lines).end;
}

abbrev pub decreases-loop-line : goal.decreases-loop-line
decreases-loop-line l = length l.rest
