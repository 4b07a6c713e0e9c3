use Rattle.std.proofs.Common.{◌≡◌, ◌+◌, length}
use Rattle.template_plugin.specs.Judging.{words_task}
use Rattle.template_plugin.proofs.Judged.{ReadsOn}
use Rattle.template_plugin.proofs.lines.read_words.Given as goal

abbrev pub invariant-loop-word : goal.invariant-loop-word
invariant-loop-word g l = record {
  reads : ReadsOn (words_task l.place.line l.place.number l.words) (words_task l.place.line l.number l.rest) l.fn.out l.out (g.M.PatternMaker.state l.fn.maker) (g.M.PatternMaker.state l.maker);
  size : l.number + length l.rest ≡ l.place.number + length l.words;
}

abbrev pub decreases-loop-word : goal.decreases-loop-word
decreases-loop-word g l = length l.rest
