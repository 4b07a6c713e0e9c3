use Rattle.std.proofs.Common.{◌≡◌, codes, length}
use Rattle.template_plugin.specs.Words.{all_words}
use Rattle.template_plugin.proofs.words.rcode_of.Given as goal

abbrev pub invariant-loop-line : goal.invariant-loop-line
invariant-loop-line l = all_words (codes "rcode") l.rest ≡ all_words (codes "rcode") l.lines

abbrev pub decreases-loop-line : goal.decreases-loop-line
decreases-loop-line l = length l.rest
