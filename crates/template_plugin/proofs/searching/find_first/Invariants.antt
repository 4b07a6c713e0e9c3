use Rattle.std.proofs.Common.{length}
use Rattle.template_plugin.proofs.Searched.{SearchesOn}
use Rattle.template_plugin.proofs.searching.find_first.Given as goal

abbrev pub invariant-loop-pattern : goal.invariant-loop-pattern
invariant-loop-pattern l = SearchesOn l.patterns l.rest l.text l.number

abbrev pub decreases-loop-pattern : goal.decreases-loop-pattern
decreases-loop-pattern l = length l.rest
