use Rattle.std.proofs.Common.{◌≡◌, ◌++◌, length}
use Rattle.rewrite_plugin.specs.Made.{answers_patterns}
use Rattle.rewrite_plugin.proofs.made.made_answers.Given as goal

abbrev pub invariant-loop-answering : goal.invariant-loop-answering
invariant-loop-answering l = record {
  finders : l.finders.items ≡ answers_patterns l.rest;
  made : l.made ++ l.rest ≡ l.answers;
}

abbrev pub decreases-loop-answering : goal.decreases-loop-answering
decreases-loop-answering l = length l.rest
