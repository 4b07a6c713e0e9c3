use Rattle.std.proofs.Common.{◌≡◌, length}
use Rattle.rewrite_plugin.proofs.Making.{MakesOn}
use Rattle.rewrite_plugin.proofs.finder.make_all.Given as goal

abbrev pub invariant-loop-pattern : goal.invariant-loop-pattern
invariant-loop-pattern g l = record {
  on : MakesOn l.before l.patterns l.number l.made.items l.rest;
  state : g.M.PatternMaker.state l.maker ≡ g.M.PatternMaker.state l.fn.maker;
}

abbrev pub decreases-loop-pattern : goal.decreases-loop-pattern
decreases-loop-pattern g l = length l.rest
