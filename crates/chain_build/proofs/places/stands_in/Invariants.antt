use Rattle.std.proofs.Common.{◌≡◌, drop}
use Rattle.chain_meaning.specs.Accepting.{stands_in}
use Rattle.chain_build.proofs.places.stands_in.Given as goal

abbrev pub invariant-loop-directive : goal.invariant-loop-directive
invariant-loop-directive l = stands_in (drop l.directive-index l.before) l.name ≡ stands_in l.before l.name
