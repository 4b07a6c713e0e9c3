use Rattle.std.proofs.Common.{◌≡◌, map, take}
use Rattle.chain_build.proofs.checking.names_of.Given as goal

abbrev pub invariant-loop-judge : goal.invariant-loop-judge
invariant-loop-judge g l = l.names ≡ map g.E.Extra.title (take l.judge-index l.judges)
