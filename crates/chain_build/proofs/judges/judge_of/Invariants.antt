use Rattle.std.proofs.Common.{◌≡◌, drop, map, nat_eq}
use Rattle.std.specs.Cmp.Lexicographic.{pointwise}
use Rattle.std.specs.List.{list_any}
use Rattle.chain_build.proofs.judges.judge_of.Given as goal

abbrev pub invariant-loop-judge : goal.invariant-loop-judge
invariant-loop-judge g l = list_any (pointwise nat_eq l.name) (map g.E.Extra.title (drop l.judge-index l.judges)) ≡ list_any (pointwise nat_eq l.name) (map g.E.Extra.title l.judges)
