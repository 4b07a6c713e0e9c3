use Rattle.std.proofs.Common.{◌≡◌, ◌+◌, [], drop, ap, arith}
use Rattle.std.proofs.lemmas.List.{drop_all}
use Rattle.outside.specs.Weight.{inner_weight}
use Rattle.cache_rules.specs.Weight.{until}
use Rattle.cache_rules.proofs.weighing.inner_weight.Goals as goal

pub returns : goal.returns
returns c =
    let i = c.loop-mark.invariant in
    let f = c.loop-mark-test.false in
    let none : drop c.loop-mark.mark-index c.args.marks.now ≡ [] =
    drop_all c.loop-mark.mark-index c.args.marks.now (omega (arith, f)) in
    let e = ap (λ l. until (c.loop-mark.weight + inner_weight l)) none in
    omega (arith, e, i.0, i.1)
