use Rattle.std.proofs.Common.{◌≡◌, ◌+◌, [], drop, ap, arith}
use Rattle.std.proofs.lemmas.List.{drop_all}
use Rattle.cache_rules.specs.Weight.{records_weight, until}
use Rattle.cache_rules.proofs.weighing.records_weight.Goals as goal

pub returns : goal.returns
returns c =
    let i = c.loop-entry.invariant in
    let f = c.loop-entry-test.false in
    let none : drop c.loop-entry.entry-index c.args.records.now ≡ [] =
    drop_all c.loop-entry.entry-index c.args.records.now (omega (arith, f)) in
    let e = ap (λ l. until (c.loop-entry.weight + records_weight l)) none in
    omega (arith, e, i.0, i.1)
