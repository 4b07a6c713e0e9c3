use Rattle.std.proofs.Common.{◌<◌, ℕ, arith, get_or, refl}
use Rattle.template_plugin.proofs.Searched.{goes_on, is_first, none_found}
use Rattle.template_plugin.proofs.searching.find_first.Goals as goal

pub returns-in-Some-2 : goal.returns-in-Some-2
returns-in-Some-2 c =
    let small : (k : ℕ) → get_or c.args.text.now k 0 < 256 = λ k. omega (arith, c.type_inv.text k) in
    let found = rw c.in-Some-2.is at c.in_ok-find.ensures in
    let on = rw c.in-Some.ensures.cases.0 at c.loop-pattern.invariant in
    is_first c.args.text.now small c.in-Some.pattern.now c.in-Some.behind.now c.args.patterns.now c.loop-pattern.number c.find.new.scratch found.0 on found.1 (found.2.keeps refl)

pub loop-pattern-preserved : goal.loop-pattern-preserved
loop-pattern-preserved c =
    let small : (k : ℕ) → get_or c.args.text.now k 0 < 256 = λ k. omega (arith, c.type_inv.text k) in
    let none = rw c.in_default-2.is at c.in_ok-find.ensures in
    let on = rw c.in-Some.ensures.cases.0 at c.loop-pattern.invariant in
    goes_on c.args.text.now small c.in-Some.pattern.now c.in-Some.behind.now c.args.patterns.now c.loop-pattern.number on none

pub returns : goal.returns
returns c = none_found c.args.patterns.now c.loop-pattern.rest.now c.args.text.now c.loop-pattern.number c.loop-pattern.scratch c.in_default.ensures.cases c.loop-pattern.invariant
