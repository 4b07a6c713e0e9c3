use Rattle.std.proofs.Common.{◌≡◌, ◌<◌, Err, arith, length, rules, subst}
use Rattle.std.proofs.lemmas.Bool.Decides.{nat_tests}
use Rattle.pattern_judging.specs.Tasks.{Refuses}
use Rattle.template_plugin.specs.Judging.{Passes}
use Rattle.template_plugin.proofs.Judged.{same_task}
use Rattle.template_plugin.proofs.lines.read_match.Goals as goal

pub returns-in_err-patterns-clause-value : goal.returns-in_err-patterns-clause-value
returns-in_err-patterns-clause-value g c =
    let e = c.in_err-patterns.field-0.0 in
    let some : 0 < length c.args.words.now = search (rules, arith, nat_tests) in
    let same = same_task c.args.place.line c.args.place.number c.args.words.now some in
    let is : c.from_residual.result ≡ Err e = search rules in
    rw is (subst (λ t. Refuses t (g.M.PatternMaker.last c.read_words.new.maker) e) same c.in_err-patterns.ensures.value)

pub returns-clause-value : goal.returns-clause-value
returns-clause-value g c =
    let some : 0 < length c.args.words.now = search (rules, arith, nat_tests) in
    let same = same_task c.args.place.line c.args.place.number c.args.words.now some in
    subst (λ t. Passes t c.args.out.now c.read_words.new.out) same c.in_ok-patterns.ensures.value
