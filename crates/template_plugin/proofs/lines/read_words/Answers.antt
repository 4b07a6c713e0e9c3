use Rattle.std.proofs.Common.{◌≡◌, ◌+◌, Err, arith, rules, subst, sym}
use Rattle.pattern_judging.specs.Tasks.{Task, pattern_task}
use Rattle.pattern_judging.specs.TasksLaws.{pattern_judged, refuses_first}
use Rattle.plugin_api.specs.declared.fault.DirectiveFault.{DirectiveFault}
use Rattle.template_plugin.specs.Judging.{Passes, words_task}
use Rattle.template_plugin.proofs.Judged.{goes_on, word_made}
use Rattle.template_plugin.proofs.lines.read_words.Goals as goal

pub returns-in_err-pattern-clause-value : goal.returns-in_err-pattern-clause-value
returns-in_err-pattern-clause-value g c =
    let e = c.in_err-pattern.field-0.0 in
    let word : Task DirectiveFault = pattern_task c.args.place.line c.loop-word.number c.in-Some.word.now in
    let rest : Task DirectiveFault = words_task c.args.place.line (c.loop-word.number + 1) c.in-Some.behind.now in
    let last = g.M.PatternMaker.last c.make_pattern.new.maker in
    let refused = pattern_judged c.args.place.line c.loop-word.number c.in-Some.word.now last e c.if-number-ge-PATTERNS.false c.in_err-pattern.ensures.value in
    let reads = rw c.in-Some.ensures.cases.0 at c.loop-word.invariant.reads in
    let is : c.from_residual.result ≡ Err e = search rules in
    rw is (reads.refuses last e (refuses_first word rest last e refused))

pub loop-word-preserved : goal.loop-word-preserved
loop-word-preserved g c =
    let state = g.M.PatternMaker.state in
    let word : Task DirectiveFault = pattern_task c.args.place.line c.loop-word.number c.in-Some.word.now in
    let rest : Task DirectiveFault = words_task c.args.place.line (c.loop-word.number + 1) c.in-Some.behind.now in
    let made = word_made c.args.place.line c.loop-word.number c.in-Some.word.now c.loop-word.out c.in_ok-pattern.pattern c.if-number-ge-PATTERNS.false c.in_ok-pattern.ensures.value in
    let passes = subst (λ l. Passes word c.loop-word.out l) (sym c.in_ok-push.ensures.ok) made in
    let reads = rw c.in-Some.ensures.cases.0 at c.loop-word.invariant.reads in
    record {
      reads = goes_on (words_task c.args.place.line c.args.place.number c.args.words.now) word rest c.args.out.now c.loop-word.out c.push.new.self (state c.args.maker.now) (state c.loop-word.maker)
          (state c.make_pattern.new.maker) (omega arith) reads passes c.in_ok-pattern.ensures.maker;
      size = omega (arith, c.loop-word.invariant.size, c.in-Some.ensures.cases.1);
    }
