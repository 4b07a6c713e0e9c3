use Rattle.std.proofs.Common.{◌≡◌, Err, rules, sym}
use Rattle.pattern_judging.specs.Tasks.{Task}
use Rattle.pattern_judging.specs.TasksLaws.{refuses_first}
use Rattle.plugin_api.specs.declared.fault.DirectiveFault.{DirectiveFault}
use Rattle.template_plugin.specs.Judging.{line_task, lines_task}
use Rattle.template_plugin.specs.Reading.{behind_line}
use Rattle.template_plugin.proofs.Judged.{begins, goes_on, no_lines, patterns_behind}
use Rattle.template_plugin.proofs.lines.read_lines.Goals as goal

pub loop-line-init : goal.loop-line-init
loop-line-init g c = begins (lines_task c.args.first c.args.lines.now) c.args.out.now (g.M.PatternMaker.state c.args.maker.now)

pub returns-in_err-before-clause-value : goal.returns-in_err-before-clause-value
returns-in_err-before-clause-value g c =
    let e = c.in_err-before.field-0.0 in
    let line : Task DirectiveFault = line_task c.loop-line.before c.in-Some.line.now.number c.in-Some.line.now.words in
    let rest : Task DirectiveFault = lines_task (behind_line c.loop-line.before c.in-Some.line.now.words) c.in-Some.behind.now in
    let reads = rw c.in-Some.ensures.cases.0 at c.loop-line.invariant in
    let is : c.from_residual.result ≡ Err e = search rules in
    let last = g.M.PatternMaker.last c.read_line.new.maker in
    rw is (reads.refuses last e (refuses_first line rest last e c.in_err-before.ensures.value))

pub returns-in_err-before-clause-maker : goal.returns-in_err-before-clause-maker
returns-in_err-before-clause-maker g c =
    let e = c.in_err-before.field-0.0 in
    let is : c.from_residual.result ≡ Err e = search rules in
    rw (is, sym c.loop-line.invariant.state) c.in_err-before.ensures.maker

pub loop-line-preserved : goal.loop-line-preserved
loop-line-preserved g c =
    let state = g.M.PatternMaker.state in
    let line : Task DirectiveFault = line_task c.loop-line.before c.in-Some.line.now.number c.in-Some.line.now.words in
    let rest : Task DirectiveFault = lines_task (behind_line c.loop-line.before c.in-Some.line.now.words) c.in-Some.behind.now in
    let reads = rw c.in-Some.ensures.cases.0 at c.loop-line.invariant in
    rw c.in_ok-before.ensures.behind
    (goes_on (lines_task c.args.first c.args.lines.now) line rest c.args.out.now c.loop-line.out c.read_line.new.out (state c.args.maker.now) (state c.loop-line.maker)
    (state c.read_line.new.maker) (patterns_behind c.loop-line.before c.in-Some.line.now.words) reads c.in_ok-before.ensures.value c.in_ok-before.ensures.maker)

pub returns-clause-value : goal.returns-clause-value
returns-clause-value g c =
    c.loop-line.invariant.passes c.loop-line.out (no_lines c.loop-line.before c.loop-line.rest.now c.loop-line.out c.in_default.ensures.cases)

pub returns-clause-maker : goal.returns-clause-maker
returns-clause-maker g c = c.loop-line.invariant.state
