use Rattle.std.proofs.Common.{◌∙◌, arith}
use Rattle.rewrite_plugin.proofs.Making.{makes, refuses, too_many}
use Rattle.rewrite_plugin.proofs.finder.make_all.Goals as goal

pub loop-pattern-preserved : goal.loop-pattern-preserved
loop-pattern-preserved g c =
    let on = rw c.in-Some.ensures.cases.0 at c.loop-pattern.invariant.on in
    let next = makes c.args.before c.args.patterns.now c.loop-pattern.number c.loop-pattern.made.items c.in-Some.pattern.now c.in-Some.behind.now on (omega arith) c.in-Ok.ensures.value.1 in
    record { on = rw (c.in-Ok-push_back.ensures.items, c.in-Ok.ensures.value.0) next; state = c.in-Ok.ensures.maker ∙ c.loop-pattern.invariant.state }

pub returns-in-Err-clause-value : goal.returns-in-Err-clause-value
returns-in-Err-clause-value g c =
    let on = rw c.in-Some.ensures.cases.0 at c.loop-pattern.invariant.on in
    refuses c.args.before c.args.patterns.now c.loop-pattern.number c.loop-pattern.made.items c.in-Some.pattern.now c.in-Some.behind.now on
    (g.M.PatternMaker.last c.make_finder.new.maker) c.in-Err.fault (omega arith) c.in-Err.ensures.value

pub returns-then-number-ge-PATTERNS-clause-value : goal.returns-then-number-ge-PATTERNS-clause-value
returns-then-number-ge-PATTERNS-clause-value g c =
    let on = rw c.in-Some.ensures.cases.0 at c.loop-pattern.invariant.on in
    too_many c.args.before c.args.patterns.now c.loop-pattern.number c.loop-pattern.made.items c.in-Some.pattern.now c.in-Some.behind.now on (g.M.PatternMaker.last c.loop-pattern.maker) (omega arith)
