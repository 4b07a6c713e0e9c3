use Rattle.std.proofs.Common.{◌∙◌, ap, length, sym}
use Rattle.rewrite_plugin.proofs.Told.{are_its, faulty_at, is_made, maker_stays}
use Rattle.rewrite_plugin.proofs.plan.RewritePlan.reread.Goals as goal

pub made_written-requires : goal.made_written-requires
made_written-requires g c =
    let e = c.as_slice.ensures ∙ rw c.new-found.ensures at c.in_ok-read.ensures.patterns in
    are_its c.args.directive.now c.as_slice.result.now c.in-Ok-read.written c.in-Ok.finders.items e c.in-Ok.ensures.value.0 (sym c.in_ok-read.ensures.end ∙ c.in-Ok-read.is)

pub invariant_of-result : goal.invariant_of-result
invariant_of-result g c =
    let e = c.as_slice.ensures ∙ rw c.new-found.ensures at c.in_ok-read.ensures.patterns in
    rw (c.in_ok-own.ensures, c.in_ok-made_written-in-Ok-read.ensures)
    (is_made c.args.directive.now c.as_slice.result.now c.in-Ok-read.written c.len.result e (c.len.ensures ∙ sym (ap length c.as_slice.ensures)) (sym c.in_ok-read.ensures.end ∙ c.in-Ok-read.is))

pub returns-in-Err-read-clause-value : goal.returns-in-Err-read-clause-value
returns-in-Err-read-clause-value g c =
    let e = c.as_slice.ensures ∙ rw c.new-found.ensures at c.in_ok-read.ensures.patterns in
    faulty_at c.args.patterns c.args.directive.now c.as_slice.result.now (g.M.PatternMaker.last c.make_all.new.maker) c.in-Err-read.fault e c.in-Ok.ensures.value.1 (sym c.in_ok-read.ensures.end ∙ c.in-Err-read.is)

pub returns-in-Err-read-clause-maker : goal.returns-in-Err-read-clause-maker
returns-in-Err-read-clause-maker g c =
    c.in-Ok.ensures.maker ∙ maker_stays c.args.directive.now c.in-Err-read.fault (g.M.PatternMaker.state c.args.maker.now) (sym c.in_ok-read.ensures.end ∙ c.in-Err-read.is)
