use Rattle.std.proofs.Common.{true, sym, ap, subst, ◌∙◌}
use Rattle.outside.specs.declared.mark.Mark.TheVariants.{Inner}
use Rattle.audit_run.specs.Histories.{TakesOfPool}
use Rattle.audit_run.specs.Rules.{all_events}
use Rattle.audit_run.proofs.Histories.{drawn_takes, reported_takes}
use Rattle.audit_run.proofs.history.take_of_pool.Goals as goal

pub returns-in-Drawn : goal.returns-in-Drawn
returns-in-Drawn c = λ rule marks shows.
    subst (λ m. TakesOfPool rule marks m c.draw.result c.draw.new.self)
    (sym (c.in-Inner.is ∙ ap Inner c.in-Drawn.is))
    (drawn_takes rule marks c.draw.new.self c.in-Drawn.number c.in-Drawn.down c.draw.result
    (c.draw.ensures rule (all_events marks) shows))

pub returns-in-Reported : goal.returns-in-Reported
returns-in-Reported c = λ rule marks shows.
    subst (λ m. TakesOfPool rule marks m true c.report.new.self)
    (sym (c.in-Inner.is ∙ ap Inner c.in-Reported.is))
    (reported_takes rule marks c.report.new.self c.in-Reported.upstream c.in-Reported.agreed
    (c.report.ensures rule (all_events marks) shows))
