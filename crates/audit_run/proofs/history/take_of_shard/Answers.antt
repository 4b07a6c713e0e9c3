use Rattle.std.proofs.Common.{true, sym, ap, subst, ◌∙◌}
use Rattle.outside.specs.declared.mark.Mark.TheVariants.{Put}
use Rattle.audit_run.specs.Histories.{TakesOfShard}
use Rattle.audit_run.proofs.Histories.{looked_takes, other_takes, put_takes, unkept_takes}
use Rattle.audit_run.proofs.history.take_of_shard.Goals as goal

pub returns-then-not-kept : goal.returns-then-not-kept
returns-then-not-kept c = λ capacities marks shows.
    subst (λ m. TakesOfShard capacities marks m true c.args.shard.now)
    (sym (c.in-Put.is ∙ ap (λ k. Put c.in-Put.key c.in-Put.entry k) c.if-not-kept.true))
    (unkept_takes capacities marks c.args.shard.now shows c.in-Put.key c.in-Put.entry)

pub returns-in-Looked : goal.returns-in-Looked
returns-in-Looked c = λ capacities marks shows.
    subst (λ m. TakesOfShard capacities marks m c.look.result c.look.new.self)
    (sym c.in-Looked.is)
    (looked_takes capacities marks c.look.new.self c.in-Looked.key c.in-Looked.now c.in-Looked.told
    c.look.result (c.look.ensures capacities marks shows))

pub returns-in_ok-put-in-Put : goal.returns-in_ok-put-in-Put
returns-in_ok-put-in-Put c = λ capacities marks shows.
    subst (λ m. TakesOfShard capacities marks m true c.put.new.self)
    (sym (c.in-Put.is ∙ ap (λ k. Put c.in-Put.key c.in-Put.entry k) c.if-not-kept.false))
    (put_takes capacities marks c.put.new.self c.in-Put.key c.in-Put.entry
    (c.in_ok-put-in-Put.ensures capacities marks shows))

pub returns-in_default : goal.returns-in_default
returns-in_default c = λ capacities marks shows.
    other_takes capacities marks c.args.shard.now shows c.args.mark.now c.in_default.not-Looked
    c.in_default.not-Put
