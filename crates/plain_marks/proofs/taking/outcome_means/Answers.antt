use Rattle.std.proofs.Common.{[], ◌∷◌, ap}
use Rattle.outside.specs.declared.datagram.Outcome.{Outcome}
use Rattle.forward_plugin.specs.Forward.{outcome_means}
use Rattle.plain_marks.proofs.Single.{none-may}
use Rattle.plain_marks.proofs.taking.outcome_means.Goals as goal

pub returns-else-left-eq0 : goal.returns-else-left-eq0
returns-else-left-eq0 c =
    none-may (outcome_means c.args.outcome.now) c.args.left.now c.if-left-eq0.false (ap (λ (o : Outcome). outcome_means o []) c.in-NoMemory.is)
    (λ m rest. ap (λ (o : Outcome). outcome_means o (m ∷ rest)) c.in-NoMemory.is)
