use Rattle.std.proofs.Common.{◌∙◌}
use Rattle.std.proofs.lemmas.Result.{IfOk-weaker}
use Rattle.zone_lookup.proofs.Chaining.{begun, cut_answers, lent_answers}
use Rattle.zone_lookup.proofs.answering.answer.Goals as goal

pub returns-in-Cut : goal.returns-in-Cut
returns-in-Cut g c = let r = rw c.in-Cut.is at c.in_ok-refer_or_find.ensures in cut_answers _ _ _ _ r

pub returns-in-Lent : goal.returns-in-Lent
returns-in-Lent g c = let r = rw c.in-Lent.is at c.in_ok-refer_or_find.ensures in lent_answers _ _ _ _ _ r

pub positive-requires-clause-clear : goal.positive-requires-clause-clear
positive-requires-clause-clear g c = let r = rw c.in-Found.is at c.in_ok-refer_or_find.ensures in (begun _ _ _ _ _ r).clear

pub positive-requires-clause-finds : goal.positive-requires-clause-finds
positive-requires-clause-finds g c = let r = rw c.in-Found.is at c.in_ok-refer_or_find.ensures in (begun _ _ _ _ _ r).finds

pub returns-in-Found : goal.returns-in-Found
returns-in-Found g c =
    let r = rw c.in-Found.is at c.in_ok-refer_or_find.ensures in
    IfOk-weaker c.positive.result _ _ (λ tail e. e ∙ (begun _ _ _ _ _ r).own) c.positive.ensures
