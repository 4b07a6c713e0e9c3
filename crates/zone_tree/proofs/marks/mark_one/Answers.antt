use Rattle.zone_tree.proofs.marks.mark_one.Goals as goal

pub returns : goal.returns
returns c = λ zone there s. record { v4 = c.mark_kind.ensures zone there s.v4; v6 = c.mark_kind-2.ensures zone there s.v6 }
