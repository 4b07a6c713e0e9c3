use Rattle.std.proofs.Common.{◌++◌, ◌∷◌, [], ◌∙◌, ap, sym, subst, arith, take, append_assoc}
use Rattle.std.proofs.lemmas.List.{take_all, take_more}
use Rattle.zone_tree.specs.Marks.{AreMarked}
use Rattle.zone_tree.proofs.marks.mark_all.Goals as goal

pub loop-record-preserved : goal.loop-record-preserved
loop-record-preserved c = λ zone there s.
    let i = c.loop-record.record-index in
    let r = c.record-item.result in
    let done = take i c.args.records.now in
    let more = take_more c.args.records.now i r (omega arith) ∙ ap (λ x. done ++ x ∷ []) (sym c.record-item.is) in
    let one = c.mark_one.ensures zone (there ++ done) (c.loop-record.invariant zone there s) in
    subst (λ rs. AreMarked c.args.table.now zone rs c.mark_one.new.marks) (append_assoc there done (r ∷ []) ∙ ap (λ rs. there ++ rs) (sym more)) one

pub returns : goal.returns
returns c = λ zone there s.
    subst (λ rs. AreMarked c.args.table.now zone (there ++ rs) c.loop-record.marks) (take_all c.loop-record.record-index c.args.records.now (omega arith)) (c.loop-record.invariant zone there s)
