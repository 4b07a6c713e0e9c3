use Rattle.std.proofs.Common.{[], false, ap, ◌∙◌}
use Rattle.std.specs.Prelude.{replicate}
use Rattle.zone_tree.proofs.Marking.{none_seen}
use Rattle.zone_tree.proofs.marks.marks_of.Goals as goal

pub returns : goal.returns
returns c = λ zone.
    let names = c.args.table.now in
    let four = none_seen names zone 1 c.in_ok-vec.field-0.items (c.in_ok-vec.ensures.items_if_clones_equal (λ y h. h) ∙ ap (λ n. replicate n false) c.len.ensures) in
    let six = none_seen names zone 28 c.in_ok-vec-2.field-0.items (c.in_ok-vec-2.ensures.items_if_clones_equal (λ y h. h) ∙ ap (λ n. replicate n false) c.len-2.ensures) in
    c.mark_all-2.ensures zone c.args.answer.now (c.mark_all.ensures zone [] (record { v4 = four; v6 = six }))
