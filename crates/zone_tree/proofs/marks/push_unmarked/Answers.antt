use Rattle.std.proofs.Common.{subst, arith}
use Rattle.name_table.specs.Table.{IsMissing, IsNumberOf}
use Rattle.zone_tree.proofs.Shapes.{inside}
use Rattle.zone_tree.proofs.Marking.{marks_both, missing_adds, none_are, pushed_both}
use Rattle.zone_tree.proofs.marks.push_unmarked.Goals as goal

pub returns-in_default-clause-out : goal.returns-in_default-clause-out
returns-in_default-clause-out c = rw c.in_default.is (none_are c.args.tree.now.zone c.args.answer.now c.args.out.now)

pub returns-in_default-find-clause-out : goal.returns-in_default-find-clause-out
returns-in_default-find-clause-out c =
    let missing = subst (λ key. IsMissing c.args.tree.now.table key) c.labels.ensures c.in_default-find.ensures.none in
    rw c.in-Some.is (missing_adds c.args.tree.now.table c.args.tree.now.zone c.args.answer.now c.args.out.now c.in-Some.name.now c.requires.tree.names missing)

pub index-requires : goal.index-requires
index-requires c =
    let lt = inside c.args.tree.now.table c.in-Some-find.number c.labels.result c.in-Some-find.ensures.found.is in omega (arith, lt, c.requires.tree.sets.as_many)

pub returns-clause-out : goal.returns-clause-out
returns-clause-out c =
    let tree = c.args.tree.now in
    let number = subst (λ key. IsNumberOf tree.table key c.in-Some-find.number) c.labels.ensures c.in-Some-find.ensures.found in
    rw c.in-Some.is (
    pushed_both tree.table tree.zone tree.sets.items c.args.answer.now c.args.out.now c.push_kind.new.out c.push_kind-2.new.out c.in-Some.name.now c.in-Some-find.number c.index.result.now c.args.marks.now _ _
    c.requires.tree.sets number c.index.ensures c.requires.marks c.as_slice.ensures c.as_slice-2.ensures c.in_ok-push_kind.ensures.out c.in_ok-push_kind-2.ensures.out
    )

pub returns-clause-marks : goal.returns-clause-marks
returns-clause-marks c =
    let tree = c.args.tree.now in
    let number = subst (λ key. IsNumberOf tree.table key c.in-Some-find.number) c.labels.ensures c.in-Some-find.ensures.found in
    let last = pushed_both tree.table tree.zone tree.sets.items c.args.answer.now c.args.out.now c.push_kind.new.out c.push_kind-2.new.out c.in-Some.name.now c.in-Some-find.number c.index.result.now c.args.marks.now _ _
    c.requires.tree.sets number c.index.ensures c.requires.marks c.as_slice.ensures c.as_slice-2.ensures c.in_ok-push_kind.ensures.out c.in_ok-push_kind-2.ensures.out in
    let both = marks_both tree.table tree.zone c.args.answer.now c.args.out.now c.push_kind-2.new.out c.in-Some.name.now c.in-Some-find.number c.args.marks.now _ _ number c.requires.marks last
    c.in_ok-push_kind.ensures.marks c.in_ok-push_kind-2.ensures.marks in
    record { v4 = both.0; v6 = both.1 }
