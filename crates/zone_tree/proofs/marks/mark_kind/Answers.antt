use Rattle.std.proofs.Common.{ap, sym, subst, ◌∙◌}
use Rattle.name_table.specs.Table.{IsMissing, IsNumberOf}
use Rattle.zone_tree.proofs.Marking.{marks_owner, passes_owner, passes_type}
use Rattle.zone_tree.proofs.marks.mark_kind.Goals as goal

pub returns-then-not-is_kind : goal.returns-then-not-is_kind
returns-then-not-is_kind c = λ zone there s. passes_type c.args.table.now zone c.args.kind there c.args.marks.now.items c.args.entry.now s (sym c.is_kind.ensures ∙ c.if-not-is_kind.true)

pub returns-in_default : goal.returns-in_default
returns-in_default c = λ zone there s.
    let missing = subst (λ key. IsMissing c.args.table.now key) (c.labels.ensures ∙ ap (λ r. r.owner) c.entry.view_is) c.in_default.ensures.none in
    passes_owner c.args.table.now zone c.args.kind there c.args.marks.now.items c.args.entry.now s missing

pub returns : goal.returns
returns c = λ zone there s.
    let number = subst (λ key. IsNumberOf c.args.table.now key c.in-Some.number) (c.labels.ensures ∙ ap (λ r. r.owner) c.entry.view_is) c.in-Some.ensures.found in
    rw c.set_mark.ensures (marks_owner c.args.table.now zone c.args.kind there c.args.marks.now.items c.args.entry.now c.in-Some.number s number (sym c.is_kind.ensures ∙ c.if-not-is_kind.false))
