use Rattle.std.proofs.Common.{[], sym, ap, ◌∙◌}
use Rattle.std.proofs.lemmas.List.{get_or_read}
use Rattle.audit_run.specs.Rows.{marks_left}
use Rattle.audit_run.proofs.Followed.{row_has}
use Rattle.audit_run.proofs.following.are_empty.Goals as goal

pub returns-then-not-is_empty : goal.returns-then-not-is_empty
returns-then-not-is_empty c =
    let has = row_has c.row-item.result (sym c.is_empty.ensures ∙ c.if-not-is_empty.true) in
    let at = get_or_read c.args.rows.now c.loop-row.row-index c.row-item.result
    c.loop-row-test.true c.row-item.is [] in
    (c.loop-row.row-index, has.0, λ none. has.1 (ap (λ r. marks_left has.0 r) at ∙ none))
