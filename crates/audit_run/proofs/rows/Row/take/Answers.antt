use Rattle.std.proofs.Common.{◌≡◌, ◌<◌, length, arith, refl, sym, subst, Some}
use Rattle.std.proofs.lemmas.Bool.{false≢true}
use Rattle.std.proofs.lemmas.Option.{slice_get_read, slice_get_within}
use Rattle.audit_run.specs.Rows.{IsNextAt, TakesNext}
use Rattle.audit_run.proofs.TakingOut.{none_next, some_next}
use Rattle.audit_run.proofs.rows.Row.take.Goals as goal

pub returns-in_default : goal.returns-in_default
returns-in_default c = none_next c.args.self.now c.args.mark c.in_default.ensures.none

pub unreachable-requires : goal.unreachable-requires
unreachable-requires c =
    let row = c.self.inside.left.items in
    let view : row ≡ c.args.self.now = c.self.view_is in
    let next = subst (λ r. IsNextAt r c.args.mark c.in-Some.at) (sym view)
    c.in-Some.ensures.found in
    let within : c.in-Some.at < length row = slice_get_within row c.in-Some.at next.call next.is in
    let long = c.self.inside.left.ok.0 in
    false≢true (c.in-None.ensures.variant.1 (omega (arith, long, within)))

pub returns : goal.returns
returns c =
    let row = c.self.inside.left.items in
    let view : row ≡ c.args.self.now = c.self.view_is in
    let next = subst (λ r. IsNextAt r c.args.mark c.in-Some.at) (sym view)
    c.in-Some.ensures.found in
    let within : c.in-Some.at < length row = slice_get_within row c.in-Some.at next.call next.is in
    let left = c.in-Some-remove.left in
    subst (λ r. TakesNext r c.args.mark (Some left.serial) c.remove.new.self.items) view
    (subst (λ new. TakesNext row c.args.mark (Some left.serial) new)
    (sym c.in-Some-remove.ensures.items)
    (some_next row c.args.mark c.in-Some.at left next
    (slice_get_read row (length row) c.in-Some.at left refl within c.in-Some-remove.ensures.value)))
