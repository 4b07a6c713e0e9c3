use Rattle.std.proofs.Common.{◌≡◌, length, get_or, true, false, arith, sym, ap, subst, ◌∙◌}
use Rattle.std.proofs.lemmas.Option.{slice_get-get_or}
use Rattle.audit_run.specs.declared.place.Place.{Place}
use Rattle.audit_run.specs.Following.{EmptyRows, IsUpTo, StandsSo}
use Rattle.audit_run.specs.Parts.{part_marks}
use Rattle.audit_run.specs.Rows.{left_in}
use Rattle.audit_run.proofs.Followed.{starts_left, up_to_all, up_to_fault, up_to_missing}
use Rattle.audit_run.proofs.Followed.{up_to_more}
use Rattle.audit_run.proofs.Followed.{up_to_none}
use Rattle.audit_run.proofs.following.follow.Goals as goal

pub loop-at-init : goal.loop-at-init
loop-at-init c =
    up_to_none (part_marks c.args.part.now c.args.calls.now) c.args.part.now.rule c.args.sides.now
    c.args.places.now c.in_ok-rows.rows.items c.in_ok-history.history
    (λ worker serial. starts_left c.args.part.now c.args.calls.now worker serial
    ∙ ap (λ rows. left_in rows worker serial) (sym c.in_ok-rows.ensures))
    c.in_ok-history.ensures

pub returns-then-not-branch : goal.returns-then-not-branch
returns-then-not-branch c =
    let marks = part_marks c.args.part.now c.args.calls.now in
    let rule = c.args.part.now.rule in
    let places = c.args.places.now in
    let place : Place = get_or places c.loop-at.at (record { side = 0; mark = 0 }) in
    let up = c.loop-at.invariant in
    up_to_fault marks rule c.args.sides.now places c.loop-at.rows.items c.loop-at.history
    c.loop-at.at place up c.loop-at-test.true
    (slice_get-get_or places c.loop-at.at (record { side = 0; mark = 0 }) c.loop-at-test.true)
    (subst (λ b. StandsSo marks rule c.args.sides.now up.told place b c.stands.new.rows.items
    c.stands.new.history) c.if-not-branch.true
    (c.in_ok-stands.ensures marks rule up.told up.followed))

pub loop-at-preserved : goal.loop-at-preserved
loop-at-preserved c =
    let marks = part_marks c.args.part.now c.args.calls.now in
    let rule = c.args.part.now.rule in
    let places = c.args.places.now in
    let place : Place = get_or places c.loop-at.at (record { side = 0; mark = 0 }) in
    let up = c.loop-at.invariant in
    up_to_more marks rule c.args.sides.now places c.loop-at.rows.items c.stands.new.rows.items
    c.loop-at.history c.stands.new.history c.loop-at.at place up c.loop-at-test.true
    (slice_get-get_or places c.loop-at.at (record { side = 0; mark = 0 }) c.loop-at-test.true)
    (subst (λ b. StandsSo marks rule c.args.sides.now up.told place b c.stands.new.rows.items
    c.stands.new.history) c.if-not-branch.false
    (c.in_ok-stands.ensures marks rule up.told up.followed))

pub returns-then-are_empty : goal.returns-then-are_empty
returns-then-are_empty c =
    let marks = part_marks c.args.part.now c.args.calls.now in
    let rule = c.args.part.now.rule in
    let places = c.args.places.now in
    let at_end : c.loop-at.at ≡ length places =
    omega (arith, c.loop-at-test.false, c.loop-at.auto.at-end) in
    up_to_all marks rule c.args.sides.now places c.loop-at.rows.items c.loop-at.history
    (subst (λ n. IsUpTo marks rule c.args.sides.now c.loop-at.rows.items c.loop-at.history places n)
    at_end c.loop-at.invariant)
    (subst (λ r. EmptyRows r true) c.deref.ensures.value c.if-are_empty.ensures)

pub returns : goal.returns
returns c =
    let marks = part_marks c.args.part.now c.args.calls.now in
    let rule = c.args.part.now.rule in
    let places = c.args.places.now in
    let at_end : c.loop-at.at ≡ length places =
    omega (arith, c.loop-at-test.false, c.loop-at.auto.at-end) in
    up_to_missing marks rule c.args.sides.now places c.loop-at.rows.items c.loop-at.history
    (subst (λ n. IsUpTo marks rule c.args.sides.now c.loop-at.rows.items c.loop-at.history places n)
    at_end c.loop-at.invariant)
    (subst (λ r. EmptyRows r false) c.deref.ensures.value c.if-are_empty.ensures)
