use Rattle.std.proofs.Common.{map}
use Rattle.audit_run.specs.Told.{shown_in}
use Rattle.audit_run.proofs.Followed.{named, not_next, unnamed}
use Rattle.audit_run.proofs.following.stands.Goals as goal

pub returns-in_default : goal.returns-in_default
returns-in_default c = λ marks rule told followed.
    not_next marks rule c.args.sides.now c.args.rows.now.items c.args.history.now told followed
    c.args.place.now c.take_place.new.rows.items c.in_default.ensures

pub returns-in_default-mark_at : goal.returns-in_default-mark_at
returns-in_default-mark_at c = λ marks rule told followed.
    unnamed marks rule c.args.sides.now c.args.rows.now.items c.args.history.now told followed
    c.args.place.now c.in-Some._serial c.take_place.new.rows.items c.in-Some.ensures
    c.in_default-mark_at.ensures

pub returns : goal.returns
returns c = λ marks rule told followed.
    named marks rule c.args.sides.now c.args.rows.now.items c.args.history.now told followed
    c.args.place.now c.in-Some._serial c.take_place.new.rows.items c.in-Some.ensures
    c.in-Some-mark_at.mark.now c.in-Some-mark_at.ensures c.in_ok-taken.taken c.take.new.self
    (c.in_ok-taken.ensures rule (map (shown_in c.args.sides.now) told) followed.shows)
