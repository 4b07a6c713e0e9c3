use Rattle.dns_names.specs.NameLaws.{put_below}
use Rattle.dns_names.proofs.name.Name.set_below.Goals as goal

pub invariant_of-self-2 : goal.invariant_of-self-2
invariant_of-self-2 c =
    let is = rw c.as_slice.ensures at c.in_ok-set_label.ensures.ok in
    (put_below c.other.inside.wire c.set_label.new.self c.args.label.now c.args.other.now c.other.invariant c.other.view_is c.requires.label c.requires.room is).right

pub returns-clause-ok : goal.returns-clause-ok
returns-clause-ok c =
    let is = rw c.as_slice.ensures at c.in_ok-set_label.ensures.ok in
    (put_below c.other.inside.wire c.set_label.new.self c.args.label.now c.args.other.now c.other.invariant c.other.view_is c.requires.label c.requires.room is).view
