use Rattle.dns_names.specs.NameLaws.{put_below}
use Rattle.dns_names.proofs.name.Name.below.Goals as goal

pub invariant_of-result : goal.invariant_of-result
invariant_of-result c =
    let is = rw c.as_slice.ensures at c.in_ok-with_label.ensures.value in
    (put_below c.self.inside.wire c.in_ok-with_label.field-0 c.args.label.now c.args.self.now c.self.invariant c.self.view_is c.requires.label c.requires.room is).right

pub returns : goal.returns
returns c =
    let is = rw c.as_slice.ensures at c.in_ok-with_label.ensures.value in
    (put_below c.self.inside.wire c.in_ok-with_label.field-0 c.args.label.now c.args.self.now c.self.invariant c.self.view_is c.requires.label c.requires.room is).view
