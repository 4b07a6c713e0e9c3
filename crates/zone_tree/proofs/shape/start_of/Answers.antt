use Rattle.zone_tree.proofs.Shapes.{root_is_new, root_grows, root_starts}
use Rattle.zone_tree.proofs.shape.start_of.Goals as goal

pub push_name-requires-clause-new : goal.push_name-requires-clause-new
push_name-requires-clause-new c = rw c.root.ensures (root_is_new c.args.table.now c.args.owner.now c.in_default.ensures.none)

pub returns-clause-grows : goal.returns-clause-grows
returns-clause-grows c = rw (c.in_ok-number.ensures.names, c.root.ensures) (root_grows c.args.table.now c.args.owner.now)

pub returns-clause-start : goal.returns-clause-start
returns-clause-start c =
    rw (c.in_ok-number.ensures.names, c.root.ensures, c.label_count-above.ensures, c.in_ok-number.ensures.number) (root_starts c.args.table.now c.args.owner.now c.in_default.ensures.none)
