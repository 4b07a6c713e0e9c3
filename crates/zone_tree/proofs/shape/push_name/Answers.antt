use Rattle.std.proofs.Common.{◌≡◌, ◌++◌, ◌∷◌, [], None, length, arith, refl, sym, ◌∙◌}
use Rattle.std.specs.Prelude.{slice_set}
use Rattle.zone_tree.specs.declared.node.Node.{Node}
use Rattle.zone_tree.specs.Tree.{starred}
use Rattle.zone_tree.proofs.Shapes.{there, front_there, shape_plain, shape_wild}
use Rattle.zone_tree.proofs.shape.push_name.Goals as goal

pub returns-then-is_wild-clause-shape : goal.returns-then-is_wild-clause-shape
returns-then-is_wild-clause-shape c =
    let node : Node = record { above = c.args.above; labels = c.label_count-labels.result; is_wild = c.args.is_wild; star = None } in
    let wild = sym c.requires.wild ∙ c.if-is_wild.true in
    let lt = c.requires.new.inside wild in
    let at = there c.args.nodes.now.items c.args.above (omega (arith, lt, c.requires.shape.as_many)) in
    let set = c.set_star.ensures at.item (front_there c.args.nodes.now.items c.push-2.new.self.items node at.item c.args.above at.is c.in_ok-push-2.ensures.items) in
    let nodes : c.set_star.new.nodes.items ≡ slice_set (c.args.nodes.now.items ++ node ∷ []) c.args.above (starred at.item (length c.args.table.now)) =
    set ∙ (λ j. slice_set (c.in_ok-push-2.ensures.items j) c.args.above (starred at.item (c.len-number.ensures j))) in
    rw (c.in_ok-push.ensures.ok, nodes) (
    shape_wild c.args.table.now c.args.nodes.now.items c.args.name node at.item c.requires.shape c.requires.new c.label_count-labels.ensures c.requires.wild refl wild c.wire_len.ensures.proper.short at.is
    )

pub returns-else-is_wild-clause-shape : goal.returns-else-is_wild-clause-shape
returns-else-is_wild-clause-shape c =
    let node : Node = record { above = c.args.above; labels = c.label_count-labels.result; is_wild = c.args.is_wild; star = None } in
    let plain = sym c.requires.wild ∙ c.if-is_wild.false in
    rw (c.in_ok-push.ensures.ok, c.in_ok-push-2.ensures.items) (
    shape_plain c.args.table.now c.args.nodes.now.items c.args.name node c.requires.shape c.requires.new c.label_count-labels.ensures c.requires.wild refl plain
    )
