use Rattle.std.proofs.Common.{◌≡◌, ◌<◌, false, None, Some, length, arith, sym, ap, subst, ◌∙◌, get_or}
use Rattle.std.specs.Prelude.{slice_get}
use Rattle.std.proofs.lemmas.Option.{slice_get-get_or}
use Rattle.std.specs.List.{list_any}
use Rattle.zone_tree.specs.Sets.{is_asked, picked}
use Rattle.zone_tree.specs.declared.node.Node.{Node}
use Rattle.zone_tree.proofs.Cutting.{cuts_more, above_inside}
use Rattle.zone_tree.proofs.cuts.cuts_of.Goals as goal

abbrev no_node : Node
no_node = record { above = 0; labels = 0; is_wild = false; star = None }

pub cut_above-above-requires : goal.cut_above-above-requires
cut_above-above-requires c some =
    let lt : c.loop-i.i < length c.args.table.now = omega arith in
    let at = slice_get-get_or c.args.nodes.now c.loop-i.i no_node (omega (arith, lt, c.requires.shape.as_many)) in
    let below = above_inside c.args.table.now c.args.nodes.now c.loop-i.i (length c.loop-i.cuts.items) (get_or c.args.nodes.now c.loop-i.i no_node) c.requires.shape lt at (sym c.loop-i.invariant.as_many) some in
    omega (arith, below, ap length c.deref.ensures.value)

pub loop-i-preserved : goal.loop-i-preserved
loop-i-preserved c =
    let lt : c.loop-i.i < length c.args.table.now = omega arith in
    let node : Node = get_or c.args.nodes.now c.loop-i.i no_node in
    let at = slice_get-get_or c.args.nodes.now c.loop-i.i no_node (omega (arith, lt, c.requires.shape.as_many)) in
    let cuts = c.deref.ensures.value in
    let below = λ (some : 0 < node.labels). subst (λ l. slice_get l node.above ≡ Some c.cut_above-above.result) cuts (c.cut_above-above.ensures.below some) in
    let has = c.has_asked-has_servers.ensures ∙ (λ j. list_any (is_asked 2) (picked (c.as_slice.ensures j) (c.as_slice-in-loop-i.ensures j))) in
    let cut = rw c.label_count-top.ensures at c.cut_or.ensures in
    rw c.in_ok-push.ensures.items (
    cuts_more c.args.table.now c.args.zone.now c.args.nodes.now c.args.sets.now c.loop-i.cuts.items c.loop-i.i node c.index-sets-i.result c.cut_above-above.result c.cut_or.result c.has_asked-has_servers.result c.requires.shape
    c.requires.sets c.loop-i.invariant lt at c.index-sets-i.is c.cut_above-above.ensures.root below has cut
    )
