use Rattle.std.proofs.Common.{Some, drop, ◌-◌, ◌∙◌, ap, sym, arith}
use Rattle.zone_lookup.specs.Zone.{cut_of}
use Rattle.zone_tree.proofs.Shapes.{inside}
use Rattle.zone_tree.proofs.Cutting.{no_cut_at, no_cut_by, cut_is_at, cut_by, cut_labels, cut_name, longest_inside}
use Rattle.zone_tree.proofs.store.TreeZoneZoneStore.cut.Goals as goal

pub returns-in_default : goal.returns-in_default
returns-in_default c =
    let tree = c.self.inside.tree in
    sym (no_cut_at tree.table tree.zone c.args.name.now c.self.invariant.tree_is.names c.in_default.ensures.none) ∙ ap (λ zone. cut_of zone c.args.name.now) c.self.view_is

pub index-requires : goal.index-requires
index-requires c = let lt = longest_inside c.self.inside.tree.table c.args.name.now c.in-Some.encloser c.in-Some.ensures.found in omega (arith, lt, c.self.invariant.tree_is.cuts.as_many)

pub returns-in_default-index : goal.returns-in_default-index
returns-in_default-index c =
    let tree = c.self.inside.tree in
    let at = cut_is_at tree c.args.name.now c.in-Some.encloser c.index.result.now c.self.invariant.tree_is c.in-Some.ensures.found c.index.ensures in
    sym (no_cut_by tree.table (cut_of tree.zone c.args.name.now) c.index.result.now at c.in_default-index.is) ∙ ap (λ zone. cut_of zone c.args.name.now) c.self.view_is

pub index-requires-2 : goal.index-requires-2
index-requires-2 c =
    let tree = c.self.inside.tree in
    let at = cut_is_at tree c.args.name.now c.in-Some.encloser c.index.result.now c.self.invariant.tree_is c.in-Some.ensures.found c.index.ensures in
    let cut = cut_by tree.table (cut_of tree.zone c.args.name.now) c.index.result.now c.in-Some-index.cut at c.in-Some-index.is in
    let lt = inside tree.table c.in-Some-index.cut cut.name cut.named in
    omega (arith, lt, c.self.invariant.tree_is.shape.as_many)

pub overflow_sub-above : goal.overflow_sub-above
overflow_sub-above c =
    let tree = c.self.inside.tree in
    let at = cut_is_at tree c.args.name.now c.in-Some.encloser c.index.result.now c.self.invariant.tree_is c.in-Some.ensures.found c.index.ensures in
    let cut = cut_by tree.table (cut_of tree.zone c.args.name.now) c.index.result.now c.in-Some-index.cut at c.in-Some-index.is in
    let few = cut_labels tree c.args.name.now c.in-Some-index.cut c.index-2.result.now cut c.self.invariant.tree_is c.index-2.ensures in
    omega (arith, few)

pub returns : goal.returns
returns c =
    let tree = c.self.inside.tree in
    let at = cut_is_at tree c.args.name.now c.in-Some.encloser c.index.result.now c.self.invariant.tree_is c.in-Some.ensures.found c.index.ensures in
    let cut = cut_by tree.table (cut_of tree.zone c.args.name.now) c.index.result.now c.in-Some-index.cut at c.in-Some-index.is in
    ap Some c.in_ok-suffix.ensures ∙ ap (λ count. Some (drop (count - c.index-2.result.now.labels) c.args.name.now)) c.label_count.ensures
    ∙ cut_name tree c.args.name.now c.in-Some-index.cut c.index-2.result.now cut c.self.invariant.tree_is c.index-2.ensures ∙ ap (λ zone. cut_of zone c.args.name.now) c.self.view_is
