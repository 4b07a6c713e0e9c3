use Rattle.std.proofs.Common.{◌∙◌, ap, sym, subst}
use Rattle.std.specs.List.{list_any}
use Rattle.name_table.specs.Table.{IsMissing, IsNamed}
use Rattle.zone_lookup.specs.Zone.{has_at}
use Rattle.zone_tree.specs.Sets.{is_asked, picked}
use Rattle.zone_tree.proofs.Filling.{has_in_at}
use Rattle.zone_tree.proofs.Cutting.{has_none, set_of_number}
use Rattle.zone_tree.proofs.store.TreeZoneZoneStore.has.Goals as goal

pub returns-in-Some : goal.returns-in-Some
returns-in-Some c =
    let tree = c.self.inside.tree in
    let named = subst (λ key. IsNamed tree.table c.in-Some.number key) c.labels.ensures c.in-Some.ensures.found.is in
    let node = set_of_number tree c.args.name.now c.in-Some.number c.index.result.now c.self.invariant.tree_is named c.index.ensures in
    c.has_asked.ensures ∙ (λ j. list_any (is_asked c.args.kind) (picked (c.as_slice.ensures j) (c.as_slice-in-Some.ensures j)))
    ∙ has_in_at tree.zone c.args.name.now c.args.kind (picked tree.zone.records c.index.result.now) node ∙ ap (λ zone. has_at zone c.args.name.now c.args.kind) c.self.view_is

pub returns-in-None : goal.returns-in-None
returns-in-None c =
    let tree = c.self.inside.tree in
    let missing = subst (λ key. IsMissing tree.table key) c.labels.ensures c.in-None.ensures.none in
    sym (has_none tree.table tree.zone c.args.name.now c.args.kind c.self.invariant.tree_is.names missing) ∙ ap (λ zone. has_at zone c.args.name.now c.args.kind) c.self.view_is
