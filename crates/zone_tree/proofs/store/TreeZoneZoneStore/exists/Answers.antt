use Rattle.std.proofs.Common.{◌∙◌, ap}
use Rattle.zone_lookup.specs.Zone.{exists_in}
use Rattle.zone_tree.proofs.Filling.{exists_by}
use Rattle.zone_tree.proofs.store.TreeZoneZoneStore.exists.Goals as goal

pub returns : goal.returns
returns c =
    let tree = c.self.inside.tree in
    c.is_some.ensures ∙ exists_by tree.table tree.zone c.args.name.now c.labels.result c.find.result c.self.invariant.tree_is.names c.labels.ensures c.find.ensures.found c.find.ensures.none
    ∙ ap (λ zone. exists_in zone c.args.name.now) c.self.view_is
