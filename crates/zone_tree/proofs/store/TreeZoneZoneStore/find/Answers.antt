use Rattle.std.proofs.Common.{subst}
use Rattle.zone_lookup.specs.ZoneAnswer.{Finds, found}
use Rattle.zone_tree.proofs.Cutting.{finds_nothing}
use Rattle.zone_tree.proofs.store.TreeZoneZoneStore.find.Goals as goal

pub returns-in_default : goal.returns-in_default
returns-in_default c =
    let tree = c.self.inside.tree in
    subst (λ zone. Finds (found zone c.args.name.now c.args.kind) c.nothing.result c.args.out.now c.args.out.now) c.self.view_is
    (finds_nothing tree.table tree.zone c.args.name.now c.args.kind c.nothing.result c.args.out.now c.self.invariant.tree_is.names c.in_default.ensures.none c.nothing.ensures.absent c.nothing.ensures.target)
