use Rattle.std.proofs.Common.{Some, ◌∙◌, ap, sym}
use Rattle.zone_lookup.specs.Zone.{encloser}
use Rattle.zone_tree.proofs.Cutting.{encloser_at, encloser_none}
use Rattle.zone_tree.proofs.store.TreeZoneZoneStore.encloser.Goals as goal

pub returns-in_default : goal.returns-in_default
returns-in_default c =
    let tree = c.self.inside.tree in
    sym (encloser_none tree.table tree.zone c.args.name.now c.self.invariant.tree_is.names c.in_default.ensures.none) ∙ ap (λ zone. encloser zone c.args.name.now) c.self.view_is

pub returns : goal.returns
returns c =
    ap Some c.in_ok-suffix.ensures ∙ sym (encloser_at c.self.inside.tree c.args.name.now c.in-Some.encloser c.self.invariant.tree_is c.in-Some.ensures.found) ∙ ap (λ zone. encloser zone c.args.name.now) c.self.view_is
