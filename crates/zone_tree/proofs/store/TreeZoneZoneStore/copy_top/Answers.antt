use Rattle.std.proofs.Common.{◌≡◌, ◌++◌, ◌∙◌, ap, sym, subst, arith}
use Rattle.std.specs.Prelude.{OnOk}
use Rattle.std.proofs.lemmas.List.{append-nil}
use Rattle.zone_lookup.specs.Zone.{set_at}
use Rattle.zone_tree.specs.Sets.{picked, set_in}
use Rattle.zone_tree.proofs.Shapes.{inside}
use Rattle.zone_tree.proofs.Filling.{no_set, numbered_none, numbered_some, set_in_at}
use Rattle.zone_tree.proofs.Cutting.{set_of_number}
use Rattle.zone_tree.proofs.store.TreeZoneZoneStore.copy_top.Goals as goal

pub returns-in_default : goal.returns-in_default
returns-in_default c =
    let tree = c.self.inside.tree in
    let missing = numbered_none tree.table tree.top tree.zone.origin c.self.invariant.tree_is.top c.in_default.is in
    let none = no_set tree.table tree.zone tree.zone.origin c.args.kind c.self.invariant.tree_is.names missing in
    sym (append-nil c.args.out.now) ∙ ap (λ rs. c.args.out.now ++ rs) (sym none ∙ ap (λ zone. set_at zone zone.origin c.args.kind) c.self.view_is)

pub index-requires : goal.index-requires
index-requires c =
    let tree = c.self.inside.tree in
    let named = numbered_some tree.table tree.top c.in-Some.number tree.zone.origin c.self.invariant.tree_is.top c.in-Some.is in
    let lt = inside tree.table c.in-Some.number tree.zone.origin named in
    omega (arith, lt, c.self.invariant.tree_is.sets.as_many)

pub returns : goal.returns
returns c =
    let tree = c.self.inside.tree in
    let named = numbered_some tree.table tree.top c.in-Some.number tree.zone.origin c.self.invariant.tree_is.top c.in-Some.is in
    let node = set_of_number tree tree.zone.origin c.in-Some.number c.index.result.now c.self.invariant.tree_is named c.index.ensures in
    let set = (λ j. set_in (picked (c.as_slice-all.ensures j) (c.as_slice.ensures j)) c.args.kind) ∙ set_in_at tree.zone tree.zone.origin c.args.kind (picked tree.zone.records c.index.result.now) node
    ∙ ap (λ zone. set_at zone zone.origin c.args.kind) c.self.view_is in
    subst (λ rs. OnOk c.copy_asked.result (c.copy_asked.new.out ≡ c.args.out.now ++ rs)) set c.copy_asked.ensures.ok
